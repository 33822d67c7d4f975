-- The number kept at a place is that of the key of the row there.
use Rattle.std.proofs.{Common.{length, refl, arith}, lemmas.Option.slice_get_read}
use Rattle.backing_store.proofs.StateFacts.{key_got, state_within}
use Rattle.backing_store.proofs.states.States.of.Goals as goal

pub index-requires : goal.index-requires
index-requires c =
    let a = c.self.inside in
    omega (arith, state_within a.width a.of.items a.words.items c.self.view_is c.requires, a.of.ok.0)

pub returns : goal.returns
returns c =
    let a = c.self.inside in
    let low = state_within a.width a.of.items a.words.items c.self.view_is c.requires in
    rw (← c.self.view_is) (key_got a.width a.of.items a.words.items c.args.at c.index.result.now
    (slice_get_read a.of.items (length a.of.items) c.args.at c.index.result.now refl low c.index.ensures))
