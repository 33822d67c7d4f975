-- What is kept for the key and for the row of a place is what the store has there.
use Rattle.std.{proofs.Common.{◌∷◌, [], ◌∙◌, ap, arith, get_or, length, refl, sym}, proofs.lemmas.Option.slice_get_read}
use Rattle.backing_store.specs.RowOrder.{first_word}
use Rattle.backing_store.proofs.OrderedFacts.{epochs_are, key_is, of_in, place_in, widths_are_kept, words_are}
use Rattle.backing_store.proofs.store.BackingStore.row_at.Goals as goal

pub key_at-requires : goal.key_at-requires
key_at-requires c =
    let a = c.self.inside in
    let p = c.args.place.now in
    let is = place_in c.self.invariant c.self.view_is p c.requires in
    record {
      of = of_in c.self.invariant c.self.view_is p c.requires;
      first =
          c.from_ref.ensures.value ∙ ap (λ word. word ∷ []) is.first
          ∙ ap (λ n. first_word (get_or a.keys.keys n []) ∷ []) (sym is.number);
      widths = widths_are_kept c.self.invariant;
    }

pub index-requires : goal.index-requires
index-requires c =
    omega (arith, of_in c.self.invariant c.self.view_is c.args.place.now c.requires, c.self.invariant.many, c.self.inside.merged.ok.0)

pub returns-clause-key : goal.returns-clause-key
returns-clause-key c = key_is c.self.invariant c.self.view_is c.args.place.now c.key_at.result.now c.key_at.ensures

pub returns-clause-epochs : goal.returns-clause-epochs
returns-clause-epochs c =
    let a = c.self.inside in
    let p = c.args.place.now in
    epochs_are c.self.invariant c.self.view_is p c.key_at.result.now c.index.result.now c.key_at.ensures
    (slice_get_read a.merged.items (length a.merged.items) p.of c.index.result.now refl
    (omega (arith, of_in c.self.invariant c.self.view_is p c.requires, c.self.invariant.many)) c.index.ensures)

pub returns-clause-state : goal.returns-clause-state
returns-clause-state c = words_are c.self.invariant c.self.view_is c.args.place.now c.row.result.now c.row.ensures
