-- A search follows the chain of the key's home.
use Rattle.std.proofs.Common.{◌≡◌, ◌-◌, ◌≤◌, suc, get_or, length, sym, ◌∙◌, arith}
use Rattle.epoch_model.proofs.KeyLists.{key_eq-not, key_eq-true}
use Rattle.backing_store.{specs.Prints.row_at, proofs.{KeyFacts.row_within, SearchFacts.{IsFollowed, begun, gone_on, printed}}}
use Rattle.backing_store.proofs.LinkFacts.{no_link}
use Rattle.backing_store.proofs.chains.find_key.Goals as goal
use Rattle.backing_store.proofs.chains.find_key.Goals.{Else-is_at}

pub loop-next-init : goal.loop-next-init
loop-next-init c =
    begun c.args.width c.args.words.now c.args.links.now c.args.homes.now c.args.key.now c.end_of-next.result c.requires
    (rw c.fingerprint-print.ensures at c.end_of-next.ensures.told) (rw c.fingerprint-print.ensures at c.end_of-next.ensures.other)

pub is_at-requires-clause-row : goal.is_at-requires-clause-row
is_at-requires-clause-row c =
    row_within (c.loop-next.next - 1) (length c.args.links.now) c.args.width c.args.words.now
    (omega (arith, c.loop-next.invariant.low)) c.requires.flat

pub is_at-requires-clause-link : goal.is_at-requires-clause-link
is_at-requires-clause-link c =
    printed c.args.width c.args.words.now c.args.links.now c.args.homes.now (c.loop-next.next - 1) c.requires
    (omega (arith, c.loop-next.invariant.low))

pub returns-then-is_at : goal.returns-then-is_at
returns-then-is_at c = (
  omega (arith, c.loop-next.invariant.low),
  key_eq-true (row_at c.args.width c.args.words.now (c.loop-next.next - 1)) c.args.key.now (sym c.is_at.ensures ∙ c.if-is_at.true),
)

-- where the search goes on
onwards : (c : Else-is_at) → let before = (get_or c.args.links.now (c.loop-next.next - 1) no_link).before in
    IsFollowed c.args.width c.args.words.now c.args.links.now c.args.homes.now c.args.key.now before × (before ≤ c.loop-next.next - 1)
onwards c =
    let at = c.loop-next.next - 1 in
    let next : c.loop-next.next ≡ suc at = omega (arith, c.loop-next-test.true) in
    gone_on c.args.width c.args.words.now c.args.links.now c.args.homes.now c.args.key.now at c.requires (rw next at c.loop-next.invariant)
    (key_eq-not (row_at c.args.width c.args.words.now at) c.args.key.now (sym c.is_at.ensures ∙ c.if-is_at.false))

pub loop-next-smaller : goal.loop-next-smaller
loop-next-smaller c = let onwards = onwards c in omega (arith, c.loop-next-test.true, onwards.1)

pub loop-next-preserved : goal.loop-next-preserved
loop-next-preserved c = (onwards c).0
