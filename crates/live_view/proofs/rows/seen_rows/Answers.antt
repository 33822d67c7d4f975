-- A walk through all keys of the store and of the entries gives the whole table.
use Rattle.std.proofs.Common.{◌++◌, ◌∙◌, ap, map, subst, sym}
use Rattle.std.specs.Prelude.{All}
use Rattle.epoch_model.specs.Keys.{ascending}
use Rattle.backing_store.specs.{Ordered.{IsPlaceOf, row_placed}, StoreLaws.keys_of}
use Rattle.live_view.proofs.{HeldOnce.once_each, Lists.all_written, SortedEntries.are_entries, WholeWalk.{walk_begins, walk_ends}}
use Rattle.live_view.proofs.rows.seen_rows.Goals as goal

pub push_all-requires-clause-entries : goal.push_all-requires-clause-entries
push_all-requires-clause-entries g c =
    rw c.in_ok-entries.ensures (λ k d within. (are_entries c.args.waiting.now c.invariant-2.ensures k d within).entry ∙ c.requires.entry)

pub returns-clause-table : goal.returns-clause-table
returns-clause-table g c closed unmerged holds stand =
    let f = g.K.EpochKind.folding c.args.kind.now in
    let same = ap (map (row_placed c.args.store.now)) c.deref.ensures.value
    ∙ c.in_ok-places.ensures.rows (once_each f c.args.store.now closed c.requires.per_key holds) in
    let first = walk_begins f (g.K.EpochKind.stands c.args.kind.now) c.args.store.now c.args.waiting.now closed unmerged
    c.in_ok-entries.entries c.invariant.ensures c.invariant-2.ensures holds stand c.in_ok-entries.ensures in
    walk_ends f (closed ++ unmerged) _ _ c.requires.per_key (c.in_ok-push_all.ensures.seen closed unmerged c.args.waiting.now
    (ascending (keys_of c.args.waiting.now.keys)) holds same stand (rw (c.reserve.ensures, c.new.ensures) first))

pub initial-requires : goal.initial-requires
initial-requires g c = c.deref_mut.ensures.len ∙ c.in_ok-initial.ensures.len ∙ c.state_words.ensures

pub push_all-requires-clause-places : goal.push_all-requires-clause-places
push_all-requires-clause-places g c = subst (All (IsPlaceOf c.args.store.now)) (sym c.deref.ensures.value) c.in_ok-places.ensures.within

pub push_all-requires-clause-initial : goal.push_all-requires-clause-initial
push_all-requires-clause-initial g c = (
  c.deref-2.ensures.value ∙ all_written _ _ _ (sym (c.initial.auto.state ∙ c.deref_mut.ensures.len)) ∙ c.initial.ensures,
  c.deref-2.ensures.len ∙ c.in_ok-initial.ensures.len ∙ c.state_words.ensures,
)

pub push_all-requires-clause-states : goal.push_all-requires-clause-states
push_all-requires-clause-states g c = c.requires.state

pub push_all-requires-clause-state : goal.push_all-requires-clause-state
push_all-requires-clause-state g c = c.deref_mut-2.ensures.len ∙ c.in_ok-state.ensures.len ∙ c.state_words-2.ensures

pub push_all-requires-clause-scratch : goal.push_all-requires-clause-scratch
push_all-requires-clause-scratch g c = c.deref_mut-3.ensures.len ∙ c.in_ok-scratch.ensures.len ∙ c.scratch_words.ensures
