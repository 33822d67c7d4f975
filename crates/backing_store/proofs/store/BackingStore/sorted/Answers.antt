-- Rows made at places that are sorted by key are the sorted rows of the store.
use Rattle.std.proofs.lemmas.Result.{IfOk-weaker}
use Rattle.backing_store.proofs.{OrderedFacts.{rows_are_kept, widths_are_kept}, SortedFacts.rows_sorted}
use Rattle.backing_store.proofs.store.BackingStore.sorted.Goals as goal

pub sorted_places-requires-clause-rows : goal.sorted_places-requires-clause-rows
sorted_places-requires-clause-rows c = rows_are_kept c.self.invariant

pub sorted_places-requires-clause-widths : goal.sorted_places-requires-clause-widths
sorted_places-requires-clause-widths c = widths_are_kept c.self.invariant

pub made_rows-requires-clause-rows : goal.made_rows-requires-clause-rows
made_rows-requires-clause-rows c = rows_are_kept c.self.invariant

pub made_rows-requires-clause-widths : goal.made_rows-requires-clause-widths
made_rows-requires-clause-widths c = widths_are_kept c.self.invariant

pub returns : goal.returns
returns c =
    let kept = rw c.self.view_is at c.self.invariant.whole.0 in
    IfOk-weaker c.made_rows.result _ _ (λ made is. rows_sorted c.args.self.now made kept is.1
    (λ key. rw (← c.self.view_is) (is.0 key))) c.made_rows.ensures
