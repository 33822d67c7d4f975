-- The places by ascending key are of rows of the store, and where no key has more than one, those rows are the sorted rows.
use Rattle.std.proofs.lemmas.Result.{IfOk-weaker}
use Rattle.backing_store.proofs.OrderedFacts.{by_key_in, rows_are_kept, rows_placed, widths_are_kept}
use Rattle.backing_store.proofs.store.BackingStore.order.Goals as goal

pub sorted_places-requires-clause-rows : goal.sorted_places-requires-clause-rows
sorted_places-requires-clause-rows c = rows_are_kept c.self.invariant

pub sorted_places-requires-clause-widths : goal.sorted_places-requires-clause-widths
sorted_places-requires-clause-widths c = widths_are_kept c.self.invariant

pub returns-clause-within : goal.returns-clause-within
returns-clause-within c =
    IfOk-weaker c.sorted_places.result _ _ (λ places is. (by_key_in c.self.invariant c.self.view_is places.items is).within)
    c.sorted_places.ensures

pub returns-clause-rows : goal.returns-clause-rows
returns-clause-rows c one =
    let kept = rw c.self.view_is at c.self.invariant.whole.0 in
    IfOk-weaker c.sorted_places.result _ _ (λ places is. rows_placed c.args.self.now places.items kept
    (by_key_in c.self.invariant c.self.view_is places.items is) one) c.sorted_places.ensures
