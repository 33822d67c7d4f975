-- A copy of the lane's store, with the rows of the waiting entries merged, holds all epochs.
use Rattle.std.proofs.Common.{◌≡◌, ◌++◌, take, sym, ap, ◌∙◌, subst}
use Rattle.std.specs.Prelude.{All}
use Rattle.backing_store.specs.{Merged.StoreHolds, SortedRows.sorted_rows}
use Rattle.switch_core.specs.Lanes.{LaneStands}
use Rattle.live_view.specs.{Merging.IsEntryOf, Views.all_epochs, Waiting.{EntriesStand, RowsStand, unmerged}}
use Rattle.live_view.proofs.Lists.{all_written}
use Rattle.live_view.proofs.SortedEntries.{all_there, are_entries, held_alike, same_lists, sorted, sorted_stand}
use Rattle.live_view.proofs.lane.full_store.Goals as goal

pub returns-clause-holds : goal.returns-clause-holds
returns-clause-holds g c m s held =
    let lane = c.args.lane.now in
    let waiting = c.args.waiting.now in
    let kind = c.kind-kind.result.now in
    let stands = g.K.EpochKind.stands kind in
    let f = g.K.EpochKind.folding kind in
    let first = take m.merged m.closed in
    let order = sorted waiting (unmerged m) in
    let store = c.merge_entries.new.store in
    let same : LaneStands stands f lane.cache lane.pipe lane.store m =
    subst (λ k. LaneStands (g.K.EpochKind.stands k) (g.K.EpochKind.folding k) lane.cache lane.pipe lane.store m) (sym c.kind-kind.ensures)
    s in
    let stand : EntriesStand stands waiting (unmerged m) =
    subst (λ k. EntriesStand (g.K.EpochKind.stands k) waiting (unmerged m)) (sym c.kind-kind.ensures) held in
    let kept : StoreHolds f c.in_ok-store.store first =
    subst (λ x. StoreHolds f x first) (sym (c.in_ok-store.ensures ∙ c.store.ensures)) same.kept in
    let rows : RowsStand stands c.in_ok-entries.entries order =
    subst (λ rs. RowsStand stands rs order) (sym c.in_ok-entries.ensures) (sorted_stand stands waiting (unmerged m) stand) in
    let all : StoreHolds f store (first ++ unmerged m) =
    held_alike f store first order (unmerged m) (λ key. same_lists stands waiting (unmerged m) key stand)
    (c.in_ok-merge_entries.ensures.held order first rows kept) in
    subst (λ k. StoreHolds (g.K.EpochKind.folding k) store (all_epochs m)) c.kind-kind.ensures
    (subst (StoreHolds f store) (all_there m) all)

pub merge_entries-requires-clause-rows : goal.merge_entries-requires-clause-rows
merge_entries-requires-clause-rows g c =
    let waiting = c.args.waiting.now in
    let store = c.in_ok-store.store in
    let entry = (g.K.EpochKind.sizes c.kind-kind.result.now).entry in
    let key_words : waiting.key_words ≡ store.key_words = c.requires.key_words
    ∙ sym (ap (λ x. x.key_words) (c.in_ok-store.ensures ∙ c.store.ensures) ∙ c.invariant.ensures.store.key) in
    let entry_words : waiting.state_words ≡ entry = c.requires.entry ∙ ap (λ k. (g.K.EpochKind.sizes k).entry) (sym c.kind-kind.ensures) in
    subst (All (IsEntryOf store.key_words entry)) (sym c.in_ok-entries.ensures)
    (subst (λ n. All (IsEntryOf store.key_words n) (sorted_rows waiting)) entry_words
    (subst (λ n. All (IsEntryOf n waiting.state_words) (sorted_rows waiting)) key_words (are_entries waiting c.invariant-2.ensures)))

pub initial-requires : goal.initial-requires
initial-requires g c = c.deref_mut.ensures.len ∙ c.in_ok-initial.ensures.len ∙ c.state_words.ensures

pub merge_entries-requires-clause-fits : goal.merge_entries-requires-clause-fits
merge_entries-requires-clause-fits g c = record {
  state_words = ap (λ store. store.state_words) (c.in_ok-store.ensures ∙ c.store.ensures) ∙ c.invariant.ensures.store.state
      ∙ sym (ap (λ kind. (g.K.EpochKind.sizes kind).state) c.kind-kind.ensures);
  initial_state = c.deref.ensures.value ∙ all_written _ _ _ (sym (c.initial.auto.state ∙ c.deref_mut.ensures.len)) ∙ c.initial.ensures;
  initial_words = c.deref.ensures.len ∙ c.in_ok-initial.ensures.len ∙ c.state_words.ensures;
  scratch_words = c.deref_mut-2.ensures.len ∙ c.in_ok-scratch.ensures.len ∙ c.scratch_words.ensures;
}
