-- A store that holds all epochs of a lane gives the table that they close to, and so do the rows that are seen of them.
use Rattle.std.proofs.{Common.{◌≡◌, take, sym, ap, ap₂, arith, ◌∙◌, subst}, lemmas.Result.IfOk-weaker}
use Rattle.epoch_model.specs.Tables.{closed_epochs, closed_rows}
use Rattle.backing_store.specs.Merged.{StoreHolds}
use Rattle.switch_core.specs.Pipelines.{heading_of, shown_table}
use Rattle.live_view.specs.{Views.all_epochs, Waiting.{EntriesStand, unmerged}}
use Rattle.live_view.proofs.SortedEntries.{all_there}
use Rattle.live_view.proofs.tables.view_lane.Goals as goal

pub returns-clause-table : goal.returns-clause-table
returns-clause-table g c =
    let lane = c.args.lane.now in
    let waiting = c.in_ok-waiting.waiting in
    let shown = c.in_ok-shown.shown in
    let kind = c.kind-2.result.now in
    let f = g.K.EpochKind.folding kind in
    IfOk-weaker c.shown_table.result _ _ (λ table made m s.
    let first = take m.merged m.closed in
    let kept : StoreHolds f c.store.result.now first = subst (λ x. StoreHolds f x first) (sym c.store.ensures)
    (subst (λ k. StoreHolds (g.K.EpochKind.folding k) lane.store first) (sym c.kind-2.ensures) s.kept) in
    let stand : EntriesStand (g.K.EpochKind.stands kind) waiting (unmerged m) =
    subst (λ k. EntriesStand (g.K.EpochKind.stands k) waiting (unmerged m)) (sym c.kind-2.ensures)
    (c.in_ok-waiting.ensures.held m s.front) in
    let seen = c.in_ok-shown.ensures.table first (unmerged m) kept stand in
    let rows : shown.rows ≡ closed_rows (g.K.EpochKind.folding lane.kind) (all_epochs m) = seen.0 ∙ (ap (closed_rows f) (all_there m)
    ∙ ap (λ k. closed_rows (g.K.EpochKind.folding k) (all_epochs m)) c.kind-2.ensures) in
    let epochs : shown.epochs ≡ closed_epochs (all_epochs m) = seen.1 ∙ ap closed_epochs (all_there m) in
    made ∙ ap₂ (shown_table (heading_of c.args.group.now)) rows epochs) c.shown_table.ensures

pub held_table-requires : goal.held_table-requires
held_table-requires g c = omega (arith, c.requires.keys, c.invariant.ensures.front.few_key_words)

pub seen_rows-requires-clause-entry : goal.seen_rows-requires-clause-entry
seen_rows-requires-clause-entry g c = c.in_ok-waiting.ensures.state_words ∙ sym (ap (λ kind. (g.K.EpochKind.sizes kind).entry) c.kind-2.ensures)

pub seen_rows-requires-clause-per_key : goal.seen_rows-requires-clause-per_key
seen_rows-requires-clause-per_key g c =
    ap (λ kind. (g.K.EpochKind.folding kind).row_per_epoch) (c.kind-2.ensures ∙ sym c.kind.ensures) ∙ sym c.row_per_epoch.ensures
    ∙ c.if-row_per_epoch.false

pub seen_rows-requires-clause-state : goal.seen_rows-requires-clause-state
seen_rows-requires-clause-state g c = ap (λ store. store.state_words) c.store.ensures ∙ c.invariant.ensures.store.state
    ∙ sym (ap (λ kind. (g.K.EpochKind.sizes kind).state) c.kind-2.ensures)

pub shown_table-requires : goal.shown_table-requires
shown_table-requires g c = omega (arith, c.requires.keys, c.invariant.ensures.front.few_key_words)
