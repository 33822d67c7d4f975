-- Each table is that of the epochs of its lane's machine, since all of them are merged.
use Rattle.std.proofs.Common.{◌≡◌, ◌<◌, ◌++◌, [], ◌∷◌, Some, map, take, sym, ap, ◌∙◌, subst, le_of_lt, le_trans, zero-add}
use Rattle.std.proofs.Math.Facts.{Fits-below}
use Rattle.std.specs.Prelude.{slice_get}
use Rattle.query_lang.specs.declared.fault.TheConstants.{MAX_KEYS}
use Rattle.epoch_entry.specs.contracts.any.AnyEpochsEpochKind.TheImpl.{ghosts}
use Rattle.backing_store.specs.Merged.{StoreHolds}
use Rattle.switch_core.specs.Pipelines.{heading_of, stored_table, tables_of}
use Rattle.switch_core.specs.PlanLanes.{StandsFor, folding_at, lane_is_drained, stored_tables}
use Rattle.switch_core.proofs.{SideBySide.{got_here, each_long, each_at}, LaneFacts.all_at}
use Rattle.switch_core.proofs.{LaneTables.{drained_holds, stored_next, stored_whole, tables_next, tables_whole}, LanesMade.group_sound}
use Rattle.switch_core.proofs.tables.lane_tables.Goals as goal

pub overflow_cast-i : goal.overflow_cast-i
overflow_cast-i g c =
    let long = each_long _ 0 c.args.lanes.now c.args.plan.now.groups c.requires.lanes.2 in
    Fits-below {n = MAX_KEYS} tt
    (le_trans (le_of_lt (subst (λ n. c.loop-i.i < n) long c.loop-i-test.true)) c.invariant.ensures.most_groups)

pub group-requires : goal.group-requires
group-requires g c =
    subst (λ n. c.loop-i.i < n) (each_long _ 0 c.args.lanes.now c.args.plan.now.groups c.requires.lanes.2) c.loop-i-test.true

pub held_table-requires : goal.held_table-requires
held_table-requires g c =
    let own = group_sound c.args.plan.now c.loop-i.i c.group.result.now c.invariant.ensures c.group.ensures in
    own.2.most_keys

pub loop-i-preserved : goal.loop-i-preserved
loop-i-preserved g c =
    let i = c.loop-i.i in
    let groups = c.args.plan.now.groups in
    let lanes = c.args.lanes.now in
    let lane = c.index-lanes-i.result in
    let here : slice_get lanes i ≡ Some lane = got_here c.args.lanes.now i c.index-lanes-i.result c.loop-i-test.true ∙ ap (λ l. Some l)
    (sym c.index-lanes-i.is) in
    let each : (folding_at lane).row_per_epoch ≡ c.row_per_epoch-row_per_epoch.result =
    sym (c.row_per_epoch-row_per_epoch.ensures ∙ ap (λ k. (ghosts.folding k).row_per_epoch) c.kind.ensures) in
    let own : c.in_ok-held_table.field-0 ≡ stored_table (heading_of c.group.result.now) (folding_at lane).row_per_epoch lane.store =
    c.in_ok-held_table.ensures.stored
    ∙ (ap (λ b. stored_table (heading_of c.group.result.now) b c.store.result.now) (sym each)
    ∙ ap (stored_table (heading_of c.group.result.now) (folding_at lane).row_per_epoch) c.store.ensures) in
    record {
      stored = c.in_ok-push.ensures.ok ∙ (ap (λ ts. ts ++ c.in_ok-held_table.field-0 ∷ []) c.loop-i.invariant.stored
          ∙ (ap (λ t. take i (stored_tables groups lanes) ++ t ∷ []) own
          ∙ sym (stored_next groups lanes i c.group.result.now lane c.group.ensures here)));
      closed = λ machines stand.
          let found = each_at (λ n. StandsFor) 0 i lanes machines lane stand here in
          let drained = all_at lane_is_drained lanes i lane c.requires.drained here in
          let held : StoreHolds (folding_at lane) c.store.result.now found.0.closed =
          subst (λ store. StoreHolds (folding_at lane) store found.0.closed) (sym c.store.ensures)
          (drained_holds lane found.0 drained (found.2 i (sym (zero-add i)))) in
          let table = c.in_ok-held_table.ensures.held (folding_at lane) found.0.closed each held in
          let next = tables_next groups lanes machines i c.group.result.now lane found.0 c.group.ensures here found.1 in
          c.in_ok-push.ensures.ok ∙ (ap (λ ts. ts ++ c.in_ok-held_table.field-0 ∷ []) (c.loop-i.invariant.closed machines stand)
          ∙ (ap (λ t. take i (tables_of groups (map folding_at lanes) machines) ++ t ∷ []) table ∙ sym next));
    }

pub returns : goal.returns
returns g c =
    let end = c.loop-i-test.false in record {
      stored = c.loop-i.invariant.stored ∙ stored_whole c.args.plan.now.groups c.args.lanes.now c.loop-i.i end;
      closed = λ machines stand.
          let lanes = c.args.lanes.now in
          c.loop-i.invariant.closed machines stand ∙ tables_whole c.args.plan.now.groups lanes machines c.loop-i.i end;
    }
