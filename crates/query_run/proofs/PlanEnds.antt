-- The tables that the pipeline of a plan gives at the end of packets are those of the plan's text.
use Rattle.std.proofs.Common.{◌≡◌, ℕ, suc, ◌+◌, ◌<◌, List, [], ◌∷◌, length, map, drop, Some, refl, sym, ap, ap₂, ◌∙◌, subst, arith}
use Rattle.std.proofs.{Common.length-append, lemmas.List.{length-map, Elements.All-map}}
use Rattle.std.specs.{Prelude.{slice_get, flat_map, slice_index_or}, List.All}
use Rattle.marple_base.specs.declared.field.TheConstants.{FIELDS}
use Rattle.epoch_entry.specs.{declared.purpose.Entries.TheVariants.Folds, Foldings.folding_of}
use Rattle.epoch_model.specs.{Driving.TakenUsesAreInTrace, Epochs.Geometry, Laws.{HasRoom, IsInTrace}, Machine.end_of}
use Rattle.final_queries.specs.FinalLaws.{AreAlike, AlikeFoldingsMakeOneTable}
use Rattle.final_queries.specs.GroupTable.{ClosedGiveTheGroupTable, closed_table, group_table}
use Rattle.plan_file.specs.declared.made.{Folded.Folded, Made.Made}
use Rattle.plan_loader.specs.Meaning.{fold_in, heading_in, plan_output, plan_tables, table_in, uses_in}
use Rattle.plan_loader.specs.Parts.{AreGroupsFrom, IsGroupFrom, IsPlanFrom, IsSoundFolded, IsSoundMade}
use Rattle.plan_loader.proofs.{Folds.{fold_in_is, foldings}, SameUses.uses_same, SoundPlan.{all_at, shape_same}}
use Rattle.query_tables.specs.Tables.{heading_of_shape, table_text_at}
use Rattle.stage_plan.specs.{declared.group.GroupPlan.GroupPlan, Planned.taken}
use Rattle.stage_plan.specs.Sound.{PlanParts}
use Rattle.switch_core.specs.{Pipelines.{heading_of, tables_of}, PlanLanes.{AreLanesOf, LaneView, folding_at}, Rows.EachFrom}
use Rattle.switch_core.specs.Ends.{end_machines, ends_from, uses_by}
use Rattle.query_run.specs.{PlanReports.{EndsAreTheTexts, HasKeys, HaveNumbers, numbered_print}, Reports.Reports}
use Rattle.query_run.specs.declared.report.Report.TheVariants.{Plan}
use Rattle.query_run.proofs.QueryEnds.{IsFoldLane, first_at}

-- a groupby's table has, but for its rows, what its group gives
heading_same : (registers : ℕ) (one : Folded) (group : GroupPlan) → IsSoundFolded registers one → IsGroupFrom one group
    → heading_of group ≡ heading_in one
heading_same registers one group s from = ap heading_of_shape (shape_same registers one group s from)

module _ (law : AlikeFoldingsMakeOneTable) (closed : ClosedGiveTheGroupTable) (order : TakenUsesAreInTrace) (made : Made) (plan : PlanParts)
    (buckets : ℕ) (g : Geometry) (packets : List (List ℕ)) (sound : IsSoundMade made) (from : IsPlanFrom made plan) (room : HasRoom g) where
  in_trace : (i : ℕ) → IsInTrace (length packets) (uses_by plan i packets)
  in_trace i = subst (λ n. IsInTrace n (uses_by plan i packets)) (length-map packets (taken plan i))
      (order.order (map (taken plan i) packets))

  one_table : (i : ℕ) (one : Folded) (group : GroupPlan) (lane : LaneView) → slice_get made.groups i ≡ Some one → IsGroupFrom one group
      → IsFoldLane plan buckets i lane group
      → closed_table (heading_of group) (folding_at lane) (end_of g (uses_by plan i packets) (length packets)).closed ≡ table_in made g
      packets one
  one_table i one group lane at is of_lane =
      let kind = of_lane.kind is.fold is.program in
      let alike : AreAlike (folding_at lane) (folding_of is.fold) = record
      { row_per_epoch = kind.row_per_epoch; states = λ rows. kind.folded rows } in
      let fold = is.is_fold.is_fold in
      let registers = FIELDS + length made.ops in
      law.by_closed (heading_of group) (folding_at lane) (folding_of is.fold) (end_of g (uses_by plan i packets) (length packets)).closed
      alike ∙ closed (heading_of group) (folding_of is.fold) g (uses_by plan i packets) (length packets) room (in_trace i)
      ∙ ap (group_table (heading_of group) (folding_of is.fold) g) (uses_same made plan from i one at packets)
      ∙ ap (λ f. group_table (heading_of group) f g (uses_in made one packets))
      (foldings one.group is.fold (fold_in one) fold (fold_in_is one is.fold fold))
      ∙ ap (λ h. group_table h (folding_of (fold_in one)) g (uses_in made one packets))
      (heading_same registers one group (all_at (IsSoundFolded registers) made.groups i one sound.groups at) is)

  tables_at : (i : ℕ) (ones : List Folded) (groups : List GroupPlan) (lanes : List LaneView) → drop i made.groups ≡ ones
      → AreGroupsFrom ones groups → EachFrom (IsFoldLane plan buckets) i lanes groups
      → tables_of groups (map folding_at lanes) (ends_from plan g packets i groups) ≡ map (table_in made g packets) ones
  tables_at i [] [] [] e zip each = refl
  tables_at i [] [] (lane ∷ lanes) e zip each = absurd each
  tables_at i [] (group ∷ groups) lanes e zip each = absurd zip
  tables_at i (one ∷ ones) [] lanes e zip each = absurd zip
  tables_at i (one ∷ ones) (group ∷ groups) [] e zip each = absurd each
  tables_at i (one ∷ ones) (group ∷ groups) (lane ∷ lanes) e zip each =
      let at = first_at made.groups i one ones e in
      ap₂ (λ t ts. t ∷ ts) (one_table i one group lane at.0 zip.0 each.0) (tables_at (suc i) ones groups lanes at.1 zip.1 each.1)

  pub tables_are : (lanes : List LaneView) → AreLanesOf Folds plan buckets lanes
      → tables_of plan.groups (map folding_at lanes) (end_machines plan g packets) ≡ plan_tables made g packets
  unfolding plan_tables
  tables_are lanes each = tables_at 0 made.groups plan.groups lanes refl from.groups each

pub ends_are : AlikeFoldingsMakeOneTable → ClosedGiveTheGroupTable → TakenUsesAreInTrace → EndsAreTheTexts
ends_are law closed order made plan buckets lanes g packets sound from each room =
    tables_are law closed order made plan buckets g packets sound from room lanes each

-- tables of groups have their keys, and there is one for each group
pub tables_have_keys : (made : Made) (g : Geometry) (packets : List (List ℕ)) → All HasKeys (plan_tables made g packets)
unfolding plan_tables
tables_have_keys made g packets =
    All-map HasKeys (table_in made g packets) made.groups (λ k d within. keys_fit (slice_index_or made.groups k d))
  where
    keys_fit : (one : Folded) → HasKeys (table_in made g packets one)
    keys_fit one = omega (arith, length-append one.group.key_names one.group.state_names)

pub tables_count : (made : Made) (g : Geometry) (packets : List (List ℕ)) → length (plan_tables made g packets) ≡ length made.groups
unfolding plan_tables
tables_count made g packets = length-map made.groups (table_in made g packets)

-- what is printed of those tables is what the plan prints
module _ (law : EndsAreTheTexts) (made : Made) (plan : PlanParts) (prints : List ℕ) (sound : IsSoundMade made) (from : IsPlanFrom made plan)
    (same : prints ≡ made.prints) where
  have_numbers : (g : Geometry) (packets : List (List ℕ)) → HaveNumbers prints (plan_tables made g packets)
  have_numbers g packets = record {
    within =
        subst (λ ns. All (λ number. number < length (plan_tables made g packets)) ns) (sym same)
        (subst (λ n. All (λ number. number < n) made.prints) (sym (tables_count made g packets)) sound.prints);
    keys = tables_have_keys made g packets;
  }

  output_is : (g : Geometry) (packets : List (List ℕ)) → numbered_print prints (plan_tables made g packets) ≡ plan_output made g packets
  unfolding plan_output
  output_is g packets = ap (flat_map (table_text_at (plan_tables made g packets))) same

  pub plan_reports : Reports (Plan prints) plan (plan_output made)
  plan_reports = record {
    may_print = λ buckets lanes g packets planned each room whole. subst (HaveNumbers prints)
        (sym (law made plan buckets lanes g packets sound from each room)) (have_numbers g packets);
    prints = record {
      at_ends = λ buckets lanes g packets planned each room whole. ap (numbered_print prints)
          (law made plan buckets lanes g packets sound from each room) ∙ output_is g packets;
    };
  }
