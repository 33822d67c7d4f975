-- The machines of a plan at the end of a trace, groupby by groupby, and the tables that they give.
use Rattle.std.proofs.Common.{◌≡◌, ℕ, zero, suc, ◌<◌, List, [], ◌∷◌, ◌++◌, Some, length, map, drop, get_or, refl, sym, ap, ◌∙◌, subst}
use Rattle.std.proofs.{Common.arith, Math.Seq.drop-cons, lemmas.{List.{length-drop, length-map}, Option.slice_get-get_or}}
use Rattle.std.{proofs.lemmas.List.Elements.{All-nil, All-cons}, specs.List.{All, slice_get}}
use Rattle.query_lang.specs.declared.{fold.TypedFold.TypedFold, typed.TypedOp.TypedOp}
use Rattle.query_lang.specs.declared.typed.TypedOp.TheVariants as op
use Rattle.query_lang.specs.{declared.typed.{TypedQuery.TypedQuery, TypedStream.TypedStream}, Streams.{Taking, takings}}
use Rattle.query_lang.specs.TypedQueries.{IsValidQuery, AreValidStreams, IsValidOp}
use Rattle.stage_plan.specs.Uses.{uses}
use Rattle.epoch_model.specs.{Driving.TakenUsesAreInTrace, Epochs.Geometry, Laws.{HasRoom, IsInTrace}, Machine.end_of}
use Rattle.epoch_entry.specs.{declared.purpose.Entries.TheVariants.Folds, Foldings.folding_of}
use Rattle.epoch_entry.specs.contracts.any.AnyEpochsEpochKind.TheImpl.{ghosts}
use Rattle.final_queries.specs.FinalLaws.{AreAlike, AlikeFoldingsMakeOneTable}
use Rattle.final_queries.specs.GroupTable.{ClosedGiveTheGroupTable, closed_table, group_table}
use Rattle.plan_loader.proofs.SoundPlan.{all_at}
use Rattle.stage_plan.specs.{Packets.AreWhole, declared.group.GroupPlan.GroupPlan, Planned.{IsPlanOf, fold_at, taken, wiring_at}}
use Rattle.stage_plan.specs.{Shape.group_shape, Sound.PlanParts}
use Rattle.switch_core.specs.{Pipelines.{IsLaneOf, heading_of, tables_of}, PlanLanes.{LaneView, AreLanesOf, folding_at}, Rows.EachFrom}
use Rattle.switch_core.specs.Ends.{uses_by, ends_from, end_machines}
use Rattle.query_tables.specs.{Tables.{group_tables, tables_from, query_table, table_if, query_text}, TableLaws.QueryTablesAreRead}
use Rattle.query_run.specs.{QueryReports.{AreGroupTables, query_print}, Reports.Reports, Runs.{ends_of, query_ends, EndsAreTheQuerys}}
use Rattle.query_run.specs.declared.report.Report.TheVariants.{Query}

-- the item at a place is the first of those from there on
pub first_at : {A : Type 0} (xs : List A) (i : ℕ) (x : A) (rest : List A) → drop i xs ≡ x ∷ rest → (slice_get xs i ≡ Some x)
    × (drop (suc i) xs ≡ rest) × (i < length xs)
first_at xs i x rest e =
    let within : i < length xs = omega (arith, length-drop i xs, ap length e) in
    let parts = drop-cons xs i x within in
    let here : get_or xs i x ≡ x = cc in
    let others : drop (suc i) xs ≡ rest = cc in
    (slice_get-get_or xs i x within ∙ ap Some here, others, within)

-- the uses of a groupby are those that the plan takes
uses_are : (q : TypedQuery) (plan : PlanParts) (packets : List (List ℕ)) (i : ℕ) → IsPlanOf q plan → AreWhole packets
    → i < length plan.groups → uses_by plan i packets ≡ uses q i packets
uses_are q plan packets i p whole within = sym (p.takes i packets within whole)

machines_from : (q : TypedQuery) (plan : PlanParts) (g : Geometry) (packets : List (List ℕ)) → IsPlanOf q plan → AreWhole packets
    → (i : ℕ) (groups : List GroupPlan) (rest : List Taking) → drop i plan.groups ≡ groups → length groups ≡ length rest
    → ends_from plan g packets i groups ≡ ends_of q g packets i rest
machines_from q plan g packets p whole i [] [] e l = refl
machines_from q plan g packets p whole i [] (t ∷ rest) e l = absurd (omega (arith, l))
machines_from q plan g packets p whole i (group ∷ groups) [] e l = absurd (omega (arith, l))
machines_from q plan g packets p whole i (group ∷ groups) (t ∷ rest) e l =
    let at = first_at plan.groups i group groups e in
    let more = machines_from q plan g packets p whole (suc i) groups rest at.1 (omega (arith, l)) in
    ap (λ us. end_of g us (length packets) ∷ ends_from plan g packets (suc i) groups) (uses_are q plan packets i p whole at.2)
    ∙ ap (λ ms. end_of g (uses q i packets) (length packets) ∷ ms) more

pub machines_are : (q : TypedQuery) (plan : PlanParts) (g : Geometry) (packets : List (List ℕ)) → IsPlanOf q plan → AreWhole packets
    → end_machines plan g packets ≡ query_ends q g packets
unfolding query_ends
machines_are q plan g packets p whole = machines_from q plan g packets p whole 0 plan.groups (takings q.streams) refl p.groups

-- each groupby of a valid query has a fold

abbrev HasFold : List TypedFold → Taking → Type 0
HasFold folds t = t.fold_number < length folds

folds_there : (names : ℕ) (folds : List TypedFold) (before streams : List TypedStream) → AreValidStreams names folds before streams
    → All (HasFold folds) (takings streams)
folds_there names folds before [] valid = All-nil (HasFold folds)
folds_there names folds before (one ∷ streams) valid = by_op one.op valid.0.operator
    (folds_there names folds (before ++ one ∷ []) streams valid.1)
  where
    by_op : (o : TypedOp) → IsValidOp folds before (length one.columns) o → All (HasFold folds) (takings streams)
        → All (HasFold folds) (takings (record one { op = o } ∷ streams))
    by_op (op.Filter input condition) v rest = rest
    by_op (op.Map input values) v rest = rest
    by_op (op.Zip left right slots) v rest = rest
    by_op (op.Group input keys f args) v rest = All-cons (HasFold folds)
        (record { input = input; keys = keys; fold_number = f; args = args }) (takings streams) v.1.is_fold rest

got_at : {A : Type 0} (xs : List A) (i : ℕ) → i < length xs → (x : A) × (slice_get xs i ≡ Some x)
got_at [] i h = absurd (omega arith)
got_at (x ∷ xs) zero h = (x, refl)
got_at (x ∷ xs) (suc i) h = got_at xs i (omega (arith, h))

fold_there : (q : TypedQuery) (i : ℕ) → IsValidQuery q → i < length (takings q.streams) → (f : TypedFold) × (fold_at q i ≡ Some f)
fold_there q i valid within =
    let t = got_at (takings q.streams) i within in
    let has = all_at (HasFold q.folds) (takings q.streams) i t.0 (folds_there (length q.names) q.folds [] q.streams valid.streams) t.1 in
    let f = got_at q.folds t.0.fold_number has in
    (f.0, rw t.1 f.1)

-- the lane is that of the plan's groupby with this number, with entries for folds
abbrev pub IsFoldLane : PlanParts → ℕ → ℕ → LaneView → GroupPlan → Type 0
IsFoldLane plan buckets n lane group =
    IsLaneOf Folds buckets lane.cache (ghosts.sizes lane.kind) (ghosts.folding lane.kind) (ghosts.open_bound lane.kind)
    (ghosts.absorb_bound lane.kind) group (wiring_at plan n)

-- the tables

module _ (law : AlikeFoldingsMakeOneTable) (closed : ClosedGiveTheGroupTable) (order : TakenUsesAreInTrace) (q : TypedQuery)
    (plan : PlanParts) (buckets : ℕ) (g : Geometry) (packets : List (List ℕ))
    (valid : IsValidQuery q) (p : IsPlanOf q plan) (room : HasRoom g) (whole : AreWhole packets) where
  in_trace : (i : ℕ) → IsInTrace (length packets) (uses_by plan i packets)
  in_trace i = subst (λ n. IsInTrace n (uses_by plan i packets)) (length-map packets (taken plan i))
      (order.order (map (taken plan i) packets))

  one_table : (i : ℕ) (group : GroupPlan) (lane : LaneView) (f : TypedFold) → IsFoldLane plan buckets i lane group
      → slice_get plan.groups i ≡ Some group → i < length plan.groups → fold_at q i ≡ Some f
      → closed_table (heading_of group) (folding_at lane) (end_of g (uses_by plan i packets) (length packets)).closed ≡ query_table q g
      packets i (group_shape group) f
  one_table i group lane f of_lane at within has =
      let kind = of_lane.kind f (p.programs i f group has at) in
      let alike : AreAlike (folding_at lane) (folding_of f) = record {
        row_per_epoch = kind.row_per_epoch;
        states =
            λ rows. kind.folded rows;
      } in
      law.by_closed (heading_of group) (folding_at lane) (folding_of f) (end_of g (uses_by plan i packets) (length packets)).closed alike
      ∙ (closed (heading_of group) (folding_of f) g (uses_by plan i packets) (length packets) room (in_trace i)
      ∙ ap (group_table (heading_of group) (folding_of f) g) (uses_are q plan packets i p whole within))

  tables_at : (i : ℕ) (groups : List GroupPlan) (lanes : List LaneView) → drop i plan.groups ≡ groups
      → EachFrom (IsFoldLane plan buckets) i lanes groups
      → tables_of groups (map folding_at lanes) (ends_from plan g packets i groups) ≡ tables_from q g packets i (map group_shape groups)
  tables_at i [] [] e each = refl
  tables_at i [] (lane ∷ lanes) e each = absurd each
  tables_at i (group ∷ groups) [] e each = absurd each
  tables_at i (group ∷ groups) (lane ∷ lanes) e each =
      let at = first_at plan.groups i group groups e in
      let f = fold_there q i valid (subst (λ n. i < n) p.groups at.2) in
      let one = one_table i group lane f.0 each.0 at.0 at.2 f.1 in
      let more = tables_at (suc i) groups lanes at.1 each.1 in
      let parts : table_if q g packets i (group_shape group) (fold_at q i) ≡ query_table q g packets i (group_shape group) f.0 ∷ [] =
      ap (table_if q g packets i (group_shape group)) f.1 in
      ap (λ t. t ∷ tables_of groups (map folding_at lanes) (ends_from plan g packets (suc i) groups)) one
      ∙ (ap (λ ts. query_table q g packets i (group_shape group) f.0 ∷ ts) more
      ∙ ap (λ ts. ts ++ tables_from q g packets (suc i) (map group_shape groups)) (sym parts))

  pub tables_are : (lanes : List LaneView) → AreLanesOf Folds plan buckets lanes
      → tables_of plan.groups (map folding_at lanes) (end_machines plan g packets) ≡ group_tables q g packets
  unfolding group_tables
  tables_are lanes each = tables_at 0 plan.groups lanes refl each ∙ ap (tables_from q g packets 0) (ap (λ shape. shape.groups) p.shape)

pub ends_are : AlikeFoldingsMakeOneTable → ClosedGiveTheGroupTable → TakenUsesAreInTrace → EndsAreTheQuerys
ends_are law closed order = record {
  machines = machines_are;
  tables = λ q plan buckets lanes g packets valid p each room whole. tables_are law closed order q plan buckets g packets valid p room whole
      lanes each;
}

-- what is printed of those tables is the query's text
module _ (ends : EndsAreTheQuerys) (read : QueryTablesAreRead) (q : TypedQuery) (plan : PlanParts) (valid : IsValidQuery q)
    (p : IsPlanOf q plan) where
  are_group_tables : (g : Geometry) (packets : List (List ℕ)) → AreGroupTables q (group_tables q g packets)
  are_group_tables g packets = let known = read q g packets valid in record { valid = valid; shapes = known.1; read = known.0 }

  text_is : (g : Geometry) (packets : List (List ℕ)) → query_print q (group_tables q g packets) ≡ query_text q g packets
  unfolding query_text
  text_is g packets = refl

  pub query_reports : Reports (Query q) plan (query_text q)
  query_reports = record {
    may_print = λ buckets lanes g packets planned each room whole. subst (AreGroupTables q)
        (sym (ends.tables q plan buckets lanes g packets valid p each room whole)) (are_group_tables g packets);
    prints = record {
      at_ends = λ buckets lanes g packets planned each room whole. ap (query_print q)
          (ends.tables q plan buckets lanes g packets valid p each room whole) ∙ text_is g packets;
    };
  }
