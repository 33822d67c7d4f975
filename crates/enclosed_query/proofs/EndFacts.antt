-- The machines of a plan at the end of a trace, groupby by groupby, and what is shown of them.
use Rattle.std.proofs.Common.{◌≡◌, ℕ, zero, suc, ◌+◌, ◌<◌, List, [], ◌∷◌, ◌++◌, Option, Some, length, map, drop, refl, sym, ap, ◌∙◌, subst}
use Rattle.std.{proofs.{Common.arith, lemmas.List.{length-map, Elements.{All-nil, All-cons}}}, specs.Prelude.{option_and_then, unwrap_or}}
use Rattle.std.specs.List.{All, slice_get}
use Rattle.query_lang.specs.declared.{fold.TypedFold.TypedFold, typed.TypedOp.TypedOp}
use Rattle.query_lang.specs.declared.typed.TypedOp.TheVariants as op
use Rattle.query_lang.specs.{declared.typed.{TypedQuery.TypedQuery, TypedStream.TypedStream}, Streams.takings}
use Rattle.query_lang.specs.{TypedQueries.{IsValidQuery, AreValidStreams, IsValidOp}, Words.holds}
use Rattle.stage_plan.specs.Uses.{uses}
use Rattle.epoch_model.specs.{Driving.{TakenUsesAreInTrace, uses_taken}, Epochs.Geometry, Laws.{HasRoom, IsInTrace}, Machine.end_of}
use Rattle.epoch_model.proofs.KeyLists.{by_test}
use Rattle.epoch_entry.specs.{declared.purpose.Entries.TheVariants.Bounds, contracts.any.AnyEpochsEpochKind.TheImpl.ghosts}
use Rattle.final_queries.specs.{declared.table.Table.Table, GroupTable.{ClosedGiveTheGroupTable, closed_table}}
use Rattle.stage_plan.specs.{Packets.AreWhole, declared.group.{GroupPlan.GroupPlan, GroupWiring.GroupWiring}}
use Rattle.stage_plan.specs.{declared.op.Operand.TheVariants.Number, Planned.{IsPlanOf, fold_at, taken, wiring_at, packet_registers}}
use Rattle.stage_plan.specs.{Registers.operand_value, Shape.group_shape, Sound.{PlanParts, IsSoundPlan}}
use Rattle.switch_core.specs.{Pipelines.{IsLaneOf, heading_of, tables_of}, PlanLanes.{LaneView, AreLanesOf, folding_at}, Rows.EachFrom}
use Rattle.switch_core.specs.Ends.{uses_by, ends_from, end_machines}
use Rattle.enclosure_folds.{specs.{KeyBounds.enclosed_table, Shown.{MayBeShown, shown, TablesGiveBounds}}, proofs.CheckFacts.stands}
use Rattle.enclosed_query.specs.EnclosedTables.{enclosed_if, enclosed_from, enclosed_tables, EndsGiveEnclosedTables}
use Rattle.enclosed_query.proofs.Groups.{heading_is}

got_at : {A : Type 0} (xs : List A) (i : ℕ) → i < length xs → (x : A) × (slice_get xs i ≡ Some x)
got_at [] i h = absurd (omega arith)
got_at (x ∷ xs) zero h = (x, refl)
got_at (x ∷ xs) (suc i) h = got_at xs i (omega arith)

-- each groupby of valid streams has a fold

abbrev pub FoldAt : List TypedFold → List TypedStream → ℕ → Type 0
FoldAt folds streams i = (f : TypedFold) × (option_and_then (λ t. slice_get folds t.fold_number) (slice_get (takings streams) i) ≡ Some f)

pub fold_there : (names : ℕ) (folds : List TypedFold) (before streams : List TypedStream) → AreValidStreams names folds before streams
    → (i : ℕ) → i < length (takings streams) → FoldAt folds streams i
fold_there names folds before [] valid i h = absurd (omega arith)
fold_there names folds before (one ∷ streams) valid i h = by_op _ valid.0.operator (fold_there _ _ _ streams valid.1) i h
  where
    by_op : (o : TypedOp) → IsValidOp folds before (length one.columns) o
        → ((j : ℕ) → j < length (takings streams) → FoldAt folds streams j)
        → (j : ℕ) → j < length (takings (record one { op = o } ∷ streams)) → FoldAt folds (record one { op = o } ∷ streams) j
    by_op (op.Filter input condition) v rest j lt = rest j lt
    by_op (op.Map input values) v rest j lt = rest j lt
    by_op (op.Zip left right slots) v rest j lt = rest j lt
    by_op (op.Group input keys f args) v rest zero lt = got_at folds f v.1.is_fold
    by_op (op.Group input keys f args) v rest (suc j) lt = rest j (omega (arith, lt))

module _ (law : TablesGiveBounds) (closed : ClosedGiveTheGroupTable) (order : TakenUsesAreInTrace) (q : TypedQuery) (plan : PlanParts)
    (buckets : ℕ) (g : Geometry) (packets : List (List ℕ))
    (valid : IsValidQuery q) (p : IsPlanOf q plan) (sound : IsSoundPlan plan) (room : HasRoom g) (whole : AreWhole packets) where
  in_trace : (i : ℕ) → IsInTrace (length packets) (uses_by plan i packets)
  in_trace i = subst (λ n. IsInTrace n (uses_by plan i packets)) (length-map _ _) (order.order _)

  uses_are : (i : ℕ) → i < length plan.groups → uses_by plan i packets ≡ uses q i packets
  uses_are i within = sym (p.takes i packets within whole)

  -- the keys of what is taken have as many words as the groupby has keys
  taken_keys : (i n number : ℕ) (rows : List (List ℕ)) → length (wiring_at plan i).keys ≡ n
      → All (λ u. length u.key ≡ n) (uses_taken number (map (taken plan i) rows))
  taken_keys i n number [] e = All-nil (λ u. length u.key ≡ n)
  taken_keys i n number (words ∷ rows) e =
      let registers = packet_registers plan words in
      let later = taken_keys i n (suc number) rows e in
      let rest = uses_taken (suc number) (map (taken plan i) rows) in
      by_test (holds (operand_value registers (wiring_at plan i).present))
      (λ t. rw t (All-cons (λ u. length u.key ≡ n) (record {
        packet = number;
        key = map (operand_value registers) (wiring_at plan i).keys;
        row = map (operand_value registers) (wiring_at plan i).args;
      }) rest
      (length-map (wiring_at plan i).keys (operand_value registers) ∙ e) later))
      (λ t. rw t later)

  abbrev table_at : ℕ → GroupPlan → LaneView → Table
  table_at i group lane = closed_table (heading_of group) (folding_at lane) (end_of g (uses_by plan i packets) (length packets)).closed

  -- one groupby
  record IsShown (i : ℕ) (group : GroupPlan) (lane : LaneView) (f : TypedFold) : Type 0 where
    may : MayBeShown (table_at i group lane)
    is : shown (table_at i group lane) ≡ enclosed_table (heading_of group) f g (uses q i packets)

  one : (i : ℕ) (group : GroupPlan) (lane : LaneView) (f : TypedFold) → IsLaneOf Bounds buckets lane.cache (ghosts.sizes lane.kind)
      (ghosts.folding lane.kind) (ghosts.open_bound lane.kind) (ghosts.absorb_bound lane.kind) group (wiring_at plan i)
      → slice_get plan.groups i ≡ Some group → i < length plan.groups → fold_at q i ≡ Some f → IsShown i group lane f
  one i group lane f of_lane at within has =
      let program = p.programs i f group has at in
      let kind = of_lane.kind f program in
      let wired = got_at _ i (omega (arith, sound.wired)) in
      let known = sound.each i group wired.0 at wired.1 in
      let given = uses_by plan i packets in
      let heading = heading_is _ _ _ f known program in
      let words : length (wiring_at plan i).keys ≡ length group.key_names =
      ap (λ (o : Option GroupWiring). length (unwrap_or {T = GroupWiring} o (record { present = Number 0; keys = []; args = [] })).keys)
      wired.1 ∙ known.keys in
      let same = closed (heading_of group) _ g given (length packets) room (in_trace i) in
      record {
        may = subst MayBeShown (sym same) (law.may (heading_of group) f (ghosts.sizes lane.kind) (folding_at lane)
            (ghosts.open_bound lane.kind) (ghosts.absorb_bound lane.kind) g given kind heading program.valid (taken_keys i _ 1 _ words));
        is =
            ap shown same
            ∙ (law.shown _ f (ghosts.sizes lane.kind) _ (ghosts.open_bound lane.kind)
            (ghosts.absorb_bound lane.kind) g given kind heading
            ∙ ap (enclosed_table (heading_of group) f g) (uses_are i within));
      }

  -- all of them
  abbrev LanesFrom : ℕ → List LaneView → List GroupPlan → Type 0
  LanesFrom i lanes groups =
      EachFrom (λ n lane group. IsLaneOf Bounds buckets lane.cache (ghosts.sizes lane.kind) (ghosts.folding lane.kind)
      (ghosts.open_bound lane.kind) (ghosts.absorb_bound lane.kind) group (wiring_at plan n)) i lanes groups

  abbrev AreShown : ℕ → List LaneView → List GroupPlan → Type 0
  AreShown i lanes groups =
      let tables = tables_of groups (map folding_at lanes) (ends_from plan g packets i groups) in
      All MayBeShown tables × (map shown tables ≡ enclosed_from q g packets i (map group_shape groups))

  all_from : (i : ℕ) (groups : List GroupPlan) (lanes : List LaneView) → drop i plan.groups ≡ groups → LanesFrom i lanes groups
      → AreShown i lanes groups
  all_from i [] [] e each = (All-nil _, refl)
  all_from i (group ∷ groups) (lane ∷ lanes) e each =
      let at = stands _ i group groups e in
      let f = fold_there _ _ [] q.streams valid.streams i (omega (arith, p.groups, at.within)) in
      let here = one i group lane f.0 each.0 at.found at.within f.1 in
      let next : suc i ≡ i + 1 = omega arith in
      let more = all_from _ _ _ (ap (λ k. drop k plan.groups) next ∙ at.next) each.1 in
      let rest = tables_of groups (map folding_at lanes) (ends_from plan g packets (suc i) groups) in
      let parts : enclosed_if q g packets i (group_shape group) (fold_at q i) ≡ enclosed_table (heading_of group) f.0 g (uses q i packets)
      ∷ [] = ap (enclosed_if q g packets i (group_shape group)) f.1 in (
        All-cons MayBeShown (table_at i group lane) rest here.may more.0,
        ap (λ t. t ∷ map shown rest) here.is ∙ (ap (λ ts. enclosed_table (heading_of group) f.0 g (uses q i packets) ∷ ts) more.1
            ∙ ap (λ ts. ts ++ enclosed_from q g packets (suc i) (map group_shape groups)) (sym parts)),
      )
  all_from i _ _ e each = absurd each

  pub all_may : (lanes : List LaneView) → AreLanesOf Bounds plan buckets lanes
      → All MayBeShown (tables_of plan.groups (map folding_at lanes) (end_machines plan g packets))
  all_may lanes each = (all_from 0 _ _ refl each).0

  pub all_shown : (lanes : List LaneView) → AreLanesOf Bounds plan buckets lanes
      → map shown (tables_of plan.groups (map folding_at lanes) (end_machines plan g packets)) ≡ enclosed_tables q g packets
  unfolding enclosed_tables
  all_shown lanes each = (all_from 0 _ _ refl each).1 ∙ ap (enclosed_from q g packets 0) (ap (λ shape. shape.groups) p.shape)

pub ends_give : TablesGiveBounds → ClosedGiveTheGroupTable → TakenUsesAreInTrace → EndsGiveEnclosedTables
ends_give law closed order = record {
  may = λ q plan buckets lanes g packets valid p sound each room whole. all_may law closed order q plan buckets g packets valid p sound room
      whole lanes each;
  tables = λ q plan buckets lanes g packets valid p sound each room whole. all_shown law closed order q plan buckets g packets valid p sound
      room whole lanes each;
}
