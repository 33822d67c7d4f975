-- Which plan is a query's.
use Rattle.std.specs.Prelude.{◌≡◌, ℕ, ◌+◌, ◌<◌, ◌≤◌, List, [], ◌∷◌, length, map, All, slice_get, Option, Some, None}
use Rattle.std.specs.Prelude.{option_and_then, unwrap_or}
use Rattle.marple_base.specs.declared.field.TheConstants.{FIELDS}
use Rattle.epoch_model.specs.Driving.{Taken, uses_taken}
use Rattle.fold_class.specs.Program.{IsProgramOf}
use Rattle.query_lang.specs.{declared.{fold.TypedFold.TypedFold, typed.TypedQuery.TypedQuery}, Streams.takings}
use Rattle.query_lang.specs.TypedQueries.{IsValidQuery}
use Rattle.stage_plan.specs.Uses.{uses}
use Rattle.stage_plan.specs.declared.{group.{GroupPlan.GroupPlan, GroupWiring.GroupWiring}, op.{Operand.TheVariants.Number, PlanOp.PlanOp}}
use Rattle.stage_plan.specs.declared.wires.StreamWires.{StreamWires}
use Rattle.stage_plan.specs.{Fields.reads_of, Making.{AllMade, packet_wires, all_made, made_fault}, Ordering.IsStaged}
use Rattle.stage_plan.specs.{Registers.{registers_after, stages_of, taken_at}, Shape.{PlanShape, parts_shape, query_shape, bound_of}}
use Rattle.stage_plan.specs.Sound.{PlanParts}

-- what was made of a query
pub record MadeOf (q : TypedQuery) (ops : List PlanOp) (streams : List StreamWires) : Type 0 where
  pub valid : IsValidQuery q
  pub ops_are : ops ≡ (all_made q.folds [] (packet_wires ∷ []) q.streams).ops
  pub streams_are : streams ≡ (all_made q.folds [] (packet_wires ∷ []) q.streams).streams
  pub fits : made_fault q.folds [] (packet_wires ∷ []) q.streams ≡ None
  pub few : length ops ≤ 32768

-- how many registers a plan needs: one for each field, and one for each operation
abbrev pub registers_of : PlanParts → ℕ
registers_of plan = FIELDS + length plan.ops

-- The registers of a packet with these words after the last stage.
abbrev pub packet_registers : PlanParts → List ℕ → List ℕ
packet_registers plan words = registers_after plan.ops words (stages_of plan.ops)

-- what the groupby with this number takes, and nothing where there is none
abbrev pub wiring_at : PlanParts → ℕ → GroupWiring
wiring_at plan i = unwrap_or (slice_get plan.wiring i) (record { present = Number 0; keys = []; args = [] })

-- What the groupby with this number takes of a packet with these words.
abbrev pub taken : PlanParts → ℕ → List ℕ → Option Taken
taken plan i words = taken_at (wiring_at plan i) (packet_registers plan words)

abbrev pub shape_of : PlanParts → PlanShape
shape_of plan = parts_shape plan.ops plan.groups

-- the most steps that a packet takes, with caches of this many ways
abbrev pub plan_bound : PlanParts → ℕ → ℕ
plan_bound plan ways = bound_of ways (shape_of plan)

-- the fold of the groupby with this number
abbrev pub fold_at : TypedQuery → ℕ → Option TypedFold
fold_at q i = option_and_then (λ t. slice_get q.folds t.fold_number) (slice_get (takings q.streams) i)

-- the operations and streams of a query in the order in which they are made
abbrev pub query_made : TypedQuery → AllMade
query_made q = all_made q.folds [] (packet_wires ∷ []) q.streams

-- The plan of a query: it takes of each packet what the query's groupbys take of the streams, with the programs of their folds.
pub record IsPlanOf (q : TypedQuery) (plan : PlanParts) : Type 0 where
  pub groups : length plan.groups ≡ length (takings q.streams)
  pub takes : (i : ℕ) (packets : List (List ℕ)) → i < length plan.groups → All (λ words. length words ≡ FIELDS) packets
      → uses q i packets ≡ uses_taken 1 (map (taken plan i) packets)
  pub programs : (i : ℕ) (f : TypedFold) (group : GroupPlan) → fold_at q i ≡ Some f → slice_get plan.groups i ≡ Some group
      → IsProgramOf f group.program
  pub reads : plan.reads ≡ reads_of q
  pub staged : IsStaged (query_made q).ops (query_made q).streams (takings q.streams) plan.ops plan.wiring
  pub shape : shape_of plan ≡ query_shape q
