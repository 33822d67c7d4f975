-- The operations of a query in the order in which they are made: by binding, the operands before their node, and a presence last.
use Rattle.std.specs.Prelude.{ℕ, suc, ◌+◌, max, min, nat_lt, Bool, if◌then◌else◌, List, [], ◌∷◌, ◌++◌, length, map, slice_get, Option, Some}
use Rattle.std.specs.{Prelude.{None, unwrap_or}, List.list_any}
use Rattle.marple_base.specs.declared.field.TheConstants.{FIELDS}
use Rattle.query_lang.specs.declared.fault.{FaultKind.TheVariants.OverLimit, Limit.TheVariants.Stages, QueryFault.QueryFault}
use Rattle.query_lang.specs.declared.{fold.{Op.TheVariants.Both, TypedExpr.TypedExpr, TypedFold.TypedFold}, typed.TypedOp.TypedOp}
use Rattle.query_lang.specs.declared.typed.{TypedOp.TheVariants.{Filter, Map, Zip, Group}, TypedStream.TypedStream}
use Rattle.query_lang.specs.{Terms.{Term, Literal, Read, Negation, Operation, term_of}, declared.fault.TheConstants.MAX_STAGES}
use Rattle.stage_plan.specs.declared.op.Operand.{Operand, TheVariants.{Register, Number}}
use Rattle.stage_plan.specs.declared.op.Operation as operation
use Rattle.stage_plan.specs.declared.{op.{Operation.TheVariants.{Not, Two}, PlanOp.PlanOp}, wires.StreamWires.StreamWires}
use Rattle.stage_plan.specs.Registers.{operand_stage}

-- the operations so far, and an operand
pub record Compiled : Type 0 where
  pub ops : List PlanOp
  pub value : Operand

abbrev pub compiled_then : {A : Type 0} → Compiled → (List PlanOp → Operand → A) → A
compiled_then c next = next c.ops c.value

-- the stage after these two. All above MAX_STAGES are one
abbrev pub stage_after : ℕ → ℕ → ℕ
stage_after a b = min (MAX_STAGES + 1) (suc (max a b))

-- one more operation
abbrev pub op_on : List PlanOp → operation.Operation → Operand → Operand → PlanOp
op_on ops op left right = record {
  stage = stage_after (operand_stage ops left) (operand_stage ops right);
  op = op;
  left = left;
  right = right;
}

abbrev pub with_op : operation.Operation → List PlanOp → Operand → Operand → Compiled
with_op op ops left right = record { ops = ops ++ op_on ops op left right ∷ []; value = Register (FIELDS + length ops) }

abbrev pub operand_at : List Operand → ℕ → Operand
operand_at columns slot = unwrap_or (slice_get columns slot) (Number 0)

-- an expression over columns: a number and a column are operands, and each operator is one operation
abbrev pub compiled : List Operand → Term → List PlanOp → Compiled
compiled columns (Literal n) ops = record { ops = ops; value = Number n }
compiled columns (Read s) ops = record { ops = ops; value = operand_at columns s }
compiled columns (Negation e) ops = compiled_then (compiled columns e ops) (λ more value. with_op Not more value (Number 0))
compiled columns (Operation op a b) ops =
    compiled_then (compiled columns a ops) (λ more left.
    compiled_then (compiled columns b more) (λ most right. with_op (Two op) most left right))

-- the operations so far, and operands
pub record AllCompiled : Type 0 where
  pub ops : List PlanOp
  pub values : List Operand

-- expressions in order, whose operands come after these
abbrev pub compiled_all : List Operand → List Operand → List Term → List PlanOp → AllCompiled
compiled_all columns found [] ops = record { ops = ops; values = found }
compiled_all columns found (e ∷ rest) ops =
    compiled_then (compiled columns e ops) (λ more value. compiled_all columns (found ++ value ∷ []) rest more)

-- the operations so far, and a stream's operands
pub record Made : Type 0 where
  pub ops : List PlanOp
  pub wires : StreamWires

abbrev pub made_then : {A : Type 0} → Made → (List PlanOp → StreamWires → A) → A
made_then m next = next m.ops m.wires

abbrev pub wires_at : List StreamWires → ℕ → StreamWires
wires_at streams number = unwrap_or (slice_get streams number) (record { present = Number 0; columns = [] })

-- the packets: each is present, and its columns are the first registers
abbrev pub packet_wires : StreamWires
packet_wires = record {
  present = Number 1;
  columns = Register 0 ∷ Register 1 ∷ Register 2 ∷ Register 3 ∷ Register 4 ∷ Register 5 ∷ Register 6 ∷ Register 7
      ∷ Register 8 ∷ Register 9 ∷ Register 10 ∷ Register 11 ∷ Register 12 ∷ Register 13 ∷ [];
}

-- one operation that joins a presence with another condition
abbrev pub made_join : List PlanOp → Operand → Operand → List Operand → Made
made_join ops present condition columns =
    compiled_then (with_op (Two Both) ops present condition) (λ more value.
    record { ops = more; wires = record { present = value; columns = columns } })

-- a condition over columns, joined with a presence
abbrev pub conditioned : List Operand → Term → List PlanOp → Operand → List Operand → Made
conditioned over condition ops present columns =
    compiled_then (compiled over condition ops) (λ more value. made_join more present value columns)

-- `filter`: the input's columns, where a condition over them holds
abbrev pub made_filter : StreamWires → Term → List PlanOp → Made
made_filter input condition ops = conditioned input.columns condition ops input.present input.columns

abbrev pub made_map : StreamWires → List TypedExpr → List PlanOp → Made
made_map input values ops =
    let all = compiled_all input.columns input.columns (map term_of values) ops in
    record { ops = all.ops; wires = record { present = input.present; columns = all.values } }

abbrev pub made_zip : StreamWires → StreamWires → List ℕ → List PlanOp → Made
made_zip left right slots ops = made_join ops left.present right.present (left.columns ++ map (operand_at right.columns) slots)

-- what a fold's emit condition reads: its initial state, and its arguments
abbrev pub emit_columns : List ℕ → List Operand → List ℕ → List Operand
emit_columns initial columns args = map Number initial ++ map (operand_at columns) args

abbrev pub made_emit : Option TypedExpr → List Operand → StreamWires → List Operand → List PlanOp → Made
made_emit None over input keys ops = record { ops = ops; wires = record { present = Number 0; columns = keys } }
made_emit (Some condition) over input keys ops = conditioned over (term_of condition) ops input.present keys

abbrev pub made_group : Option TypedFold → StreamWires → List ℕ → List ℕ → List PlanOp → Made
made_group None input keys args ops =
    record { ops = ops; wires = record { present = Number 0; columns = map (operand_at input.columns) keys } }
made_group (Some f) input keys args ops =
    made_emit f.emit (emit_columns f.initial input.columns args) input (map (operand_at input.columns) keys) ops

abbrev pub made_by : List TypedFold → List StreamWires → TypedOp → List PlanOp → Made
made_by folds streams (Filter input condition) ops = made_filter (wires_at streams input) (term_of condition) ops
made_by folds streams (Map input values) ops = made_map (wires_at streams input) values ops
made_by folds streams (Zip left right slots) ops = made_zip (wires_at streams left) (wires_at streams right) slots ops
made_by folds streams (Group input keys f args) ops = made_group (slice_get folds f) (wires_at streams input) keys args ops

-- all operations, and all streams in order
pub record AllMade : Type 0 where
  pub ops : List PlanOp
  pub streams : List StreamWires

-- what streams add to those before them
abbrev pub all_made : List TypedFold → List PlanOp → List StreamWires → List TypedStream → AllMade
all_made folds ops streams [] = record { ops = ops; streams = streams }
all_made folds ops streams (one ∷ rest) =
    made_then (made_by folds streams one.op ops) (λ more wires. all_made folds more (streams ++ wires ∷ []) rest)

abbrev pub are_deep : List PlanOp → Bool
are_deep ops = list_any (λ one. nat_lt MAX_STAGES one.stage) ops

-- the first of streams after which an operation is too deep
abbrev pub made_fault : List TypedFold → List PlanOp → List StreamWires → List TypedStream → Option QueryFault
made_fault folds ops streams [] = None
made_fault folds ops streams (one ∷ rest) =
    made_then (made_by folds streams one.op ops) (λ more wires.
    if are_deep more then Some (record { kind = OverLimit Stages; span = one.name.span })
    else made_fault folds more (streams ++ wires ∷ []) rest)
