-- The operations and the wiring of the one plan that a query has.
use Rattle.std.specs.{Prelude.{ℕ, ◌+◌, ◌==◌, List, length, map}, List.{position_or_len, range_with_len}}
use Rattle.marple_base.specs.declared.field.TheConstants.{FIELDS}
use Rattle.query_lang.specs.{declared.typed.TypedQuery.TypedQuery, Streams.takings}
use Rattle.stage_plan.specs.declared.{op.PlanOp.PlanOp, group.GroupWiring.GroupWiring}
use Rattle.stage_plan.specs.{Ordering.{order_of, moved_op, op_numbered, wiring_of}, Planned.query_made, Registers.stages_of}

-- the numbers that a query's operations had as they were made, in ascending stage, and within a stage in the order in which they were made
abbrev pub query_order : TypedQuery → List ℕ
query_order q = order_of (query_made q).ops (stages_of (query_made q).ops)

-- the register of the operation with this number: the first registers are the fields, and the next ones belong to the operations in order
abbrev pub register_in : List ℕ → ℕ → ℕ
register_in order number = FIELDS + position_or_len (λ other. other == number) order

-- the registers of this many operations
abbrev pub registers_in : List ℕ → ℕ → List ℕ
registers_in order operations = map (register_in order) (range_with_len 0 operations)

abbrev pub query_registers : TypedQuery → List ℕ
query_registers q = registers_in (query_order q) (length (query_made q).ops)

-- The operations of a query in ascending stage.
abbrev pub query_ops : TypedQuery → List PlanOp
query_ops q = map (λ number. moved_op (query_registers q) (op_numbered (query_made q).ops number)) (query_order q)

-- What the query's groupbys take of the registers.
abbrev pub query_wiring : TypedQuery → List GroupWiring
query_wiring q = map (wiring_of (query_registers q) (query_made q).streams) (takings q.streams)
