-- What holds of the parts of each plan.
use Rattle.std.specs.Prelude.{◌≡◌, ℕ, suc, ◌+◌, ◌-◌, ◌<◌, ◌≤◌, max, List, length, All, slice_get, slice_index, Option, Some, None, ◌⊎◌}
use Rattle.fold_class.specs.Program.{IsProgram}
use Rattle.marple_base.specs.declared.field.{FieldSet.FieldSet, TheConstants.FIELDS}
use Rattle.query_lang.specs.declared.fault.TheConstants.{MAX_ARGS, MAX_GROUPBYS, MAX_KEYS, MAX_STAGES, MAX_STATES}
use Rattle.stage_plan.specs.declared.{op.{Operand.{Operand, TheVariants.{Register, Number}}, PlanOp.PlanOp}, group.GroupPlan.GroupPlan}
use Rattle.stage_plan.specs.{declared.group.GroupWiring.GroupWiring, Registers.{operand_stage, stages_of}}

-- a plan, as contracts see it: the fields that it reads, its operations, which write the registers after those of the fields in order, its
-- groupbys, and what each of them takes
pub record PlanParts : Type 0 where
  pub reads : FieldSet
  pub ops : List PlanOp
  pub groups : List GroupPlan
  pub wiring : List GroupWiring

-- an operand that is a number or one of this many registers
abbrev pub IsWithin : ℕ → Operand → Type 0
IsWithin registers (Register r) = r < registers
IsWithin registers (Number n) = Unit {0}

-- operation number i reads earlier registers, and it is in the stage after those of its operands
pub record IsSoundOp (ops : List PlanOp) (i : ℕ) (one : PlanOp) : Type 0 where
  pub left : IsWithin (FIELDS + i) one.left
  pub right : IsWithin (FIELDS + i) one.right
  pub stage : one.stage ≡ suc (max (operand_stage ops one.left) (operand_stage ops one.right))
  pub most : one.stage ≤ MAX_STAGES

-- the operations are in the order of their stages
pub record AreSoundOps (ops : List PlanOp) : Type 0 where
  pub each : (i : ℕ) (one : PlanOp) → slice_get ops i ≡ Some one → IsSoundOp ops i one
  pub ordered : (i j : ℕ) (one other : PlanOp) → i < j → slice_get ops i ≡ Some one → slice_get ops j ≡ Some other
      → one.stage ≤ other.stage
  pub most : length ops ≤ 32768

-- a groupby and what it takes, of this many registers: it has a fold's program, a name for each of the fold's state variables, and
-- as many words as names of keys and as arguments
pub record IsSoundGroup (registers : ℕ) (group : GroupPlan) (wiring : GroupWiring) : Type 0 where
  pub program : IsProgram group.program
  pub some_keys : 0 < length group.key_names
  pub most_keys : length group.key_names ≤ MAX_KEYS
  pub most_states : length group.state_names ≤ MAX_STATES
  pub states : length group.state_names ≡ length group.program.layout.initial
  pub keys : length wiring.keys ≡ length group.key_names
  pub args : length wiring.args ≡ group.program.layout.args
  pub most_args : length wiring.args ≤ MAX_ARGS
  pub present : IsWithin registers wiring.present
  pub key_registers : All (IsWithin registers) wiring.keys
  pub arg_registers : All (IsWithin registers) wiring.args

pub record IsSoundPlan (plan : PlanParts) : Type 0 where
  pub ops : AreSoundOps plan.ops
  pub most_groups : length plan.groups ≤ MAX_GROUPBYS
  pub wired : length plan.wiring ≡ length plan.groups
  pub each : (i : ℕ) (group : GroupPlan) (wiring : GroupWiring) → slice_get plan.groups i ≡ Some group
      → slice_get plan.wiring i ≡ Some wiring
      → IsSoundGroup (FIELDS + length plan.ops) group wiring

-- the operation with this number reads the register of the other
abbrev pub Follows : Option PlanOp → ℕ → Type 0
Follows None number = Unit {0}
Follows (Some one) number = (one.left ≡ Register (FIELDS + number)) ⊎ (one.right ≡ Register (FIELDS + number))

-- numbers of operations, one of each stage in order, each an operand of the next
pub record IsChain (ops : List PlanOp) (numbers : List ℕ) : Type 0 where
  pub long : length numbers ≡ stages_of ops
  pub within : All (λ number. number < length ops) numbers
  pub linked : (i : ℕ) → i + 1 < length numbers → Follows (slice_get ops (slice_index numbers (i + 1))) (slice_index numbers i)

-- the operand is the register of the operation with this number, which is in this stage
pub record IsNamed (ops : List PlanOp) (operand : Operand) (stage number : ℕ) : Type 0 where
  pub register : operand ≡ Register (FIELDS + number)
  pub within : number < length ops
  pub stage_is : operand_stage ops operand ≡ stage

-- one operation reads the other, which is in the stage before it
pub record IsPrevious (ops : List PlanOp) (at number : ℕ) : Type 0 where
  pub follows : Follows (slice_get ops at) number
  pub within : number < length ops
  pub stage_is : operand_stage ops (Register (FIELDS + at)) ≡ suc (operand_stage ops (Register (FIELDS + number)))

-- a chain up to an operation
pub record EndsAt (ops : List PlanOp) (numbers : List ℕ) (at : ℕ) : Type 0 where
  pub long : length numbers ≡ operand_stage ops (Register (FIELDS + at))
  pub within : All (λ number. number < length ops) numbers
  pub linked : (i : ℕ) → i + 1 < length numbers → Follows (slice_get ops (slice_index numbers (i + 1))) (slice_index numbers i)
  pub last : slice_index numbers (length numbers - 1) ≡ at
