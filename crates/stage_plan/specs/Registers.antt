-- The operations of a plan, and the registers that they fill for one packet.
use Rattle.std.specs.Prelude.{ℕ, zero, suc, ◌-◌, ◌==◌, nat_lt, not, max, if◌then◌else◌, List, [], ◌∷◌, ◌++◌, length, take, drop, map}
use Rattle.std.specs.Prelude.{replicate, slice_get, slice_index, Option, Some, None, option_map, unwrap_or}
use Rattle.marple_base.specs.declared.field.TheConstants.{FIELDS}
use Rattle.epoch_model.specs.Driving.{Taken}
use Rattle.query_lang.specs.Words.{flag, holds, op_value}
use Rattle.stage_plan.specs.declared.op.{Operand.{Operand, TheVariants.{Register, Number}}, Operation.{Operation, TheVariants.{Not, Two}}}
use Rattle.stage_plan.specs.declared.{op.PlanOp.PlanOp, group.GroupWiring.GroupWiring}

abbrev pub operand_value : List ℕ → Operand → ℕ
operand_value registers (Register r) = slice_index registers r
operand_value registers (Number n) = n

-- what an operation makes of two words: `Not` gives 1 exactly for 0, and looks at the first alone
abbrev pub operation_value : Operation → ℕ → ℕ → ℕ
operation_value Not x y = flag (not (holds x))
operation_value (Two op) x y = op_value op x y

-- what an operation gives over these registers
abbrev pub result_of : List ℕ → PlanOp → ℕ
result_of registers one = operation_value one.op (operand_value registers one.left) (operand_value registers one.right)

-- The registers of these operations after a stage, where `registers` are all as they were before it: each operation of the stage
-- writes its own, and the others stay.
abbrev pub stage_results : ℕ → List ℕ → List PlanOp → List ℕ → List ℕ
stage_results stage registers (one ∷ ops) (old ∷ olds) =
    (if one.stage == stage then result_of registers one else old) ∷ stage_results stage registers ops olds
stage_results stage registers _ _ = []

-- The registers after a stage: first the packet's words, and then one for each operation in order. After stage 0 the operations'
-- registers hold 0, and each stage reads only what was there before it.
abbrev pub registers_after : List PlanOp → List ℕ → ℕ → List ℕ
registers_after ops words zero = words ++ replicate (length ops) 0
registers_after ops words (suc s) = take FIELDS (registers_after ops words s)
    ++ stage_results (suc s) (registers_after ops words s) ops (drop FIELDS (registers_after ops words s))

-- the greatest stage of an operation, or 0
abbrev pub stages_of : List PlanOp → ℕ
stages_of [] = 0
stages_of (one ∷ ops) = max one.stage (stages_of ops)

-- the stage of an operand: a register that an operation writes has that operation's; fields and numbers have 0
abbrev pub operand_stage : List PlanOp → Operand → ℕ
operand_stage ops (Register r) = if nat_lt r FIELDS then 0 else unwrap_or (option_map (λ one. one.stage) (slice_get ops (r - FIELDS))) 0
operand_stage ops (Number n) = 0

-- what a groupby takes where its input's presence isn't 0: the words of its key and of its fold's arguments
abbrev pub taken_at : GroupWiring → List ℕ → Option Taken
taken_at wiring registers =
    if holds (operand_value registers wiring.present)
    then Some (record { key = map (operand_value registers) wiring.keys; row = map (operand_value registers) wiring.args })
    else None
