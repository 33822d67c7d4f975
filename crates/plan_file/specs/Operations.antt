-- The lines `reads` and `op`, and operands after them.
use Rattle.std.specs.Prelude.{◌≡◌, ℕ, ◌+◌, ◌-◌, ◌<◌, ◌≤◌, max, Bool, true, false, ◌&&◌, nat_lt, if◌then◌else◌, List, [], ◌∷◌, length, map}
use Rattle.std.specs.{Prelude.{codes, Option, Some, None, Contains, slice_get, ◌⊎◌}, Str.bytes_eq}
use Rattle.marple_base.specs.{declared.field.{Field.Field, TheConstants.FIELDS}, Field.{field_name, number_of}}
use Rattle.query_lang.specs.declared.{fold.Op.{Op, TheVariants.{Div, Rem, Shl, Shr, Decay}}, fault.TheConstants.MAX_STAGES}
use Rattle.stage_plan.specs.declared.op.{Operand.{Operand, TheVariants.{Register, Number}}, Operation.{Operation, TheVariants.{Not, Two}}}
use Rattle.stage_plan.specs.declared.op.PlanOp.{PlanOp}
use Rattle.plan_file.specs.Lexis.{tokens, number, number_after, literal, function_named}

-- an operand: a register, `rN`, or a number, `#N`
abbrev pub register : List ℕ → Option ℕ
register token = number_after 114 token

abbrev pub either_operand : Option ℕ → Option ℕ → Option Operand
either_operand (Some n) other = Some (Register n)
either_operand None (Some n) = Some (Number n)
either_operand None None = None

abbrev pub operand : List ℕ → Option Operand
operand token = either_operand (register token) (literal token)

-- fields in their order, each at most once, from the field with this number on
abbrev pub AreFrom : ℕ → List Field → Type 0
AreFrom least [] = Unit {0}
AreFrom least (f ∷ rest) = (least ≤ number_of f) × AreFrom (number_of f + 1) rest

-- `reads` and then names of fields, in the order of the fields, each at most once
pub record IsReadsLine (line : List ℕ) (fields : List Field) : Type 0 where
  pub words : tokens line ≡ codes "reads" ∷ map field_name fields
  pub order : AreFrom 0 fields

-- The first registers are the fields, and each operation writes the next one after them.
-- A register is known where the `reads` line names the field, or an earlier line writes it.
abbrev pub IsKnownRegister : List Field → List PlanOp → ℕ → Type 0
IsKnownRegister fields ops r = Contains (map number_of fields) r ⊎ ((FIELDS ≤ r) × (r < FIELDS + length ops))

abbrev pub IsKnown : List Field → List PlanOp → Operand → Type 0
IsKnown fields ops (Register r) = IsKnownRegister fields ops r
IsKnown fields ops (Number n) = Unit {0}

-- the stage of an earlier line
abbrev pub stage_at : Option PlanOp → ℕ
stage_at (Some op) = op.stage
stage_at None = 0

-- A register that a line writes has that line's stage. Fields and numbers have stage 0.
abbrev pub stage_of : List PlanOp → Operand → ℕ
stage_of ops (Register r) = if nat_lt r FIELDS then 0 else stage_at (slice_get ops (r - FIELDS))
stage_of ops (Number n) = 0

-- the stage of the last operation, or 0 before the first
abbrev pub last_stage : List PlanOp → ℕ
last_stage ops = stage_at (slice_get ops (length ops - 1))

-- the operand is a number for which a condition holds
abbrev pub is_number_with : (ℕ → Bool) → Operand → Bool
is_number_with test (Number n) = test n
is_number_with test (Register r) = false

-- a divisor is a number other than 0, and a shift is by a number below 64
abbrev pub takes_right : Op → Operand → Bool
takes_right Div b = is_number_with (λ n. nat_lt 0 n) b
takes_right Rem b = is_number_with (λ n. nat_lt 0 n) b
takes_right Shl b = is_number_with (λ n. nat_lt n 64) b
takes_right Shr b = is_number_with (λ n. nat_lt n 64) b
takes_right Decay b = is_number_with (λ n. nat_lt n 64) b
takes_right _ b = true

abbrev pub is_right_of : Operation → Operand → Bool
is_right_of Not b = true
is_right_of (Two f) b = takes_right f b

abbrev pub not_of : Option ℕ → Option Operand → Option PlanOp
not_of (Some stage) (Some a) = Some (record { stage = stage; op = Not; left = a; right = Number 0 })
not_of _ _ = None

abbrev pub two_of : Option ℕ → Option Op → Option Operand → Option Operand → Option PlanOp
two_of (Some stage) (Some f) (Some a) (Some b) = Some (record { stage = stage; op = Two f; left = a; right = b })
two_of _ _ _ _ = None

-- `op STAGE not A`, and `op STAGE FN A B` for every other function
abbrev pub op_words : List (List ℕ) → Option PlanOp
op_words (word ∷ stage ∷ function ∷ a ∷ []) =
    if bytes_eq word (codes "op") && bytes_eq function (codes "not") then not_of (number stage) (operand a) else None
op_words (word ∷ stage ∷ function ∷ a ∷ b ∷ []) =
    if bytes_eq word (codes "op") then two_of (number stage) (function_named function) (operand a) (operand b) else None
op_words _ = None

-- An operation in its stage, after these: there are at most 32,768, in ascending stages from 1 to MAX_STAGES, and an operation's stage is 1
-- more than the greatest of its operands.
pub record IsStaged (ops : List PlanOp) (op : PlanOp) : Type 0 where
  pub room : length ops < 32768
  pub least : 1 ≤ op.stage
  pub most : op.stage ≤ MAX_STAGES
  pub order : last_stage ops ≤ op.stage
  pub stage : op.stage ≡ 1 + max (stage_of ops op.left) (stage_of ops op.right)
  pub constant : is_right_of op.op op.right ≡ true

-- an operation that is allowed after these: its registers are known, and it keeps the rules of the stages
pub record IsAllowed (fields : List Field) (ops : List PlanOp) (op : PlanOp) : Type 0 where
  pub left : IsKnown fields ops op.left
  pub right : IsKnown fields ops op.right
  pub staged : IsStaged ops op

-- an operation of a plan after these fields and operations
pub record IsOpLine (fields : List Field) (ops : List PlanOp) (line : List ℕ) (op : PlanOp) : Type 0 where
  pub words : op_words (tokens line) ≡ Some op
  pub allowed : IsAllowed fields ops op
