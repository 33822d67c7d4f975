-- The words of a plan's text, and its lines.
use Rattle.std.specs.Prelude.{ℕ, ◌-◌, nat_lt, if◌then◌else◌, List, [], ◌∷◌, ◌++◌, flat_map, codes, decimal}
use Rattle.query_lang.specs.declared.fold.Op.{Op}
use Rattle.query_lang.specs.declared.fold.Op.TheVariants as ops
use Rattle.query_lang.specs.{Blocks.{Block, End, Set, Fork}, Terms.{Term, Literal, Read, Negation, Operation}}
use Rattle.stage_plan.specs.declared.op.Operand.{Operand, TheVariants.{Register, Number}}
use Rattle.stage_plan.specs.declared.op.Operation as operation
use Rattle.stage_plan.specs.declared.op.Operation.TheVariants.{Not, Two}

-- words after another one, each with a space before it
abbrev pub spaced : List (List ℕ) → List ℕ
spaced words = flat_map (λ word. 32 ∷ word) words

-- a line is a first word and others after it, with a space between two of them, and LF ends it
abbrev pub line : List ℕ → List (List ℕ) → List ℕ
line first words = first ++ (spaced words ++ 10 ∷ [])

-- the name of an operator or a function of two words
abbrev pub function_word : Op → List ℕ
function_word ops.Mul = codes "mul"
function_word ops.Div = codes "div"
function_word ops.Rem = codes "rem"
function_word ops.Add = codes "add"
function_word ops.Sub = codes "sub"
function_word ops.Shl = codes "shl"
function_word ops.Shr = codes "shr"
function_word ops.And = codes "and"
function_word ops.Xor = codes "xor"
function_word ops.Or = codes "or"
function_word ops.Eq = codes "eq"
function_word ops.Ne = codes "ne"
function_word ops.Lt = codes "lt"
function_word ops.Le = codes "le"
function_word ops.Gt = codes "gt"
function_word ops.Ge = codes "ge"
function_word ops.Both = codes "both"
function_word ops.Either = codes "either"
function_word ops.Max = codes "max"
function_word ops.Min = codes "min"
function_word ops.Sadd = codes "sadd"
function_word ops.Decay = codes "decay"

-- a number that is written out, `#N`
abbrev pub number_word : ℕ → List ℕ
number_word n = 35 ∷ decimal n

-- a register, `rN`, or a number
abbrev pub operand_word : Operand → List ℕ
operand_word (Register r) = 114 ∷ decimal r
operand_word (Number n) = number_word n

-- what an operation does with its operands: `not` has the left one alone
abbrev pub operation_words : operation.Operation → Operand → Operand → List (List ℕ)
operation_words Not left right = codes "not" ∷ operand_word left ∷ []
operation_words (Two f) left right = function_word f ∷ operand_word left ∷ operand_word right ∷ []

-- a state variable of a body, `sI`
abbrev pub state_word : ℕ → List ℕ
state_word v = 115 ∷ decimal v

-- a slot of a row: the state variables come first, and the arguments, `aI`, after them
abbrev pub slot_word : ℕ → ℕ → List ℕ
slot_word states s = if nat_lt s states then state_word s else 97 ∷ decimal (s - states)

-- an expression over this many state variables: each operator and function comes before its operands
abbrev pub term_words : ℕ → Term → List (List ℕ)
term_words states (Literal n) = number_word n ∷ []
term_words states (Read s) = slot_word states s ∷ []
term_words states (Negation e) = codes "not" ∷ term_words states e
term_words states (Operation op a b) = function_word op ∷ (term_words states a ++ term_words states b)

-- statements: `set sI EXPR`, and `if EXPR { STATEMENTS } { STATEMENTS }`
abbrev pub block_words : ℕ → Block → List (List ℕ)
block_words states End = []
block_words states (Set v e next) = codes "set" ∷ state_word v ∷ (term_words states e ++ block_words states next)
block_words states (Fork c a b next) =
    codes "if" ∷ (term_words states c
    ++ (codes "{" ∷ (block_words states a
    ++ (codes "}" ∷ codes "{" ∷ (block_words states b
    ++ (codes "}" ∷ block_words states next))))))
