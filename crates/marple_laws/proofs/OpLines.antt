-- The lines of operations are valid in sequence.
use Rattle.marple_laws.proofs.{Bodies.{function_read, token_function}, Known.IsSingle, Numbers.{number_decimal, token_decimal}}
use Rattle.marple_laws.proofs.Words
use Words.{Field, IsAllowed, List, Made, None, Not, Number, Operand, PlanOp, Register, Some, Two, [], ap, append-nil, append_assoc, codes}
use Words.{decimal, either_operand, flat_map, length, not_of, op_line, op_words, operand, operand_word, operation_words, refl, subst, sym}
use Words.{take, take_at, true, two_of, word_named, ℕ, ◌++◌, ◌<◌, ◌^◌, ◌∙◌, ◌∷◌, ◌≡◌}
use Rattle.marple_laws.proofs.{Numbers.token_marked, Tokens.{AreTokens, is_token}}
use Rattle.marple_laws.proofs.Written.{IsWritten}
use Rattle.marple_laws.proofs.Written.{line_written, nothing_written, written_then}
use Rattle.std.specs.Prelude.{slice_get}
use Rattle.plan_file.specs.declared.line_word.LineWord.TheVariants as lead
use Rattle.stage_plan.specs.declared.op.Operation as operation

-- the number of an operand fits a word
abbrev pub Fits : Operand → Type 0
Fits (Register r) = r < 2 ^ 64
Fits (Number n) = n < 2 ^ 64

pub operand_read : (o : Operand) → Fits o → operand (operand_word o) ≡ Some o
operand_read (Register r) fits = ap (λ x. either_operand x None) (number_decimal fits)
operand_read (Number n) fits = ap (λ x. either_operand None x) (number_decimal fits)

pub token_operand : (o : Operand) → Fits o → is_token (operand_word o) ≡ true
token_operand (Register r) fits = token_marked 114 r refl fits
token_operand (Number n) fits = token_marked 35 n refl fits

-- an operation that is allowed after these, with numbers that fit words
pub record IsOpOk (fields : List Field) (before : List PlanOp) (one : PlanOp) : Type 0 where
  pub allowed : IsAllowed fields before one
  pub stage : one.stage < 2 ^ 64
  pub left : Fits one.left
  pub right : Fits one.right
  pub single : IsSingle one.op one.right

op_read : (stage : ℕ) (op : operation.Operation) {left right : Operand} → stage < 2 ^ 64 → Fits left → Fits right → IsSingle op right
    → op_words (codes "op" ∷ decimal stage ∷ operation_words op left right)
    ≡ Some (record { stage = stage; op = op; left = left; right = right })
op_read stage Not {left} s l r single =
    (λ k. not_of (number_decimal s k) (operand_read _ l k))
    ∙ ap (λ b. Some (record { stage = stage; op = Not; left = left; right = b })) (sym single)
op_read stage (Two f) s l r single = λ k. two_of (number_decimal s k) (function_read f k) (operand_read _ l k) (operand_read _ r k)

op_tokens : {stage : ℕ} (op : operation.Operation) (left right : Operand) → stage < 2 ^ 64 → Fits left → Fits right
    → AreTokens (decimal stage ∷ operation_words op left right)
op_tokens Not left right s l r = (token_decimal s, (refl, (token_operand _ l, tt)))
op_tokens (Two f) left right s l r = (token_decimal s, (token_function f, (token_operand _ l, (token_operand _ r, tt))))

op_word : word_named (codes "op") ≡ lead.Op
unfolding word_named
op_word = refl

-- what lines make before the first group
abbrev pub with_ops : List Field → List PlanOp → Made
with_ops fields ops = record { begun = true; reads = Some fields; ops = ops; groups = []; current = None; prints = [] }

op_written : {fields : List Field} {before : List PlanOp} {one : PlanOp} → IsOpOk fields before one
    → IsWritten (op_line one) (with_ops fields before) (with_ops fields (before ++ one ∷ []))
op_written {fields} {one} ok =
    line_written (decimal one.stage ∷ operation_words one.op one.left one.right) refl
    (op_tokens _ _ _ ok.stage ok.left ok.right) op_word
    (λ cut. record {
      fields = fields;
      reads = refl;
      groups = refl;
      current = refl;
      op = one;
      valid = record { words = ap op_words cut ∙ op_read _ _ ok.stage ok.left ok.right ok.single; allowed = ok.allowed };
      made = refl;
    })

middle : {A : Type 0} (xs : List A) (y : A) (ys : List A) → slice_get (xs ++ y ∷ ys) (length xs) ≡ Some y
middle [] y ys = refl
middle (x ∷ xs) y ys = middle xs y ys

-- operations after others
pub ops_written : {fields : List Field} {all : List PlanOp} → ((i : ℕ) (one : PlanOp) → slice_get all i ≡ Some one
    → IsOpOk fields (take i all) one) → {before : List PlanOp} (rest : List PlanOp) → before ++ rest ≡ all
    → IsWritten (flat_map op_line rest) (with_ops fields before) (with_ops fields all)
ops_written {fields} ok {before} [] e = nothing_written (ap (with_ops fields) (sym e ∙ append-nil before))
ops_written {fields} {all} ok {before} (one ∷ rest) e =
    written_then (flat_map op_line rest)
    (op_written (subst (λ l. IsOpOk fields l one) front
    (ok (length before) one (ap (λ l. slice_get l (length before)) (sym e) ∙ middle before one rest))))
    (ops_written ok rest (append_assoc before (one ∷ []) rest ∙ e))
  where
    front : take (length before) all ≡ before
    front = ap (take (length before)) (sym e) ∙ take_at before (one ∷ rest) (length before) refl
