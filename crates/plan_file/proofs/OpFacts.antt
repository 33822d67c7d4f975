-- What the words of a line `op` say of its operation.
use Rattle.std.proofs.Common.{◌≡◌, ℕ, false, List, [], ◌∷◌, Option, Some, None, refl, sym, ap, ◌∙◌, arith, length, subst}
use Rattle.std.{proofs.lemmas.List.Splits.length-slice_split, specs.{Prelude.codes, Str.bytes_eq, List.slice_split}}
use Rattle.marple_base.specs.declared.field.Field.{Field}
use Rattle.query_lang.specs.declared.fold.Op.{Op}
use Rattle.stage_plan.specs.declared.op.{Operand.Operand, PlanOp.PlanOp}
use Rattle.plan_file.specs.{Lexis.{is_space, tokens}, Operations.{IsKnown, IsAllowed, IsOpLine, two_of, op_words}}

-- no words, no operation
pub no_words : (fields : List Field) (ops : List PlanOp) (w : Option PlanOp) → w ≡ None → (op : PlanOp) → w ≡ Some op
    → IsAllowed fields ops op → ⊥
no_words fields ops w none op e allowed = cc

some_same : (p q : PlanOp) → Some p ≡ Some q → p ≡ q
some_same p q e = cc

pub two_no_left : (fields : List Field) (ops : List PlanOp) (s : Option ℕ) (f : Option Op) (a b : Option Operand)
    → ((v : Operand) → a ≡ Some v → IsKnown fields ops v → ⊥) → (op : PlanOp) → two_of s f a b ≡ Some op → IsAllowed fields ops op → ⊥
two_no_left fields ops None f a b none op e allowed = cc
two_no_left fields ops (Some s) None a b none op e allowed = cc
two_no_left fields ops (Some s) (Some f) None b none op e allowed = cc
two_no_left fields ops (Some s) (Some f) (Some v) None none op e allowed = cc
two_no_left fields ops (Some s) (Some f) (Some v) (Some w) none op e allowed =
    none v refl (subst (λ o. IsKnown fields ops o.left) (sym (some_same _ op e)) allowed.left)

-- a line whose words are no operation
pub no_line : (fields : List Field) (ops : List PlanOp) (line : List ℕ) → op_words (tokens line) ≡ None → (op : PlanOp)
    → IsOpLine fields ops line op → ⊥
no_line fields ops line none op valid = no_words fields ops (op_words (tokens line)) none op valid.words valid.allowed

-- a line with another first word
other_word : (word : List ℕ) (rest : List (List ℕ)) → bytes_eq word (codes "op") ≡ false → op_words (word ∷ rest) ≡ None
other_word word [] e = refl
other_word word (a ∷ []) e = refl
other_word word (a ∷ b ∷ []) e = refl
other_word word (a ∷ b ∷ c ∷ []) e = rw e refl
other_word word (a ∷ b ∷ c ∷ d ∷ []) e = rw e refl
other_word word (a ∷ b ∷ c ∷ d ∷ f ∷ rest) e = refl

pub no_other_word : (fields : List Field) (ops : List PlanOp) (line word : List ℕ) (rest : List (List ℕ)) → tokens line ≡ word ∷ rest
    → bytes_eq word (codes "op") ≡ false → (op : PlanOp) → IsOpLine fields ops line op → ⊥
no_other_word fields ops line word rest e other = no_line fields ops line (ap op_words e ∙ other_word word rest other)

-- six tokens are no operation
pub six_tokens : (a b c d e : List ℕ) (text : List ℕ) → op_words (a ∷ b ∷ c ∷ d ∷ e ∷ slice_split is_space text) ≡ None
six_tokens a b c d e text = by (slice_split is_space text) refl
  where
    by : (parts : List (List ℕ)) → slice_split is_space text ≡ parts → op_words (a ∷ b ∷ c ∷ d ∷ e ∷ slice_split is_space text) ≡ None
    by [] f = absurd (omega (arith, ap length f, length-slice_split is_space text))
    by (g ∷ rest) f = rw f refl
