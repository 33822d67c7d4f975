-- Lines with a word, a name and an operand or a number.
use Rattle.std.specs.Prelude.{◌≡◌, ℕ, true, List, [], ◌∷◌, Some}
use Rattle.marple_base.specs.declared.field.Field.{Field}
use Rattle.stage_plan.specs.declared.op.{Operand.Operand, PlanOp.PlanOp}
use Rattle.plan_file.specs.{Lexis.{tokens, number, is_name}, Operations.{operand, IsKnown}}

-- a word, a name and an operand whose register is known
pub record IsNamedOperand (fields : List Field) (ops : List PlanOp) (word line name : List ℕ) (value : Operand) : Type 0 where
  pub token : List ℕ
  pub words : tokens line ≡ word ∷ name ∷ token ∷ []
  pub named : is_name name ≡ true
  pub reads : operand token ≡ Some value
  pub known : IsKnown fields ops value

-- a word and an operand whose register is known
pub record IsOneOperand (fields : List Field) (ops : List PlanOp) (word line : List ℕ) (value : Operand) : Type 0 where
  pub token : List ℕ
  pub words : tokens line ≡ word ∷ token ∷ []
  pub reads : operand token ≡ Some value
  pub known : IsKnown fields ops value

-- a word, a name and a number
pub record IsNamedNumber (word line name : List ℕ) (value : ℕ) : Type 0 where
  pub token : List ℕ
  pub words : tokens line ≡ word ∷ name ∷ token ∷ []
  pub named : is_name name ≡ true
  pub reads : number token ≡ Some value

-- a word and a number
pub record IsOneNumber (word line : List ℕ) (value : ℕ) : Type 0 where
  pub token : List ℕ
  pub words : tokens line ≡ word ∷ token ∷ []
  pub reads : number token ≡ Some value
