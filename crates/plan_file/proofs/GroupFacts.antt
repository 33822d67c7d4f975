-- The lines of a group that is read in place.
use Rattle.std.proofs.Common.{◌≡◌, ℕ, ◌<◌, ◌∷◌, ◌++◌, [], List, Bool, true, false, codes, length, IsTrue, refl, subst, ap, ◌∙◌, arith}
use Rattle.stage_plan.specs.declared.op.{Operand.Operand, PlanOp.PlanOp}
use Rattle.marple_base.specs.declared.field.Field.{Field}
use Rattle.plan_file.specs.{declared.made.Group.Group, Groups.{IsKeyLine, IsNewIn, IsStateLine}, Named.{IsNamedNumber, IsNamedOperand}}

-- a list that is not empty
pub some_items : {A : Type 0} (xs : List A) (b : Bool) → (IsTrue b → xs ≡ []) × (xs ≡ [] → IsTrue b) → b ≡ false → 0 < length xs
some_items [] b e is = absurd (let yes : b ≡ true = e.1 refl in cc)
some_items (x ∷ xs) b e is = omega arith

-- a list that is empty
pub no_items : {A : Type 0} (xs : List A) (b : Bool) → (IsTrue b → xs ≡ []) × (xs ≡ [] → IsTrue b) → b ≡ true → xs ≡ []
no_items xs b e is = e.0 is

-- a line whose name is not new is no line of a state variable
pub no_state_line : (before : Group) (line name : List ℕ) (value : ℕ) (after : Group) → IsNamedNumber (codes "state") line name value
    → (IsNewIn before name → ⊥) → IsStateLine before line after → ⊥
no_state_line before line name value after valid old is =
    let same : is.name ≡ name = cc (is.valid.words, valid.words) in
    old (subst (IsNewIn before) same is.new)

-- nor one of a key
pub no_key_line : (fields : List Field) (ops : List PlanOp) (before : Group) (line name : List ℕ) (value : Operand) (after : Group)
    → IsNamedOperand fields ops (codes "key") line name value → (IsNewIn before name → ⊥) → IsKeyLine fields ops before line after → ⊥
no_key_line fields ops before line name value after valid old is =
    let same : is.name ≡ name = cc (is.valid.words, valid.words) in
    old (subst (IsNewIn before) same is.new)

-- a state variable is added
pub state_added : (before : Group) (name : List ℕ) (value : ℕ) (names : List (List ℕ)) (initial : List ℕ)
    → names ≡ before.state_names ++ name ∷ [] → initial ≡ before.initial ++ value ∷ []
    → record before { state_names = names; initial = initial }
    ≡ record before { state_names = before.state_names ++ name ∷ []; initial = before.initial ++ value ∷ [] }
state_added before name value names initial n i = ap (λ names. record before { state_names = names; initial = initial }) n
    ∙ ap (λ initial. record before { state_names = before.state_names ++ name ∷ []; initial = initial }) i

-- a key is added
pub key_added : (before : Group) (name : List ℕ) (value : Operand) (names : List (List ℕ)) (keys : List Operand)
    → names ≡ before.key_names ++ name ∷ [] → keys ≡ before.keys ++ value ∷ [] → record before { key_names = names; keys = keys }
    ≡ record before { key_names = before.key_names ++ name ∷ []; keys = before.keys ++ value ∷ [] }
key_added before name value names keys n k = ap (λ names. record before { key_names = names; keys = keys }) n
    ∙ ap (λ keys. record before { key_names = before.key_names ++ name ∷ []; keys = keys }) k
