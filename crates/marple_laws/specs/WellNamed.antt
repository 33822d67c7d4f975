-- Names, numbers and prints that the lines of a plan may have.
use Rattle.std.specs.Prelude.{◌≡◌, ℕ, ◌^◌, ◌<◌, ◌≤◌, true, List, [], ◌∷◌, ◌++◌, length, map, flat_map, codes, slice_get, Some, Contains}
use Rattle.query_lang.specs.declared.{fold.TypedFold.TypedFold, typed.TypedQuery.TypedQuery}
use Rattle.stage_plan.specs.Shape.{GroupShape, query_groups}
use Rattle.plan_file.specs.{Lexis.is_name, declared.texts.TheConstants.MAX_PLAN}
use Rattle.plan_writer.specs.PlanText.{compiled_text}
use Rattle.marple_laws.specs.MadeOf.{printed_group}

-- names by the rule of names
abbrev pub AreNames : List (List ℕ) → Type 0
AreNames [] = Unit {0}
AreNames (name ∷ names) = (is_name name ≡ true) × AreNames names

-- no item is among those before it
abbrev pub AreNew : {A : Type 0} → List A → List A → Type 0
AreNew before [] = Unit {0}
AreNew before (item ∷ items) = (Contains before item → ⊥) × AreNew (before ++ item ∷ []) items

-- no state variable has the name of a key
abbrev pub AreNoKeys : List (List ℕ) → List (List ℕ) → Type 0
AreNoKeys key_names [] = Unit {0}
AreNoKeys key_names (name ∷ names) = (Contains key_names name → ⊥) × AreNoKeys key_names names

-- numbers that fit words
abbrev pub AllWords : List ℕ → Type 0
AllWords [] = Unit {0}
AllWords (n ∷ numbers) = (n < 2 ^ 64) × AllWords numbers

-- a groupby with a name by the rule, whose columns have different names
pub record IsNamedWell (shape : GroupShape) : Type 0 where
  pub named : is_name shape.name ≡ true
  pub no_stream : shape.name ≡ codes "pktstream" → ⊥
  pub key_names : AreNames shape.key_names
  pub keys_differ : AreNew [] shape.key_names
  pub state_names : AreNames shape.state_names
  pub states_differ : AreNew [] shape.state_names
  pub states_apart : AreNoKeys shape.key_names shape.state_names

-- a query whose plan has a text: its groupbys have different names by the rule, its folds begin with words, it prints something and nothing
-- twice, and the text isn't too long
pub record HasPlanText (q : TypedQuery) : Type 0 where
  pub groups : (i : ℕ) (shape : GroupShape) → slice_get (query_groups q) i ≡ Some shape → IsNamedWell shape
  pub names_differ : AreNew [] (map (λ shape. shape.name) (query_groups q))
  pub initial : (i : ℕ) (f : TypedFold) → slice_get q.folds i ≡ Some f → AllWords f.initial
  pub printed : 0 < length (flat_map printed_group q.prints)
  pub prints_differ : AreNew [] (flat_map printed_group q.prints)
  pub short : length (compiled_text q) ≤ MAX_PLAN
