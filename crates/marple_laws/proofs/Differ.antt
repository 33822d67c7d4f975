-- Which names of a typed query differ.
use Rattle.std.specs.Prelude.{◌≡◌, ℕ, ◌<◌, List, [], ◌∷◌, length, map, slice_get, Some, Contains}
use Rattle.marple_laws.proofs.Words.{TypedFold, TypedOp, TypedQuery, TypedStream, AreNew}
use Rattle.query_lang.specs.declared.typed.TypedOp.TheVariants as typed

-- no state variable has the name of a key
abbrev pub AreApart : List ℕ → List ℕ → Type 0
AreApart keys [] = Unit {0}
AreApart keys (name ∷ names) = (Contains keys name → ⊥) × AreApart keys names

-- the keys of a groupby differ, and no state variable of its fold has the name of a key
abbrev pub HasOwnColumns : List TypedFold → List ℕ → TypedOp → Type 0
HasOwnColumns folds columns (typed.Group input keys number args) =
    AreNew [] columns × ((f : TypedFold) × (slice_get folds number ≡ Some f) × AreApart columns f.state_names)
HasOwnColumns folds columns _ = Unit {0}

-- The names of streams differ from one another and from that of the packets, the state variables of each fold differ, so do the columns
-- of each groupby, and some table is printed, none twice.
pub record NamesDiffer (packets : ℕ) (q : TypedQuery) : Type 0 where
  pub streams : AreNew (packets ∷ []) (map (λ one. one.name.id) q.streams)
  pub states : (i : ℕ) (f : TypedFold) → slice_get q.folds i ≡ Some f → AreNew [] f.state_names
  pub columns : (i : ℕ) (one : TypedStream) → slice_get q.streams i ≡ Some one → HasOwnColumns q.folds one.columns one.op
  pub printed : 0 < length q.prints
  pub prints : AreNew [] q.prints
