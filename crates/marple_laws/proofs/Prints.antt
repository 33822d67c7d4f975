-- What a query without finals prints, and what its folds begin with.
use Rattle.marple_laws.proofs.Words
use Words.{◌≡◌, ℕ, ◌<◌, List, [], ◌∷◌, ◌++◌, length, Some, None, refl, sym, subst, inl, inr, arith, All, flat_map, All-head, All-tail}
use Words.{TypedFold, PrintOf, TypedFinal, TypedQuery, IsQueryTable, final_fault, first_final, printed_group, AllWords, AreNew}
use Rattle.std.specs.Prelude.{slice_get}
use Rattle.query_lang.specs.declared.typed.PrintOf.TheVariants as place
use Rattle.query_lang.specs.Words.{AreWords, IsWord}
use Rattle.marple_laws.proofs.{Items.{IsIn, contains_in, in_last, in_left, in_push}, Texts.{all_at, in_contains}}

none_first : (finals : List TypedFinal) → first_final finals ≡ None → length finals ≡ 0
none_first [] e = refl
none_first (one ∷ rest) e = cc

-- no final is printed
abbrev pub AreGroups : List PrintOf → Type 0
AreGroups [] = Unit {0}
AreGroups (place.Group i ∷ prints) = AreGroups prints
AreGroups (place.Final i ∷ prints) = ⊥

pub only_groups : (q : TypedQuery) (prints : List PrintOf) → All (IsQueryTable q) prints → final_fault q ≡ None → AreGroups prints
only_groups q [] all none = tt
only_groups q (place.Group i ∷ prints) all none = only_groups q prints (All-tail (IsQueryTable q) (place.Group i) prints all) none
only_groups q (place.Final i ∷ prints) all none =
    let lt : i < length q.finals = all 0 (place.Final i) (omega arith) in
    omega (arith, lt, none_first)

pub as_many : (prints : List PrintOf) → AreGroups prints → length (flat_map printed_group prints) ≡ length prints
as_many [] are = refl
as_many (place.Group i ∷ prints) are = let rest = as_many prints are in omega (arith, rest)
as_many (place.Final i ∷ prints) are = absurd are

pub numbers_new : (prints before : List PrintOf) (numbers : List ℕ) → ((i : ℕ) → IsIn i numbers → IsIn (place.Group i) before)
    → AreGroups prints → AreNew before prints → AreNew numbers (flat_map printed_group prints)
numbers_new [] before numbers cover are new = tt
numbers_new (place.Group i ∷ prints) before numbers cover are new = (
  (λ c. new.0 (in_contains before (cover i (contains_in numbers c)))),
  numbers_new prints (before ++ place.Group i ∷ []) (numbers ++ i ∷ []) more are new.1,
)
  where
    more : (k : ℕ) → IsIn k (numbers ++ i ∷ []) → IsIn (place.Group k) (before ++ place.Group i ∷ [])
    more k h = elim (in_push numbers i k h) [
      | inl old ↦ in_left (place.Group k) before (place.Group i ∷ []) (cover k old)
      | inr same ↦ subst (λ z. IsIn (place.Group z) (before ++ place.Group i ∷ [])) (sym same) (in_last before (place.Group i))
    ]
numbers_new (place.Final i ∷ prints) before numbers cover are new = absurd are

all_words : (numbers : List ℕ) → All IsWord numbers → AllWords numbers
all_words [] all = tt
all_words (n ∷ numbers) all = (All-head IsWord n numbers all, all_words numbers (All-tail IsWord n numbers all))

pub starts : (folds : List TypedFold) → All (λ f. AreWords f.initial) folds → (i : ℕ) (f : TypedFold) → slice_get folds i ≡ Some f
    → AllWords f.initial
starts folds all i f e = all_words _ (all_at (λ (g : TypedFold). AreWords g.initial) _ i f all e)
