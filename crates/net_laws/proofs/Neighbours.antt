-- Two packets of different switches that are exchanged leave the same packets of each switch.
use Rattle.std.proofs.Common.{◌≡◌, ◌≢◌, ℕ, Bool, true, false, cond, ◌==◌, List, [], ◌∷◌, ◌++◌, length, refl, arith}
use Rattle.std.proofs.lemmas.List.Elements.{All-cons, All-head, All-tail}
use Rattle.marple_base.specs.declared.field.TheConstants.{FIELDS}
use Rattle.stage_plan.specs.Packets.{AreWhole}
use Rattle.net_wide.specs.{NetLaws.SameOfEachSwitch, NetTables.{switch_in, packets_at}}

abbrev is_whole : List ℕ → Type 0
is_whole words = length words ≡ FIELDS

pub swapped_whole : (front back : List (List ℕ)) (a b : List ℕ) → AreWhole (front ++ a ∷ b ∷ back) → AreWhole (front ++ b ∷ a ∷ back)
swapped_whole [] back a b h =
    let more = All-tail is_whole a (b ∷ back) h in
    All-cons is_whole b (a ∷ back) (All-head is_whole b _ more)
    (All-cons is_whole a _ (All-head is_whole a (b ∷ back) h) (All-tail is_whole b _ more))
swapped_whole (x ∷ front) back a b h =
    All-cons is_whole x _ (All-head is_whole x _ h)
    (swapped_whole front _ a b (All-tail is_whole x _ h))

one_at : (s : ℕ) (x : List ℕ) (front other : List (List ℕ)) → packets_at s front ≡ packets_at s other
    → packets_at s (x ∷ front) ≡ packets_at s (x ∷ other)
one_at s x front other same = go _
  where
    go : (t : Bool) → cond t (x ∷ packets_at s front) (packets_at s front) ≡ cond t (x ∷ packets_at s other) (packets_at s other)
    go true = cc same
    go false = same

pub swapped_same : (front back : List (List ℕ)) (a b : List ℕ) → switch_in a ≢ switch_in b
    → SameOfEachSwitch (front ++ a ∷ b ∷ back) (front ++ b ∷ a ∷ back)
swapped_same [] back a b apart s = go _ refl _ refl
  where
    go : (t : Bool) → (switch_in a == s) ≡ t → (u : Bool) → (switch_in b == s) ≡ u
        → cond t (a ∷ cond u (b ∷ packets_at s back) (packets_at s back)) (cond u (b ∷ packets_at s back) (packets_at s back))
        ≡ cond u (b ∷ cond t (a ∷ packets_at s back) (packets_at s back)) (cond t (a ∷ packets_at s back) (packets_at s back))
    go true e true k = let same : switch_in a ≡ switch_in b = grind arith in absurd (apart same)
    go true e false k = refl
    go false e true k = refl
    go false e false k = refl
swapped_same (x ∷ front) back a b apart s = one_at s x _ _ (swapped_same front _ a b apart s)
