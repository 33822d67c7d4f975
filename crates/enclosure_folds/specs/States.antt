-- The order of states.
use Rattle.std.specs.{Prelude.{ℕ, ◌≤◌, List}, List.AllZip}

-- equally many words, and each is at most the other's
abbrev pub IsAtMost : List ℕ → List ℕ → Type 0
IsAtMost low high = AllZip (λ x y. x ≤ y) low high
