-- What a counter of 64 bits holds of a total that has no bound.
use Rattle.std.specs.Prelude.{◌≡◌, ◌<◌, ◌≤◌, ◌^◌, ℕ, Bool, true, false}

-- the total; or, once it has passed the greatest number of 64 bits, only that it has
abbrev pub IsCountOf : ℕ → ℕ → Bool → Type 0
IsCountOf total count false = (total < 2 ^ 64) × (count ≡ total)
IsCountOf total count true = 2 ^ 64 ≤ total
