-- Chains of keys, by which keys are found: keys with one home make a chain, in which each leads to the one before it.
use Rattle.std.specs.Prelude.{◌≡◌, ℕ, zero, suc, List, ◌==◌, ◌*◌, ◌-◌, ◌/◌, ◌%◌, ◌^◌, ◌<◌, get_or, length, if◌then◌else◌}
use Rattle.std.specs.Int.RustNames.{bit_and, bit_xor}

-- the home of a fingerprint among a number of homes
unfoldable pub home_of : ℕ → ℕ → ℕ
home_of print homes =
    let spread = (print * 0x9e37_79b9_7f4a_7c15) % 2 ^ 64 in
    let mixed = (bit_xor spread (spread / 2 ^ 32) * 0x9e37_79b9_7f4a_7c15) % 2 ^ 64 in
    bit_and (mixed / 2 ^ 32) (homes - 1)

-- a tag of a fingerprint, which is spread otherwise than its home
unfoldable pub tag_of : ℕ → ℕ
tag_of print = (print * 0x9e37_79b9_7f4a_7c15) % 2 ^ 64 / 2 ^ 48 % 2 ^ 16

-- the home of the key with a number, by the fingerprints of all keys
abbrev pub home_at : ℕ → List ℕ → ℕ → ℕ
home_at homes prints number = home_of (get_or prints number 0) homes

-- the last key of a home below a number: one more than its number, or 0 where there is none
unfoldable pub last_below : ℕ → List ℕ → ℕ → ℕ → ℕ
last_below homes prints home zero = 0
last_below homes prints home (suc number) =
    if home_at homes prints number == home then suc number else last_below homes prints home number

-- so many keys are in chains: each leads to the one before it with its home, and each home to its last key
pub record AreChained (count : ℕ) (prints before ends : List ℕ) : Type 0 where
  pub linked : (number : ℕ) → number < count
      → get_or before number 0 ≡ last_below (length ends) prints (home_at (length ends) prints number) number
  pub ended : (home : ℕ) → home < length ends → get_or ends home 0 ≡ last_below (length ends) prints home count
