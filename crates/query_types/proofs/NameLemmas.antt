use Rattle.std.proofs.Common.{◌≡◌, ℕ, ◌+◌, ◌≤◌, List, length, ap, arith}
use Rattle.query_lang.{specs.Names.with_name, proofs.NameFacts.with_bounds}

-- one more name than before
pub still_room : (names after : List (List ℕ)) (text : List ℕ) (n : ℕ) → after ≡ with_name names text → length names ≤ n → length after ≤ n
    + 1
still_room names after text n is h = omega (arith, h, ap length is, (with_bounds names text).1)
