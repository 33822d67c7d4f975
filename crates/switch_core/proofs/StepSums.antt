-- How steps and fronts go on from one call to the next.
use Rattle.std.proofs.Common.{◌≡◌, ◌+◌, ◌≤◌, ℕ, arith}

pub after_sum : (a b n : ℕ) → b ≡ a + n → a ≤ b
after_sum a b n e = omega arith

-- one more of some costs
pub one_more : (first was new sum own next : ℕ) → was ≤ first + sum → new ≤ was + own → next ≡ sum + own → new ≤ first + next
one_more first was new sum own next before more all = omega arith

pub within_all : (first new sum all : ℕ) → new ≤ first + sum → sum ≤ all → new ≤ first + all
within_all first new sum all some most = omega arith
