-- A map of two variables at most has few elements, and with elements of two words at most it has few words.
use Rattle.std.proofs.{Common.{ℕ, ◌≡◌, ◌≤◌, ◌+◌, ◌*◌, arith}, Math.Nat.{mul-le-mul}, lemmas.Bool.{leb-true}}
use Rattle.std.specs.Prelude.{true}
use lib.Dec.{leb}

pub elements : (n : ℕ) → leb n 2 ≡ true → n * (n + 1) ≤ 2 * 3
elements n few =
    let least = leb-true n 2 few in
    let next : n + 1 ≤ 3 = omega (arith, least) in
    mul-le-mul least next

pub words : (n e : ℕ) → leb n 2 ≡ true → e ≤ 2 → n * (n + 1) * e ≤ 2 * 3 * 2
words n e few most = mul-le-mul (elements n few) most
