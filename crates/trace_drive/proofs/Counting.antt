-- The remainder of the next number.
use Rattle.std.proofs.Common.{◌≡◌, ℕ, suc, ◌+◌, ◌<◌, ◌≤◌, ◌%◌, true, false, ap, ◌∙◌, arith}
use Rattle.std.proofs.{Math.Nat.{suc-mod, mod-eq_of_lt, mod_self, mod-lt}, lemmas.Bool.Decides.nat_tests}
use Rattle.epoch_model.specs.Epochs.{is_refresh}

next_within : (every since number : ℕ) → since ≡ number % every → since + 1 < every → suc number % every ≡ since + 1
next_within every since number is room =
    let below : suc (number % every) < every = omega arith in
    suc-mod number every ∙ (mod-eq_of_lt below ∙ (let e : suc (number % every) ≡ since + 1 = omega arith in e))

next_around : (every since number : ℕ) → 0 < every → since ≡ number % every → every ≤ since + 1 → suc number % every ≡ 0
next_around every since number some is full =
    let below = mod-lt number {m = every} some in
    let whole : suc (number % every) ≡ every = omega arith in
    suc-mod number every ∙ (ap (λ n. n % every) whole ∙ mod_self every)

pub clock_rests : (every since number : ℕ) → since ≡ number % every → since + 1 < every → false ≡ is_refresh every (suc number)
clock_rests every since number is room =
    let next = next_within every since number is room in
    let some : 0 < suc number % every = omega arith in
    grind (arith, nat_tests)

pub clock_is_due : (every since number : ℕ) → 0 < every → since ≡ number % every → every ≤ since + 1 → true ≡ is_refresh every (suc number)
clock_is_due every since number some is full =
    let next = next_around every since number some is full in
    grind (arith, nat_tests)
