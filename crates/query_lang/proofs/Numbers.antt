-- The number that digits write.
use Rattle.std.proofs.Common.{◌≡◌, ℕ, ◌+◌, ◌*◌, ◌^◌, ◌<◌, ◌≤◌, false, ltb, List, [], ◌∷◌, length, get_or, drop, None, refl, sym, ap, ◌∙◌}
use Rattle.std.{proofs.{Common.{arith, add-one, drop-cons}, lemmas.Bool.le-ltb}, specs.{Char.digit_value, Str.Parse.digits_value_after}}
use Rattle.query_lang.specs.Lexis.{below_limit}

grows : (ds : List ℕ) (n : ℕ) → n ≤ digits_value_after 10 n ds
grows [] n = omega arith
grows (d ∷ ds) n = omega (arith, grows ds (n * 10 + digit_value d))

pub step : (ds : List ℕ) (i n total : ℕ) → i < length ds → digits_value_after 10 n (drop i ds) ≡ total
    → digits_value_after 10 (n * 10 + digit_value (get_or ds i 0)) (drop (i + 1) ds) ≡ total
step ds i n total lt h = rw add-one (sym (ap (digits_value_after 10 n) (drop-cons ds i 0 lt)) ∙ h)

pub too_large : (ds : List ℕ) (i n total : ℕ) → i < length ds → 2 ^ 64 ≤ n * 10 + digit_value (get_or ds i 0)
    → digits_value_after 10 n (drop i ds) ≡ total → None ≡ below_limit total
too_large ds i n total lt big h =
    let g = grows (drop (i + 1) ds) (n * 10 + digit_value (get_or ds i 0)) in
    let e = step ds i n total lt h in
    let b : ltb total (2 ^ 64) ≡ false = le-ltb _ _ (omega (arith, g, e)) in
    rw b refl
