-- Where the elements of a table are in the words.
use Rattle.std.proofs.Common.{◌≡◌, ◌≢◌, ℕ, ◌+◌, ◌-◌, ◌*◌, ◌<◌, ◌≤◌, Bool, true, false, nat_lt, List, ◌++◌, length, take, drop, refl, sym}
use Rattle.std.proofs.{Common.{ap, ◌∙◌, subst, arith, length-take}, lemmas.{Bool.Decides.nat_tests, List.{drop-take, take_at, drop_at}}}
use Rattle.std.proofs.lemmas.Slice.{take-put_mid_below, drop-put_mid}
use borrow.Rule.Slice.PartMut.{put_mid, post_of}
use Rattle.coeff_algebra.specs.Maps.{stored_at}

pub one_less : (o p w : ℕ) → o < p → o * w + w ≤ p * w
one_less o p w h = grind arith

-- an element at another place stays
pub other_place : (w p o k : ℕ) (xs ys : List ℕ) → o ≢ p → k ≡ w → p * w + w ≤ length xs → length ys ≡ w
    → take w (drop (o * w) (put_mid (p * w) k xs ys)) ≡ take w (drop (o * w) xs)
other_place w p o k xs ys ne ek room ey = place (nat_lt o p) refl
  where
    place : (b : Bool) → nat_lt o p ≡ b → take w (drop (o * w) (put_mid (p * w) k xs ys)) ≡ take w (drop (o * w) xs)
    place true t =
        let lt : o < p = grind (arith, nat_tests) in
        sym (drop-take (o * w) w (put_mid (p * w) k xs ys)) ∙ ap (drop (o * w))
        (take-put_mid_below (p * w) k xs ys (o * w + w) (one_less o p w lt) (omega arith)) ∙ drop-take (o * w) w xs
    place false t =
        let lt : p < o = grind (arith, nat_tests) in
        ap (take w) (drop-put_mid (p * w) k xs ys (o * w) (omega (arith, one_less p o w lt)) (omega arith) (ey ∙ sym ek))

-- a place of the table is inside
pub place_inside : (n i j : ℕ) → i < n → j ≤ n → i * (n + 1) + j < n * (n + 1)
place_inside n i j hi hj = omega (arith, one_less i n (n + 1) hi)

pub words_inside : (p m w : ℕ) → p < m → p * w + w ≤ m * w
words_inside p m w h = one_less p m w h

-- what was written is read back, and the words at other places stay
pub same_words : (w w1 w2 p : ℕ) (xs ys : List ℕ) → w1 ≡ w → w2 ≡ w → p * w + w ≤ length xs → length ys ≡ w
    → stored_at w (put_mid (p * w1) (p * w1 + w2 - p * w1) xs ys) p ≡ ys
same_words w w1 w2 p xs ys e1 e2 room ey =
    let front : length (take (p * w) xs) ≡ p * w = omega (arith, length-take (p * w) xs) in
    ap (λ z. stored_at w (put_mid (p * z) (p * z + w2 - p * z) xs ys) p) e1
    ∙ ap (take w) (drop_at (take (p * w) xs) (ys ++ post_of (p * w) (p * w + w2 - p * w) xs) (p * w) front)
    ∙ take_at ys (post_of (p * w) (p * w + w2 - p * w) xs) w ey

pub other_words : (w w1 w2 p : ℕ) (xs ys : List ℕ) → w1 ≡ w → w2 ≡ w → p * w + w ≤ length xs → length ys ≡ w → (o : ℕ) → o ≢ p →
    stored_at w (put_mid (p * w1) (p * w1 + w2 - p * w1) xs ys) o ≡ stored_at w xs o
other_words w w1 w2 p xs ys e1 e2 room ey o ne =
    let k : p * w + w2 - p * w ≡ w = omega arith in
    ap (λ z. stored_at w (put_mid (p * z) (p * z + w2 - p * z) xs ys) o) e1 ∙ other_place w p o (p * w + w2 - p * w) xs ys ne k room ey

pub entry_inside : (n i j w : ℕ) → i < n → j ≤ n → (i * (n + 1) + j) * w + w ≤ n * (n + 1) * w
entry_inside n i j w hi hj = words_inside (i * (n + 1) + j) (n * (n + 1)) w (place_inside n i j hi hj)

-- one more row of a table
pub rows_step : {C : Type 0} (E E' : ℕ → C) (G : ℕ → ℕ → C) (n row : ℕ) → ((i j : ℕ) → i < row → j ≤ n → E (i * (n + 1) + j) ≡ G i j)
    → ((p : ℕ) → p < row * (n + 1) → E' p ≡ E p) →
    ((j : ℕ) → j ≤ n → E' (row * (n + 1) + j) ≡ G row j) → (i j : ℕ) → i < row + 1 → j ≤ n → E' (i * (n + 1) + j) ≡ G i j
rows_step E E' G n row old kept own i j hi hj = place (nat_lt i row) refl
  where
    place : (b : Bool) → nat_lt i row ≡ b → E' (i * (n + 1) + j) ≡ G i j
    place true t =
        let lt : i < row = grind (arith, nat_tests) in
        let inside : i * (n + 1) + j < row * (n + 1) = omega (arith, one_less i row (n + 1) lt) in
        kept (i * (n + 1) + j) inside ∙ old i j lt hj
    place false t = let same : row ≡ i = grind (arith, nat_tests) in subst (λ r. E' (r * (n + 1) + j) ≡ G r j) same (own j hj)

more_words : (m w : ℕ) → 1 ≤ w → m ≤ m * w
more_words m w h = grind arith

pub row_room : (n w row : ℕ) → 1 ≤ w → row < n → row < n * (n + 1) * w
row_room n w row hw h = omega (arith, more_words (n * (n + 1)) w hw, more_words n (n + 1) (omega arith))

pub state_room : (n w : ℕ) → 1 ≤ w → n ≤ n * (n + 1) * w
state_room n w hw = omega (arith, more_words (n * (n + 1)) w hw, more_words n (n + 1) (omega arith))

-- places of one row are apart, and so are those before it
pub columns_apart : (start j column : ℕ) → j < column → start + j ≢ start + column
columns_apart start j column h = omega arith

pub before_apart : (p start column : ℕ) → p < start → p ≢ start + column
before_apart p start column h = omega arith

-- some steps more for each column
pub columns_steps : (first steps more column n : ℕ) → steps ≡ first + column * n → more ≡ steps + n → more ≡ first + (column + 1) * n
columns_steps first steps more column n e h = grind arith
