-- Rows that are stored one after another in one list of words.
use Rattle.std.proofs.Common.{◌≡◌, ℕ, zero, suc, ◌+◌, ◌*◌, ◌<◌, ◌≤◌, List, ◌∷◌, ◌++◌, length, take, drop, get_or, set, refl, sym, ap, ap₂}
use Rattle.std.proofs.{Common.{◌∙◌, arith, All, drop-drop, length-drop, append_assoc}, lemmas.List.{length-take-le, take_at, drop_at}}
use Rattle.std.proofs.Math.{Nat.mul_assoc, Seq.take-add}
use Rattle.bucket_cache.specs.Slices.{rows_of}

-- the row of a way below the number of ways is within the words
pub row_fits : (way ways width : ℕ) → way < ways → way * width + width ≤ ways * width
row_fits way zero width h = absurd (omega arith)
row_fits zero (suc ways) width h = omega arith
row_fits (suc way) (suc ways) width h = let rest = row_fits way ways width (omega arith) in omega arith

-- the first word of a way of a bucket
pub place-word : (b ways way kw : ℕ) → b * (ways * kw) + way * kw ≡ (b * ways + way) * kw
place-word b ways way kw = let a = mul_assoc b ways kw in omega arith

pub row_width : (ways way width : ℕ) (words row : List ℕ) → way < ways → length words ≡ ways * width
    → row ≡ take width (drop (way * width) words) → length row ≡ width
row_width ways way width words row h e r =
    let fits = row_fits way ways width h in
    let rest = length-drop (way * width) words in
    rw (r, length-take-le width (drop (way * width) words) (omega arith))

pub length-rows_of : (width count : ℕ) (words : List ℕ) → length (rows_of width count words) ≡ count
length-rows_of _ zero _ = refl
length-rows_of width (suc count) words = rw (length-rows_of width count (drop width words))

-- a place of the rows is one of their number
pub place_within : (width count : ℕ) (words : List ℕ) {rows : List (List ℕ)} {at : ℕ} → rows_of width count words ≡ rows → at < length rows
    → at < count
place_within width count words view low = omega (arith, low, length-rows_of width count words, ap length view)

pub get-rows_of : (width count : ℕ) (words : List ℕ) (at : ℕ) (d : List ℕ) → at < count
    → get_or (rows_of width count words) at d ≡ take width (drop (at * width) words)
get-rows_of width zero words at d h = absurd (omega arith)
get-rows_of width (suc count) words zero d h = ap (λ n. take width (drop n words)) (let e : 0 ≡ 0 * width = omega arith in e)
get-rows_of width (suc count) words (suc at) d h =
    get-rows_of width count (drop width words) at d (omega arith)
    ∙ ap (take width) (drop-drop (at * width) width words ∙ ap (λ n. drop n words)
    (let e : width + at * width ≡ suc at * width = omega arith in e))

pub rows_of-words : (width count : ℕ) (words : List ℕ) → length words ≡ count * width
    → All (λ row. length row ≡ width) (rows_of width count words)
rows_of-words width count words e k d h =
    let long = length-rows_of width count words in
    row_width count k width words (get_or (rows_of width count words) k d) (omega arith) e (get-rows_of width count words k d (omega arith))

-- a row is written over, and the others are unchanged
pub set-rows_of : (width count : ℕ) (words : List ℕ) (at : ℕ) (key : List ℕ) → at < count → length words ≡ count * width
    → length key ≡ width
    → rows_of width count (take (at * width) words ++ (key ++ drop width (drop (at * width) words))) ≡ set (rows_of width count words) at
    key
set-rows_of width zero words at key h e w = absurd (omega arith)
set-rows_of width (suc count) words zero key h e w =
    let none : 0 * width ≡ 0 = omega arith in
    rw (none, take_at key (drop width words) width w, drop_at key (drop width words) width w)
set-rows_of width (suc count) words (suc at) key h e w =
    let front = length-take-le width words (omega arith) in
    let split : suc at * width ≡ width + at * width = omega arith in
    let rest = take (at * width) (drop width words) ++ (key ++ drop width (drop (at * width) (drop width words))) in
    let joined =
    ap (λ n. take n words ++ (key ++ drop width (drop n words))) split
    ∙ (ap₂ (λ xs ys. xs ++ (key ++ drop width ys)) (take-add width (at * width) words) (sym (drop-drop (at * width) width words))
    ∙ append_assoc (take width words) (take (at * width) (drop width words)) (key ++ drop width (drop (at * width) (drop width words)))) in
    ap (rows_of width (suc count)) joined
    ∙ (ap₂ (λ row words. row ∷ rows_of width count words) (take_at (take width words) rest width front)
    (drop_at (take width words) rest width front)
    ∙ ap (λ rows. take width words ∷ rows) (set-rows_of width count (drop width words) at key (omega arith)
    (let l = length-drop width words in omega arith) w))
