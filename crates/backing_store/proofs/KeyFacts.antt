-- Rows that are stored one after another in one list of words.
use Rattle.std.proofs.Common.{◌≡◌, ◌≢◌, ℕ, zero, suc, ◌+◌, ◌-◌, ◌*◌, ◌<◌, ◌≤◌, List, [], ◌∷◌, ◌++◌, length, take, drop, sym, ap, ap₂, ◌∙◌}
use Rattle.std.proofs.{Common.{arith, length-drop, Some, slice_get}, lemmas.List.{drop-append-le, take-append-le, drop_at, take_all}}
use Rattle.std.proofs.lemmas.Option.{slice_get-get_or, slice_get_within, same_Some}
use Rattle.bucket_cache.{specs.Slices.rows_of, proofs.FlatRows.{row_fits, get-rows_of, length-rows_of}}
use Rattle.backing_store.specs.Prints.{row_at}

-- a place at which a row is within the words
pub row_within : (at count width : ℕ) (words : List ℕ) → at < count → length words ≡ count * width → at * width + width ≤ length words
row_within at count width words low flat = let fits = row_fits at count width low in omega arith

-- rows stay where more words follow
pub row_at-append : (width at : ℕ) (words more : List ℕ) → at * width + width ≤ length words
    → row_at width (words ++ more) at ≡ row_at width words at
row_at-append width at words more fits =
    let rest : length (drop (at * width) words) ≡ length words - at * width = length-drop (at * width) words in
    ap (take width) (drop-append-le (at * width) words more (omega arith))
    ∙ take-append-le width (drop (at * width) words) more (omega arith)

-- the words of one key more
pub row_at-new : (width count : ℕ) (words key : List ℕ) → length words ≡ count * width → length key ≡ width
    → row_at width (words ++ key) count ≡ key
row_at-new width count words key flat long = ap (take width) (drop_at words key (count * width) flat)
    ∙ take_all width key (omega (arith, long))

-- one row more
pub rows_more : (width count : ℕ) (words key : List ℕ) → length words ≡ count * width → length key ≡ width
    → rows_of width (count + 1) (words ++ key) ≡ rows_of width count words ++ key ∷ []
rows_more width zero [] key flat long = ap (λ row. row ∷ []) (take_all width key (omega (arith, long)))
rows_more width zero (x ∷ words) key flat long = absurd (omega (arith, flat))
rows_more width (suc count) words key flat long =
    let next : suc count + 1 ≡ suc (count + 1) = omega arith in
    let within : width ≤ length words = omega (arith, flat) in
    let rest : length (drop width words) ≡ count * width = omega (arith, length-drop width words, flat) in
    ap (λ n. rows_of width n (words ++ key)) next
    ∙ (ap₂ (λ row more. row ∷ rows_of width (count + 1) more) (take-append-le width words key within)
    (drop-append-le width words key within)
    ∙ ap (λ rows. take width words ∷ rows) (rows_more width count (drop width words) key rest long))

-- the row at a place
pub got_row : (width count : ℕ) (words : List ℕ) (at : ℕ) → at < count
    → slice_get (rows_of width count words) at ≡ Some (row_at width words at)
got_row width count words at low =
    slice_get-get_or (rows_of width count words) at [] (omega (arith, length-rows_of width count words, low))
    ∙ ap Some (get-rows_of width count words at [] low)

pub not_got : (width count : ℕ) (words key : List ℕ) → ((k : ℕ) → k < count → row_at width words k ≢ key) → (at : ℕ)
    → slice_get (rows_of width count words) at ≢ Some key
not_got width count words key none at here =
    let low : at < count = omega (arith, slice_get_within (rows_of width count words) at key here, length-rows_of width count words) in
    none at low (same_Some _ _ (sym (got_row width count words at low) ∙ here))
