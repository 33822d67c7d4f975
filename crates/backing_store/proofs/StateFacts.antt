-- Rows of state that are added and written.
use Rattle.std.proofs.Common.{◌≡◌, ℕ, zero, suc, ◌+◌, ◌-◌, ◌*◌, ◌<◌, ◌≤◌, List, [], ◌∷◌, ◌++◌, length, take, drop, slice_get, option_map}
use Rattle.std.proofs.Common.{Some, refl, sym, ap, ap₂, ◌∙◌, arith, length-append}
use Rattle.std.proofs.lemmas.List.{take_at, take_all, drop_all, take-take, drop-take}
use Rattle.bucket_cache.{specs.Slices.rows_of, proofs.FlatRows.length-rows_of}
use Rattle.backing_store.specs.{Prints.row_at, States.{StateList, paired, states_in}, Store.{StoredRow, row_keys}}
use Rattle.backing_store.{specs.StoreLending.with_words_at, proofs.KeyFacts.{got_row, rows_more}}

pub length-paired : (keys : List ℕ) (rows : List (List ℕ)) → length keys ≡ length rows → length (paired keys rows) ≡ length keys
length-paired [] rows same = refl
length-paired (key ∷ keys) [] same = absurd (omega (arith, same))
length-paired (key ∷ keys) (words ∷ rows) same = ap suc (length-paired keys rows (omega (arith, same)))

paired-push : (keys : List ℕ) (rows : List (List ℕ)) (key : ℕ) (words : List ℕ) → length keys ≡ length rows
    → paired (keys ++ key ∷ []) (rows ++ words ∷ []) ≡ paired keys rows ++ record { key = key; words = words } ∷ []
paired-push [] [] key words same = refl
paired-push [] (r ∷ rows) key words same = absurd (omega (arith, same))
paired-push (k ∷ keys) [] key words same = absurd (omega (arith, same))
paired-push (k ∷ keys) (r ∷ rows) key words same = ap (λ rest. record { key = k; words = r } ∷ rest)
    (paired-push keys rows key words (omega (arith, same)))

pub length-states_in : (width : ℕ) (keys words : List ℕ) → length (states_in width keys words) ≡ length keys
length-states_in width keys words = length-paired keys (rows_of width (length keys) words) (sym (length-rows_of width (length keys) words))

-- a place of a row is one of the parts
pub state_within : (width : ℕ) (keys words : List ℕ) {states : StateList} {at : ℕ}
    → record { width = width; rows = states_in width keys words } ≡ states → at < length states.rows → at < length keys
state_within width keys words view low = omega (arith, low, length-states_in width keys words, ap (λ s. length s.rows) view)

pub states_more : (width : ℕ) (keys words : List ℕ) (key : ℕ) (row : List ℕ) → length words ≡ length keys * width → length row ≡ width
    → states_in width (keys ++ key ∷ []) (words ++ row) ≡ states_in width keys words ++ record { key = key; words = row } ∷ []
states_more width keys words key row flat long =
    let more : length (keys ++ key ∷ []) ≡ length keys + 1 = length-append keys (key ∷ []) in
    ap (λ n. paired (keys ++ key ∷ []) (rows_of width n (words ++ row))) more
    ∙ (ap (paired (keys ++ key ∷ [])) (rows_more width (length keys) words row flat long)
    ∙ paired-push keys (rows_of width (length keys) words) key row (sym (length-rows_of width (length keys) words)))

paired-get : (keys : List ℕ) (rows : List (List ℕ)) (at : ℕ) (words : List ℕ) → length keys ≡ length rows → slice_get rows at ≡ Some words
    → option_map (λ row. row.words) (slice_get (paired keys rows) at) ≡ Some words
paired-get [] [] at words same here = cc here
paired-get [] (r ∷ rows) at words same here = absurd (omega (arith, same))
paired-get (k ∷ keys) [] at words same here = absurd (omega (arith, same))
paired-get (k ∷ keys) (r ∷ rows) zero words same here = here
paired-get (k ∷ keys) (r ∷ rows) (suc at) words same here = paired-get keys rows at words (omega (arith, same)) here

pub state_got : (width : ℕ) (keys words : List ℕ) (at : ℕ) → at < length keys
    → option_map (λ row. row.words) (slice_get (states_in width keys words) at) ≡ Some (row_at width words at)
state_got width keys words at low =
    paired-get keys (rows_of width (length keys) words) at (row_at width words at) (sym (length-rows_of width (length keys) words))
    (got_row width (length keys) words at low)

-- no words change no row
pub written-whole : (rows : List StoredRow) → with_words_at rows zero [] ≡ rows
written-whole [] = refl
written-whole (row ∷ rows) =
    ap₂ (λ (words : List ℕ) (rest : List ℕ). record { key = row.key; words = words } ∷ with_words_at rows zero rest)
    (take_all (length row.words) row.words (omega arith)) (drop_all (length row.words) [] (omega arith))
    ∙ ap (λ others. row ∷ others) (written-whole rows)

-- the first rows
pub states_front : (n width : ℕ) (keys words : List ℕ) → n ≤ length keys
    → states_in width (take n keys) (take (n * width) words) ≡ take n (states_in width keys words)
states_front zero width keys words few = refl
states_front (suc n) width [] words few = absurd (omega (arith, few))
states_front (suc n) width (key ∷ keys) words few =
    let split : suc n * width ≡ width + n * width = omega arith in
    ap (λ front. paired (key ∷ take n keys) (take width front ∷ rows_of width (length (take n keys)) (drop width front)))
    (ap (λ m. take m words) split)
    ∙ (ap₂ (λ row rest. record { key = key; words = row } ∷ paired (take n keys) (rows_of width (length (take n keys)) rest))
    (take-take width (width + n * width) words (omega arith)) (drop-take width (n * width) words)
    ∙ ap (λ rest. record { key = key; words = take width words } ∷ rest)
    (states_front n width keys (drop width words) (omega (arith, few))))

pub pushed-front : (rows : List StoredRow) (row : StoredRow) → take (length (rows ++ row ∷ []) - 1) (rows ++ row ∷ []) ≡ rows
pushed-front rows row =
    ap (λ n. take n (rows ++ row ∷ [])) (let e : length (rows ++ row ∷ []) - 1 ≡ length rows =
    omega (arith, length-append rows (row ∷ [])) in e) ∙ take_at rows (row ∷ []) (length rows) refl

paired-key : (keys : List ℕ) (rows : List (List ℕ)) (at key : ℕ) → length keys ≡ length rows → slice_get keys at ≡ Some key
    → option_map (λ row. row.key) (slice_get (paired keys rows) at) ≡ Some key
paired-key [] rows at key same here = cc here
paired-key (k ∷ keys) [] at key same here = absurd (omega (arith, same))
paired-key (k ∷ keys) (r ∷ rows) zero key same here = here
paired-key (k ∷ keys) (r ∷ rows) (suc at) key same here = paired-key keys rows at key (omega (arith, same)) here

pub key_got : (width : ℕ) (keys words : List ℕ) (at key : ℕ) → slice_get keys at ≡ Some key
    → option_map (λ row. row.key) (slice_get (states_in width keys words) at) ≡ Some key
key_got width keys words at key here = paired-key keys (rows_of width (length keys) words) at key
    (sym (length-rows_of width (length keys) words)) here

-- the keys of the rows stay
pub row_keys-written : (rows : List StoredRow) (at : ℕ) (w : List ℕ) → row_keys (with_words_at rows at w) ≡ row_keys rows
row_keys-written [] at w = refl
row_keys-written (r ∷ rows) zero w = ap (λ rest. r.key ∷ rest) (row_keys-written rows zero (drop (length r.words) w))
row_keys-written (r ∷ rows) (suc at) w = ap (λ rest. r.key ∷ rest) (row_keys-written rows at w)
