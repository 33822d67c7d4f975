-- Words that are written over others, entry by entry.
use Rattle.std.proofs.Common.{◌≡◌, ℕ, zero, suc, ◌+◌, ◌*◌, ◌<◌, ◌≤◌, List, [], ◌∷◌, ◌++◌, length, take, drop, get_or, set, replicate, refl}
use Rattle.std.proofs.Common.{sym, ap, ap₂, ◌∙◌, arith, length-append, length-drop, drop-drop, All}
use Rattle.std.proofs.lemmas.List.{append-nil, take_all, drop_all, length-take-le, Elements.{All-cons, All-head, All-tail}}
use Rattle.bucket_cache.{specs.{Slices.rows_of, LendingRows.{with_entry, written_over}}, proofs.FlatRows.row_fits}

over-none : (xs : List ℕ) → written_over xs [] ≡ xs
over-none xs = take_all (length xs) xs (omega arith)

take-over : (n : ℕ) (xs w : List ℕ) → take n (written_over xs w) ≡ written_over (take n xs) w
take-over zero _ w = refl
take-over (suc n) [] w = refl
take-over (suc n) (x ∷ xs) [] = ap (take (suc n)) (over-none (x ∷ xs)) ∙ sym (over-none (take (suc n) (x ∷ xs)))
take-over (suc n) (x ∷ xs) (y ∷ w) = rw (take-over n xs w)

drop-over : (n : ℕ) (xs w : List ℕ) → drop n (written_over xs w) ≡ written_over (drop n xs) (drop n w)
drop-over zero _ w = refl
drop-over (suc n) [] w = refl
drop-over (suc n) (x ∷ xs) [] = ap (drop (suc n)) (over-none (x ∷ xs)) ∙ sym (over-none (drop (suc n) (x ∷ xs)))
drop-over (suc n) (x ∷ xs) (y ∷ w) = drop-over n xs w

-- what a vector holds after a part of it was written
pub written_from : (i len : ℕ) (items w : List ℕ) → len ≡ length items → i ≤ length items
    → (let X : List ℕ = take i items ++ (w ++ drop (length w) (drop i items)) in take len (X ++ drop (length X) items)) ≡ take i items
    ++ written_over (drop i items) w
written_from zero len items w same within =
    let X = w ++ drop (length w) items in
    let long : length items ≤ length X = omega (arith, length-append w (drop (length w) items), length-drop (length w) items) in
    rw (drop_all (length X) items long, append-nil X, same)
written_from (suc i) len [] w same within = absurd (omega (arith, within))
written_from (suc i) len (x ∷ items) w same within =
    let X = take i items ++ (w ++ drop (length w) (drop i items)) in
    rw (same, written_from i (length items) items w refl (omega (arith, within)))

first_written : (width count : ℕ) (words w : List ℕ) → length words ≡ count * width
    → rows_of width count (written_over words w) ≡ with_entry (rows_of width count words) zero w
first_written _ zero _ w _ = refl
first_written width (suc count) words w flat =
    let long = length-take-le width words (omega (arith, flat)) in
    let rest : length (drop width words) ≡ count * width = omega (arith, length-drop width words, flat) in
    rw (take-over width words w, drop-over width words w, first_written width count (drop width words) (drop width w) rest, long)

front-take : (width m : ℕ) (words more : List ℕ) → width + m ≤ length words → take width (take (width + m) words ++ more) ≡ take width words
front-take zero m _ _ h = refl
front-take (suc width) m [] more h = absurd (omega (arith, h))
front-take (suc width) m (x ∷ words) more h =
    ap (λ n. take (suc width) (take n (x ∷ words) ++ more)) (let e : suc width + m ≡ suc (width + m) = omega arith in e)
    ∙ ap (λ rest. x ∷ rest) (front-take width m words more (omega (arith, h)))

front-drop : (width m : ℕ) (words more : List ℕ) → width + m ≤ length words
    → drop width (take (width + m) words ++ more) ≡ take m (drop width words) ++ more
front-drop zero m words more h = ap (λ n. take n words ++ more) (let e : 0 + m ≡ m = omega arith in e)
front-drop (suc width) m [] more h = absurd (omega (arith, h))
front-drop (suc width) m (x ∷ words) more h =
    ap (λ n. drop (suc width) (take n (x ∷ words) ++ more)) (let e : suc width + m ≡ suc (width + m) = omega arith in e)
    ∙ front-drop width m words more (omega (arith, h))

-- the words of all entries, with other words from an entry on
pub entry_written : (at width count : ℕ) (words w : List ℕ) → at < count → length words ≡ count * width
    → rows_of width count (take (at * width) words ++ written_over (drop (at * width) words) w) ≡ with_entry (rows_of width count words) at
    w
entry_written at width zero words w low flat = absurd (omega (arith, low))
entry_written zero width (suc count) words w low flat =
    ap (λ n. rows_of width (suc count) (take n words ++ written_over (drop n words) w)) (let e : 0 * width ≡ 0 = omega arith in e)
    ∙ first_written width (suc count) words w flat
entry_written (suc at) width (suc count) words w low flat =
    let split : suc at * width ≡ width + at * width = omega arith in
    let fits = row_fits at count width (omega (arith, low)) in
    let within : width + at * width ≤ length words = omega (arith, flat, fits) in
    let rest : length (drop width words) ≡ count * width = omega (arith, length-drop width words, flat) in
    let more = written_over (drop (width + at * width) words) w in
    ap (λ n. rows_of width (suc count) (take n words ++ written_over (drop n words) w)) split
    ∙ (ap₂ (λ row others. row ∷ rows_of width count others) (front-take width (at * width) words more within)
    (front-drop width (at * width) words more within)
    ∙ (ap (λ xs. take width words ∷ rows_of width count (take (at * width) (drop width words) ++ written_over xs w))
    (sym (drop-drop (at * width) width words))
    ∙ ap (λ others. take width words ∷ others) (entry_written at width count (drop width words) w (omega (arith, low)) rest)))

-- no words change no entry
entries-kept : (entries : List (List ℕ)) → with_entry entries zero [] ≡ entries
entries-kept [] = refl
entries-kept (entry ∷ entries) =
    ap₂ (λ (words : List ℕ) (rest : List ℕ). words ∷ with_entry entries zero rest) (over-none entry)
    (drop_all (length entry) [] (omega arith))
    ∙ ap (λ others. entry ∷ others) (entries-kept entries)

pub over-all : (old w : List ℕ) → length w ≡ length old → written_over old w ≡ w
over-all old w same =
    rw (drop_all (length w) old (omega (arith, same)), append-nil w, take_all (length old) w (omega (arith, same)))

-- as many words as an entry has take its place
pub entry_replaced : (entries : List (List ℕ)) (at : ℕ) (w : List ℕ) → at < length entries → length w ≡ length (get_or entries at [])
    → with_entry entries at w ≡ set entries at w
entry_replaced [] at w low same = absurd (omega (arith, low))
entry_replaced (entry ∷ entries) zero w low same =
    rw (over-all entry w same, drop_all (length entry) w (omega (arith, same)), entries-kept entries)
entry_replaced (entry ∷ entries) (suc at) w low same = ap (λ others. entry ∷ others) (entry_replaced entries at w (omega (arith, low)) same)

-- as many words as before
pub length-over : (old w : List ℕ) → length (written_over old w) ≡ length old
length-over old w =
    length-take-le (length old) (w ++ drop (length w) old) (omega (
      arith,
      length-append w (drop (length w) old),
      length-drop (length w)
          old,
    ))

-- as many entries as before
pub length-with_entry : (entries : List (List ℕ)) (at : ℕ) (w : List ℕ) → length (with_entry entries at w) ≡ length entries
length-with_entry [] at w = refl
length-with_entry (entry ∷ entries) zero w = rw (length-with_entry entries zero (drop (length entry) w))
length-with_entry (_ ∷ entries) (suc at) w = ap (λ n. suc n) (length-with_entry entries at w)

abbrev has_words : ℕ → List ℕ → Type 0
has_words count entry = length entry ≡ count

-- and as many words in each
pub entries-wide : (count : ℕ) (entries : List (List ℕ)) (at : ℕ) (w : List ℕ) → All (λ entry. length entry ≡ count) entries
    → All (λ entry. length entry ≡ count) (with_entry entries at w)
entries-wide _ [] at w all = all
entries-wide count (entry ∷ entries) zero w all =
    All-cons (has_words count) (written_over entry w) (with_entry entries zero (drop (length entry) w))
    (length-over entry w ∙ All-head (has_words count) entry entries all)
    (entries-wide count entries zero (drop (length entry) w) (All-tail (has_words count) entry entries all))
entries-wide count (entry ∷ entries) (suc at) w all =
    All-cons (has_words count) entry (with_entry entries at w) (All-head (has_words count) entry entries all)
    (entries-wide count entries at w (All-tail (has_words count) entry entries all))

abbrev zeros : ℕ → List ℕ
zeros n = replicate n 0

take-zeros : (n m : ℕ) → take n (zeros (n + m)) ≡ zeros n
take-zeros zero m = refl
take-zeros (suc n) m = ap (λ k. take (suc n) (zeros k)) (let e : suc n + m ≡ suc (n + m) = omega arith in e)
    ∙ ap (λ (rest : List ℕ). 0 ∷ rest) (take-zeros n m)

drop-zeros : (n m : ℕ) → drop n (zeros (n + m)) ≡ zeros m
drop-zeros zero m = ap zeros (let e : 0 + m ≡ m = omega arith in e)
drop-zeros (suc n) m = ap (λ k. drop (suc n) (zeros k)) (let e : suc n + m ≡ suc (n + m) = omega arith in e) ∙ drop-zeros n m

-- entries of zeros
pub zero-entries : (width count : ℕ) → rows_of width count (replicate (count * width) 0) ≡ replicate count (replicate width 0)
zero-entries _ zero = refl
zero-entries width (suc count) =
    ap (λ k. rows_of width (suc count) (zeros k)) (let e : suc count * width ≡ width + count * width = omega arith in e)
    ∙ (rw (take-zeros width (count * width), drop-zeros width (count * width), zero-entries width count))
