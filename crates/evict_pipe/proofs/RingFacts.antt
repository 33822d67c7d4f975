-- The records of a ring, and what is left of them after one is written or dropped.
use Rattle.std.proofs.Common.{◌≡◌, ◌≢◌, ◌<◌, ◌≤◌, ◌+◌, ◌-◌, ◌*◌, ℕ, zero, suc, List, [], ◌∷◌, ◌++◌, length, take, drop, get_or, sym, ap}
use Rattle.std.proofs.Common.{◌∙◌, ◌⊎◌, arith, length-append, length-drop, All, inl, inr, Vec, Global}
use Rattle.std.proofs.lemmas.List.{length-take-le, same_lists, get_or-drop, with_items_is}
use Rattle.std.proofs.lemmas.List.FromFn.{length-map-range_with_len, get_or-map-range_with_len, map-range_with_len_more}
use Rattle.std.{proofs.lemmas.{Slice.{between_is, take-put_mid_below, drop-put_mid, between-put_mid}, Bool.cases_lt}, specs.Vec.with_items}
use Rattle.evict_pipe.specs.Rings.{place_after, words_at, records_in, IsRing}
use borrow.Rule.Slice.PartMut.{put_mid}

-- a place below the number of places has its words
pub place_fits : (place places width : ℕ) → place < places → place * width + width ≤ places * width
place_fits place zero width h = absurd (omega arith)
place_fits zero (suc places) width h = omega arith
place_fits (suc place) (suc places) width h = let rest = place_fits place places width (omega arith) in omega arith

pub after-low : (places first i : ℕ) → first < places → i < places → place_after places first i < places
after-low places first i f h = grind (arith)

pub length-records : (width places : ℕ) (words : List ℕ) (first len : ℕ) → length (records_in width places words first len) ≡ len
length-records width places words first len =
    length-map-range_with_len (λ i. words_at width words (place_after places first i)) 0 len

pub nth-record : (width places : ℕ) (words : List ℕ) (first len i : ℕ) (d : List ℕ) → i < len
    → get_or (records_in width places words first len) i d ≡ words_at width words (place_after places first i)
nth-record width places words first len i d h =
    get_or-map-range_with_len (λ i. words_at width words (place_after places first i)) 0 len i i d h (omega arith)

pub length-words_at : (width places : ℕ) (words : List ℕ) (place : ℕ) → length words ≡ places * width → place < places
    → length (words_at width words place) ≡ width
length-words_at width places words place whole h =
    let fits = place_fits place places width h in
    let rest = length-drop (place * width) words in
    length-take-le width (drop (place * width) words) (omega arith)

pub record-words : (width places : ℕ) (words : List ℕ) (first len : ℕ) → IsRing width places words first len
    → All (λ row. length row ≡ width) (records_in width places words first len)
record-words width places words first len ring k d h =
    let long = length-records width places words first len in
    let low : k < len = omega arith in
    ap length (nth-record width places words first len k d low)
    ∙ length-words_at width places words (place_after places first k) ring.whole
    (after-low places first k ring.oldest (let w = ring.within in omega arith))

-- the first place after the next one is the second one, round the ring
pub next-after : (places first i : ℕ) → first < places → 1 + i < places
    → place_after places (place_after places first 1) i ≡ place_after places first (1 + i)
next-after places first i f h = grind (arith)

-- the place that is written has the new words, and each other one its own
pub written-at : (width place places : ℕ) (words new : List ℕ) → place < places → length words ≡ places * width → length new ≡ width
    → words_at width (put_mid (place * width) width words new) place ≡ new
written-at width place places words new h whole long =
    let fits = place_fits place places width h in
    let wide : place * width + width - place * width ≡ width = omega arith in
    ap (λ n. take n (drop (place * width) (put_mid (place * width) width words new))) (sym wide)
    ∙ between-put_mid (place * width) width words new (place * width + width) (omega arith) (long ∙ sym wide)

kept-below : (width place other places : ℕ) (words new : List ℕ) → place < places → other < place → length words ≡ places * width
    → words_at width (put_mid (place * width) width words new) other ≡ words_at width words other
kept-below width place other places words new h l whole =
    let fits = place_fits place places width h in
    let under = place_fits other place width l in
    let end = other * width + width in
    let wide : end - other * width ≡ width = omega arith in
    ap (λ n. take n (drop (other * width) (put_mid (place * width) width words new))) (sym wide)
    ∙ (between_is (put_mid (place * width) width words new) (other * width) end
    ∙ (ap (drop (other * width)) (take-put_mid_below (place * width) width words new end under (omega arith))
    ∙ (sym (between_is words (other * width) end) ∙ ap (λ n. take n (drop (other * width) words)) wide)))

kept-above : (width place other places : ℕ) (words new : List ℕ) → place < places → place < other → length words ≡ places * width
    → length new ≡ width → words_at width (put_mid (place * width) width words new) other ≡ words_at width words other
kept-above width place other places words new h l whole long =
    let fits = place_fits place places width h in
    let over = place_fits place other width l in
    ap (take width) (drop-put_mid (place * width) width words new (other * width) over (omega arith) long)

kept-at : (width place other places : ℕ) (words new : List ℕ) → place < places → other ≢ place → length words ≡ places * width
    → length new ≡ width → words_at width (put_mid (place * width) width words new) other ≡ words_at width words other
kept-at width place other places words new h apart whole long = go (cases_lt other place)
  where
    go : (other < place) ⊎ (place ≤ other) → words_at width (put_mid (place * width) width words new) other ≡ words_at width words other
    go (inl l) = kept-below width place other places words new h l whole
    go (inr l) = kept-above width place other places words new h (omega (arith, apart)) whole long

length-written : (width place places : ℕ) (words new : List ℕ) → place < places → length words ≡ places * width → length new ≡ width
    → length (put_mid (place * width) width words new) ≡ length words
length-written width place places words new h whole long =
    let fits = place_fits place places width h in
    let rest = drop width (drop (place * width) words) in
    let front : length (take (place * width) words) ≡ place * width = length-take-le (place * width) words (omega arith) in
    let all = length-append (take (place * width) words) (new ++ rest) in
    let end = length-append new rest in
    let past : length rest ≡ length (drop (place * width) words) - width = length-drop width (drop (place * width) words) in
    let after = length-drop (place * width) words in
    omega arith

-- what a vector holds after the words of a place were written over
pub written : (v : Vec ℕ Global) (start width place places : ℕ) (now row new : List ℕ) → now ≡ v.items → start ≡ place * width → row ≡ new
    → place < places → length v.items ≡ places * width → length new ≡ width
    → ((with_items v (put_mid start (start + width - start) now row)).items ≡ put_mid (place * width) width v.items new)
    × (length (put_mid (place * width) width v.items new) ≡ places * width)
written v start width place places now row new n s r h whole long =
    let wide : start + width - start ≡ width = omega arith in
    let same : put_mid start (start + width - start) now row ≡ put_mid (place * width) width v.items new =
    ap (λ words. put_mid start (start + width - start) words row) n ∙ (ap (λ k. put_mid start k v.items row) wide
    ∙ (ap (λ a. put_mid a width v.items row) s ∙ ap (put_mid (place * width) width v.items) r)) in
    let kept = length-written width place places v.items new h whole long in (
      with_items_is v (put_mid start (start + width - start) now row) (ap length same ∙ (kept ∙ sym v.ok.0)) ∙ same,
      kept ∙ whole,
    )

apart-after : (places first i j : ℕ) → first < places → i < j → j < places → place_after places first i ≢ place_after places first j
apart-after places first i j f l h = grind (arith)

-- words that are written at the next free place are those of the newest record
pub pushed : (width places : ℕ) (words : List ℕ) (first len : ℕ) (new : List ℕ) → IsRing width places words first len → len < places
    → length new ≡ width
    → records_in width places (put_mid (place_after places first len * width) width words new) first (len + 1)
    ≡ records_in width places words first len ++ new ∷ []
pushed width places words first len new ring h long =
    let after = put_mid (place_after places first len * width) width words new in
    let place = place_after places first len in
    let low = after-low places first len ring.oldest h in
    map-range_with_len_more (λ i. words_at width after (place_after places first i)) 0 len len (omega arith)
    ∙ (ap (λ row. records_in width places after first len ++ row ∷ []) (written-at width place places words new low ring.whole long)
    ∙ ap (λ rows. rows ++ new ∷ []) (same_lists _ _
    (length-records width places after first len ∙ sym (length-records width places words first len))
    (λ k d l. let m : k < len = let e = length-records width places after first len in omega arith in
    nth-record width places after first len k d m
    ∙ (kept-at width place (place_after places first k) places words new low
    (apart-after places first k len ring.oldest m h) ring.whole long
    ∙ sym (nth-record width places words first len k d m)))))

-- the records after the oldest one
pub dropped : (width places : ℕ) (words : List ℕ) (first len : ℕ) → IsRing width places words first len → 0 < len
    → records_in width places words (place_after places first 1) (len - 1) ≡ drop 1 (records_in width places words first len)
dropped width places words first len ring h =
    let all = records_in width places words first len in
    let next = place_after places first 1 in
    let more : length all ≡ len = length-records width places words first len in
    let fewer : length (drop 1 all) ≡ len - 1 = length-drop 1 all ∙ ap (λ n. n - 1) more in
    let left : length (records_in width places words next (len - 1)) ≡ len - 1 = length-records width places words next (len - 1) in
    same_lists (records_in width places words next (len - 1)) (drop 1 all) (left ∙ sym fewer)
    (λ k d l. let m : k < len - 1 = omega arith in
    nth-record width places words next (len - 1) k d m
    ∙ (ap (words_at width words) (next-after places first k ring.oldest (let w = ring.within in omega arith))
    ∙ (sym (nth-record width places words first len (1 + k) d (omega arith)) ∙ sym (get_or-drop 1 all k d))))
