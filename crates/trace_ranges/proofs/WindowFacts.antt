-- What is kept of bytes after bytes.
use Rattle.std.proofs.Common.{◌≡◌, ℕ, zero, suc, ◌+◌, ◌-◌, ◌<◌, ◌==◌, Bool, true, false, ◌&&◌, not, List, [], ◌∷◌, ◌++◌, length, get_or}
use Rattle.std.proofs.{Common.{set, take, refl, sym, ap, ◌∙◌, inl, inr, arith}, lemmas.Bool.{true≢false, Decides.{eqb_tells, nat_tests}}}
use Rattle.std.{proofs.lemmas.List.{append-nil, take_more, take_more_set}, specs.Prelude.if◌then◌else◌}
use Rattle.trace_pieces.specs.declared.scan.Place.{Place}
use Rattle.trace_ranges.specs.Spots.{is_between, is_cut, place_after, place_over, spot_after}
use Rattle.trace_ranges.specs.Ranges.{begins, if_kept, is_past, kept, window_after, window_over}
use Rattle.trace_ranges.specs.declared.spot.Spot.TheVariants as spot
use Rattle.trace_ranges.specs.declared.window.Window.{Window}

if_kept-append : (b : Bool) (byte : ℕ) (xs ys : List ℕ) → if_kept b byte (xs ++ ys) ≡ if_kept b byte xs ++ ys
if_kept-append true byte xs ys = refl
if_kept-append false byte xs ys = refl

pub kept_append : (window : Window) (xs ys : List ℕ) → kept window (xs ++ ys) ≡ kept window xs ++ kept (window_over window xs) ys
unfolding kept
kept_append window [] ys = refl
kept_append window (x ∷ xs) ys =
    ap (if_kept window.keeps x) (kept_append (window_after window x) xs ys)
    ∙ if_kept-append window.keeps x (kept (window_after window x) xs) (kept (window_over (window_after window x) xs) ys)

pub over_push : (window : Window) (xs : List ℕ) (x : ℕ) → window_over window (xs ++ x ∷ []) ≡ window_after (window_over window xs) x
over_push window [] x = refl
over_push window (y ∷ xs) x = over_push (window_after window y) xs x

pub over_more : (window : Window) (bytes : List ℕ) (i : ℕ) → i < length bytes
    → window_over window (take (i + 1) bytes) ≡ window_after (window_over window (take i bytes)) (get_or bytes i 0)
over_more window bytes i within = ap (window_over window) (take_more bytes i 0 within) ∙ over_push window (take i bytes) (get_or bytes i 0)

one_kept : (window : Window) (x : ℕ) → kept window (x ∷ []) ≡ if_kept window.keeps x []
unfolding kept
one_kept window x = refl

pub kept_more : (window : Window) (bytes : List ℕ) (i : ℕ) → i < length bytes
    → kept window (take (i + 1) bytes) ≡ kept window (take i bytes) ++ if_kept (window_over window (take i bytes)).keeps (get_or bytes i 0) []
kept_more window bytes i within =
    ap (kept window) (take_more bytes i 0 within)
    ∙ (kept_append window (take i bytes) (get_or bytes i 0 ∷ [])
    ∙ ap (λ ys. kept window (take i bytes) ++ ys) (one_kept (window_over window (take i bytes)) (get_or bytes i 0)))

pub kept_none : (window : Window) → kept window [] ≡ []
unfolding kept
kept_none window = refl

pub first_kept : (window : Window) (x : ℕ) (xs : List ℕ) → window.keeps ≡ true → 0 < length (kept window (x ∷ xs))
unfolding kept
first_kept window x xs e = rw e (omega arith)

pub to_over : (window : Window) (xs : List ℕ) → (window_over window xs).to ≡ window.to - length xs
to_over window [] = omega arith
to_over window (x ∷ xs) = to_over (window_after window x) xs ∙ omega arith

past_after : (window : Window) (x : ℕ) → window.keeps ≡ false → window.to ≡ 0 → ((window_after window x).keeps ≡ false) × ((window_after window x).to ≡ 0)
past_after window x keeps to = (by (is_cut (spot_after window.spot x)), omega (arith, to))
  where
    none : (b : Bool) → (b && false) ≡ false
    none true = refl
    none false = refl

    zero_left : window.to - 1 ≡ 0
    zero_left = omega (arith, to)

    by : (b : Bool) → (if b then begins (window.from - 1) (window.to - 1) else window.keeps) ≡ false
    by true = rw zero_left (none (window.from - 1 == 0))
    by false = keeps

pub past_kept : (window : Window) (xs : List ℕ) → window.keeps ≡ false → window.to ≡ 0 → kept window xs ≡ []
unfolding kept
past_kept window [] keeps to = refl
past_kept window (x ∷ xs) keeps to =
    let after = past_after window x keeps to in
    ap (λ b. if_kept b x (kept (window_after window x) xs)) keeps ∙ past_kept (window_after window x) xs after.0 after.1

is_zero : (n : ℕ) → (n == 0) ≡ true → n ≡ 0
is_zero n e = elim (eqb_tells n 0) [
  | inl same ↦ same.1
  | inr differs ↦ absurd (cc (differs.0, e))
]

past_parts : (b : Bool) (n : ℕ) → (not b && (n == 0)) ≡ true → (b ≡ false) × (n ≡ 0)
past_parts true n e = absurd (true≢false (sym e))
past_parts false n e = (refl, is_zero n e)

pub past_gives : (window : Window) (xs : List ℕ) → is_past window ≡ true → kept window xs ≡ []
past_gives window xs e = let parts = past_parts window.keeps window.to e in past_kept window xs parts.0 parts.1

not_past : (b : Bool) (n : ℕ) → (not b && (n == 0)) ≡ false → b ≡ false → 0 < n
not_past true n e keeps = absurd (true≢false keeps)
not_past false n e keeps = elim (eqb_tells n 0) [
  | inl same ↦ absurd (cc (same.0, e))
  | inr differs ↦ omega (arith, differs.1)
]

-- where nothing was kept of some bytes, the end of the range is nearer
pub nearer : (window : Window) (xs : List ℕ) → is_past window ≡ false → 0 < length xs → length (kept window xs) ≡ 0
    → (window_over window xs).to < window.to
nearer window [] past some none = absurd (omega (arith, some))
nearer window (x ∷ xs) past some none = by window.keeps refl
  where
    by : (b : Bool) → window.keeps ≡ b → (window_over window (x ∷ xs)).to < window.to
    by true e = absurd (omega (arith, none, first_kept window x xs e))
    by false e = omega (arith, to_over window (x ∷ xs), not_past window.keeps window.to past e)

-- ---- the buffer, byte by byte

pub window_more : (window now after : Window) (bytes : List ℕ) (i : ℕ) → i < length bytes → now ≡ window_over window (take i bytes)
    → after ≡ window_after now (get_or bytes i 0) → after ≡ window_over window (take (i + 1) bytes)
window_more window now after bytes i within so_far is =
    is ∙ (ap (λ l. window_after l (get_or bytes i 0)) so_far ∙ sym (over_more window bytes i within))

pub byte_kept : (window now : Window) (bytes buf : List ℕ) (i count : ℕ) → i < length bytes → now ≡ window_over window (take i bytes)
    → take count buf ≡ kept window (take i bytes) → now.keeps ≡ true → count < length buf
    → take (count + 1) (set buf count (get_or bytes i 0)) ≡ kept window (take (i + 1) bytes)
byte_kept window now bytes buf i count within so_far is keeps room =
    take_more_set buf count (get_or bytes i 0) room
    ∙ (ap (λ xs. xs ++ get_or bytes i 0 ∷ []) is
    ∙ (ap (λ b. kept window (take i bytes) ++ if_kept b (get_or bytes i 0) []) (sym keeps ∙ ap (λ (l : Window). l.keeps) so_far)
    ∙ sym (kept_more window bytes i within)))

pub byte_dropped : (window now : Window) (bytes buf : List ℕ) (i count : ℕ) → i < length bytes → now ≡ window_over window (take i bytes)
    → take count buf ≡ kept window (take i bytes) → now.keeps ≡ false → take count buf ≡ kept window (take (i + 1) bytes)
byte_dropped window now bytes buf i count within so_far is keeps =
    is ∙ (sym (append-nil (kept window (take i bytes)))
    ∙ (ap (λ b. kept window (take i bytes) ++ if_kept b (get_or bytes i 0) []) (sym keeps ∙ ap (λ (l : Window). l.keeps) so_far)
    ∙ sym (kept_more window bytes i within)))

-- ---- many bytes at once

abbrev pub begun : Place → Bool → ℕ → ℕ → Window
begun at keeps from to = record { spot = spot.Records at; keeps = keeps; from = from; to = to }

pub begins_now : (to : ℕ) → 0 < to → begins 0 to ≡ true
begins_now to some = grind (arith, nat_tests)

begins_later : (from to : ℕ) → 0 < from → begins from to ≡ false
begins_later from to some = grind (arith, nat_tests)

if_same : (b x y : Bool) → x ≡ y → (if b then x else y) ≡ y
if_same true x y e = e
if_same false x y e = refl

-- the next window of bytes that are kept
inside_after : (at : Place) (to byte : ℕ) → 1 < to
    → window_after (begun at true 0 to) byte ≡ begun (place_after at byte) true 0 (to - 1)
inside_after at to byte more =
    ap (λ k. begun (place_after at byte) k 0 (to - 1))
    (if_same (is_between (place_after at byte)) (begins 0 (to - 1)) true (begins_now (to - 1) (omega (arith, more))))

-- and of bytes before the range
before_after : (at : Place) (from to byte : ℕ) → 1 < from
    → window_after (begun at false from to) byte ≡ begun (place_after at byte) false (from - 1) (to - 1)
before_after at from to byte more =
    ap (λ k. begun (place_after at byte) k (from - 1) (to - 1))
    (if_same (is_between (place_after at byte)) (begins (from - 1) (to - 1)) false (begins_later (from - 1) (to - 1) (omega (arith, more))))

pub kept_cons : (window : Window) (byte : ℕ) (rest : List ℕ)
    → kept window (byte ∷ rest) ≡ if_kept window.keeps byte (kept (window_after window byte) rest)
unfolding kept
kept_cons window byte rest = refl

-- so many bytes before the end of the range that all of them are kept
pub inside_kept : (at : Place) (to : ℕ) (bytes : List ℕ) → length bytes < to
    → (kept (begun at true 0 to) bytes ≡ bytes)
    × (window_over (begun at true 0 to) bytes ≡ begun (place_over at bytes) true 0 (to - length bytes))
inside_kept at to [] less =
    let same : to ≡ to - 0 = omega arith in (kept_none (begun at true 0 to), ap (λ n. begun at true 0 n) same)
inside_kept at to (byte ∷ rest) less =
    let after = inside_after at to byte (omega (arith, less)) in
    let more = inside_kept (place_after at byte) (to - 1) rest (omega (arith, less)) in
    let same : to - 1 - length rest ≡ to - suc (length rest) = omega arith in (
      kept_cons (begun at true 0 to) byte rest ∙ ap (λ xs. byte ∷ xs) (ap (λ w. kept w rest) after ∙ more.0),
      ap (λ w. window_over w rest) after ∙ (more.1 ∙ ap (λ n. begun (place_over (place_after at byte) rest) true 0 n) same),
    )

-- so many before the range that none of them is
pub before_kept : (at : Place) (from to : ℕ) (bytes : List ℕ) → length bytes < from
    → (kept (begun at false from to) bytes ≡ [])
    × (window_over (begun at false from to) bytes ≡ begun (place_over at bytes) false (from - length bytes) (to - length bytes))
before_kept at from to [] less =
    let f : from ≡ from - 0 = omega arith in
    let t : to ≡ to - 0 = omega arith in (
      kept_none (begun at false from to),
      ap (λ n. begun at false n to) f ∙ ap (λ n. begun at false (from - 0) n) t,
    )
before_kept at from to (byte ∷ rest) less =
    let after = before_after at from to byte (omega (arith, less)) in
    let more = before_kept (place_after at byte) (from - 1) (to - 1) rest (omega (arith, less)) in
    let f : from - 1 - length rest ≡ from - suc (length rest) = omega arith in
    let t : to - 1 - length rest ≡ to - suc (length rest) = omega arith in
    let last = place_over (place_after at byte) rest in (
      kept_cons (begun at false from to) byte rest ∙ (ap (λ w. kept w rest) after ∙ more.0),
      ap (λ w. window_over w rest) after
          ∙ (more.1 ∙ (ap (λ n. begun last false n (to - 1 - length rest)) f ∙ ap (λ n. begun last false (from - suc (length rest)) n) t)),
    )

window_is : (window : Window) (at : Place) (keeps : Bool) (from : ℕ) → window.spot ≡ spot.Records at → window.keeps ≡ keeps
    → window.from ≡ from → window ≡ begun at keeps from window.to
window_is window at keeps from spots keep first =
    ap (λ s. record { spot = s; keeps = window.keeps; from = window.from; to = window.to }) spots
    ∙ (ap (λ k. begun at k window.from window.to) keep ∙ ap (λ n. begun at keeps n window.to) first)

pub inside_keeps : (window : Window) (at after : Place) (bytes : List ℕ) → window.spot ≡ spot.Records at → window.keeps ≡ true
    → window.from ≡ 0 → length bytes < window.to → after ≡ place_over at bytes
    → (kept window bytes ≡ bytes)
    × (record { spot = spot.Records after; keeps = window.keeps; from = window.from; to = window.to - length bytes }
    ≡ window_over window bytes)
inside_keeps window at after bytes spots keeps from less is =
    let known = window_is window at true 0 spots keeps from in
    let all = inside_kept at window.to bytes less in (
      ap (λ w. kept w bytes) known ∙ all.0,
      ap (λ p. record { spot = spot.Records p; keeps = window.keeps; from = window.from; to = window.to - length bytes }) is
          ∙ (ap (λ k. begun (place_over at bytes) k window.from (window.to - length bytes)) keeps
          ∙ (ap (λ n. begun (place_over at bytes) true n (window.to - length bytes)) from
          ∙ (sym all.1 ∙ ap (λ w. window_over w bytes) (sym known)))),
    )

pub before_keeps : (window : Window) (at after : Place) (to : ℕ) (bytes : List ℕ) → window.spot ≡ spot.Records at
    → window.keeps ≡ false → length bytes < window.from → after ≡ place_over at bytes → to ≡ window.to - length bytes
    → (kept window bytes ≡ [])
    × (record { spot = spot.Records after; keeps = window.keeps; from = window.from - length bytes; to = to }
    ≡ window_over window bytes)
before_keeps window at after to bytes spots keeps less is end =
    let known = window_is window at false window.from spots keeps refl in
    let none = before_kept at window.from window.to bytes less in
    let from = window.from - length bytes in (
      ap (λ w. kept w bytes) known ∙ none.0,
      ap (λ p. record { spot = spot.Records p; keeps = window.keeps; from = from; to = to }) is
          ∙ (ap (λ k. begun (place_over at bytes) k from to) keeps
          ∙ (ap (λ n. begun (place_over at bytes) false from n) end
          ∙ (sym none.1 ∙ ap (λ w. window_over w bytes) (sym known)))),
    )
