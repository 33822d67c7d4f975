-- Bytes that surely go on in a field, eight at once.
use Rattle.std.proofs.Common.{◌≡◌, ℕ, suc, zero, ◌+◌, ◌-◌, ◌*◌, ◌/◌, ◌%◌, ◌^◌, ◌<◌, ◌≤◌, List, get_or, sym, ap, ◌∙◌, inl, inr, arith}
use Rattle.std.proofs.lemmas.{Bool.Decides.leb_tells, Nat.Bits.{bit_at_and, bit_at_not, bit_at-lt, bit_at-trailing_zeros, bit_at-zero}}
use Rattle.std.specs.{Prelude.{bit_and, min}, Int.{bit_at, bit_not, trailing_zeros, w64}}
use Rattle.trace_reader.proofs.BlockFacts.{byte_before, byte_more, bytes_word, mask_bit}

-- a bit of the mask that isn't marked is set in the word, or clear in the difference
unmarked : (c w m k : ℕ) → w < 2 ^ 64 → k < 64 → bit_at (bit_and (bit_and c (bit_not w64 w)) m) k ≡ 0 → bit_at m k ≡ 1
    → bit_at w k ≡ 0 → bit_at c k ≡ 0
unmarked c w m k small within none one clear =
    let both =
    ap (λ n. min (min (bit_at c k) n) (bit_at m k)) (sym (bit_at_not w64 w k small within))
    ∙ (ap (λ n. min n (bit_at m k)) (sym (bit_at_and c (bit_not w64 w) k))
    ∙ (sym (bit_at_and (bit_and c (bit_not w64 w)) m k) ∙ none)) in
    omega (arith, both, one, clear, bit_at-lt c k)

-- the lowest byte is above a comma, and the word and the difference go on with the others
record Above (b r v c y n : ℕ) : Type 0 where
  pub above : 45 ≤ b
  pub word : v ≡ r
  pub rest : c + n ≡ r + (y + 1)

low_byte : (b r v c y n : ℕ) → b < 256 → v ≡ b + 256 * r → c + 256 * n ≡ b + 256 * r + (211 + 256 * y)
    → (v / 128 % 2 ≡ 0 → c / 128 % 2 ≡ 0) → Above b r (v / 256) (c / 256) y n
low_byte b r v c y n byte word rest clear =
    let low : b < 128 → v / 128 % 2 ≡ 0 = λ small. omega arith in
    let high : b < 128 → 45 ≤ b = λ small. let bit = clear (low small) in omega (arith, bit) in
    let above : 45 ≤ b = elim (leb_tells 128 b) [
      | inl large ↦ omega (arith, large.1)
      | inr small ↦ high small.1
    ] in
    record { above = above; word = omega arith; rest = omega arith }

-- bytes before the first mark are above a comma
all_above : (m : ℕ) (b : ℕ → ℕ) (w c j n : ℕ) → ((i : ℕ) → b i < 256) → w ≡ bytes_word b m
    → c + 256 ^ m * j ≡ w + (bytes_word (λ i. 210) m + 1)
    → ((i : ℕ) → i < n → bit_at w (i * 8 + 7) ≡ 0 → bit_at c (i * 8 + 7) ≡ 0) → n ≤ m → (k : ℕ) → k < n → 45 ≤ b k
all_above m b w c j zero byte is sum clear few k below = absurd (omega arith)
all_above zero b w c j (suc n) byte is sum clear few k below = absurd (omega arith)
all_above (suc m) b w c j (suc n) byte is sum clear few k below =
    let low = low_byte (b 0) (bytes_word (λ i. b (suc i)) m) w c (bytes_word (λ i. 210) m) (256 ^ m * j) (byte 0) is
    (omega (arith, is, sum, byte_more m j)) (clear 0 (omega arith)) in
    each low.above (all_above m (λ i. b (suc i)) (w / 256) (c / 256) j n (λ i. byte (suc i)) low.word (omega (arith, low.word, low.rest))
    (λ i less bit. byte_before c i ∙ clear (suc i) (omega arith) (sym (byte_before w i) ∙ bit)) (omega arith)) k below
  where
    each : 45 ≤ b 0 → ((i : ℕ) → i < n → 45 ≤ b (suc i)) → (k : ℕ) → k < suc n → 45 ≤ b k
    each first _ zero _ = first
    each first rest (suc k) below = rest k (omega arith)

-- no mark is below the lowest one
no_mark_below : (m i : ℕ) → m < 2 ^ 64 → i < trailing_zeros w64 m → bit_at m i ≡ 0
no_mark_below zero i _ _ = bit_at-zero i
no_mark_below (suc n) i small below = (bit_at-trailing_zeros w64 (suc n) (omega arith) small).2 i below

-- bytes of a text before the lowest mark of eight are above a comma
pub going_on : (text : List ℕ) (at w c marks n : ℕ) → ((i : ℕ) → get_or text i 0 < 256)
    → w ≡ get_or text at 0 + 256 * (get_or text (at + 1) 0 + 256 * (get_or text (at + 2) 0 + 256 * (get_or text (at + 3) 0 + 256
    * (get_or text (at + 4) 0 + 256 * (get_or text (at + 5) 0 + 256 * (get_or text (at + 6) 0 + 256 * get_or text (at + 7) 0))))))
    → c ≡ (w + 15191436295996101331) % 2 ^ 64 → marks ≡ bit_and (bit_and c (bit_not w64 w)) 9259542123273814144 → marks < 2 ^ 64
    → n ≡ trailing_zeros w64 marks / 8 → trailing_zeros w64 marks ≤ 64
    → (k : ℕ) → at ≤ k → k < at + n → 44 < get_or text k 0
going_on text at w c marks n byte is sum marks_are small count most k low high =
    let b : ℕ → ℕ = λ i. get_or text (at + i) 0 in
    let here : at + 0 ≡ at = omega arith in
    let first : get_or text (at + 0) 0 ≡ get_or text at 0 = rw here in
    let none : (i : ℕ) → i < 8 * n → bit_at (bit_and (bit_and c (bit_not w64 w)) 9259542123273814144) i ≡ 0 =
    λ i below. rw (← marks_are) (no_mark_below marks i small (omega (arith, below, count))) in
    let word : w ≡ bytes_word b 8 = omega (arith, is, first) in
    let fits : w < 2 ^ 64 = omega (
      arith,
      word,
      byte at,
      byte (at + 1),
      byte (at + 2),
      byte (at + 3),
      byte (at + 4),
      byte (at + 5),
      byte (at + 6),
      byte (at + 7),
    ) in
    let above = all_above 8 b w c ((w + 15191436295996101331) / 2 ^ 64) n (λ i. byte (at + i)) word (omega (arith, sum))
    (λ i below. unmarked c w 9259542123273814144 (i * 8 + 7) fits (omega (arith, count, most, below)) (none (i * 8 + 7) (omega arith))
    (mask_bit 8 i (omega (arith, count, most, below)))) (omega (arith, count, most)) (k - at) (omega (arith, low, high)) in
    let place : at + (k - at) ≡ k = omega (arith, low) in
    let here : 45 ≤ get_or text k 0 = rw (← place) above in
    omega (arith, here)
