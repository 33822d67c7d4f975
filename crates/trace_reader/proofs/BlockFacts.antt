-- Digits that are read eight or four at once.
use Rattle.std.proofs.Common.{◌≡◌, ℕ, zero, suc, ◌+◌, ◌-◌, ◌*◌, ◌/◌, ◌%◌, ◌^◌, ◌<◌, ◌≤◌, true, List, length, get_or, refl, sym, ap, ◌∙◌}
use Rattle.std.proofs.{Common.{arith, take}, Math.Nat.{div-div-eq-div-mul, mul_assoc, pow-succ'}, lemmas.Bool.Decides.nat_tests}
use Rattle.std.proofs.lemmas.{List.length-take-le, Nat.{and_block, and_mask, pow-add, Bits.{bit_at_and, bit_at_or, bit_at-zero}}}
use Rattle.std.specs.{Prelude.{bit_and, bit_or, min, max}, Char.is_ascii_digit, Int.bit_at}
use Rattle.trace_reader.{specs.Blocks.IsFront, proofs.NumberFacts.{digits_below, digits_value_digit, list_all_digit}}

-- no byte is read
pub front_none : (text : List ℕ) → IsFront text 0 0
front_none _ = record { digits = refl; value = refl }

-- the number of a front of few digits is small
pub front_below : (text : List ℕ) (read k number : ℕ) → IsFront text read number → read ≤ length text → read ≤ k → number < 10 ^ k
front_below text read k number front room few = omega (
  arith,
  digits_below (take read text) k front.digits (omega (arith, length-take-le read text room)),
  front.value,
)

-- the byte of a digit
abbrev pub IsDigit : ℕ → Type 0
IsDigit byte = (48 ≤ byte) × (byte ≤ 57)

-- one more digit
front_more : (text : List ℕ) (i j n : ℕ) → i < length text → j ≡ i + 1 → IsDigit (get_or text i 0) → IsFront text i n
    → IsFront text j (n * 10 + (get_or text i 0 - 48))
front_more text i j n within next range front =
    let digit : is_ascii_digit (get_or text i 0) ≡ true = grind (arith, nat_tests) in
    rw next (record {
      digits = list_all_digit text i within front.digits digit;
      value = grind (arith, digits_value_digit text i within digit);
    })

-- a bit that a mask has is in neither number
clear_bit : (a b m k : ℕ) → bit_and (bit_or a b) m ≡ 0 → bit_at m k ≡ 1 → (bit_at a k ≡ 0) × (bit_at b k ≡ 0)
clear_bit a b m k none one =
    let both : min (max (bit_at a k) (bit_at b k)) (bit_at m k) ≡ 0 =
    ap (λ n. min n (bit_at m k)) (sym (bit_at_or a b k)) ∙ (sym (bit_at_and (bit_or a b) m k)
    ∙ (rw (none, bit_at-zero k))) in
    (omega (arith, both, one), omega (arith, both, one))

-- the lowest byte is a digit, and the sum and the difference go on with the others
record GoesOn (b r a c x y m n : ℕ) : Type 0 where
  pub digit : IsDigit b
  pub sum : a + m ≡ r + x
  pub rest : c + n ≡ r + (y + 1)

low_byte : (b r a c x y m n : ℕ) → b < 256 → a + 256 * m ≡ b + 256 * r + (70 + 256 * x) → c + 256 * n ≡ b + 256 * r + (208 + 256 * y)
    → a / 128 % 2 ≡ 0 → c / 128 % 2 ≡ 0 → GoesOn b r (a / 256) (c / 256) x y m n
low_byte b r a c x y m n byte sum rest no_sum no_rest =
    record { digit = (omega arith, omega arith); sum = omega arith; rest = omega arith }

-- the number of so many bytes, the lowest one first
abbrev pub bytes_word : (ℕ → ℕ) → ℕ → ℕ
bytes_word b zero = 0
bytes_word b (suc n) = b 0 + 256 * bytes_word (λ i. b (suc i)) n

-- this holds of so many first numbers
abbrev AllBelow : (ℕ → Type 0) → ℕ → Type 0
AllBelow P zero = Unit {0}
AllBelow P (suc n) = P 0 × AllBelow (λ i. P (suc i)) n

all_map : (P Q : ℕ → Type 0) (n : ℕ) → ((i : ℕ) → P i → Q i) → AllBelow P n → AllBelow Q n
all_map P Q zero h _ = tt
all_map P Q (suc n) h all = (h 0 all.0, all_map (λ i. P (suc i)) (λ i. Q (suc i)) n (λ i. h (suc i)) all.1)

-- the highest bit of a byte is that of the byte before, without the lowest byte
pub byte_before : (x i : ℕ) → bit_at (x / 256) (i * 8 + 7) ≡ bit_at x (suc i * 8 + 7)
byte_before x i =
    let place : i * 8 + 7 + 8 ≡ suc i * 8 + 7 = omega arith in
    let same : 256 * 2 ^ (i * 8 + 7) ≡ 2 ^ (i * 8 + 7 + 8) = omega (arith, pow-add 2 (i * 8 + 7) 8) in
    rw (div-div-eq-div-mul x 256 (2 ^ (i * 8 + 7)), same, place)

-- the mask of highest bits has each of them
pub mask_bit : (n i : ℕ) → i < n → bit_at (bytes_word (λ k. 128) n) (i * 8 + 7) ≡ 1
mask_bit zero i below = absurd (omega arith)
mask_bit (suc n) zero below = omega arith
mask_bit (suc n) (suc i) below =
    let rest : (128 + 256 * bytes_word (λ k. 128) n) / 256 ≡ bytes_word (λ k. 128) n = omega arith in
    sym (byte_before (128 + 256 * bytes_word (λ k. 128) n) i) ∙ (rw (rest, mask_bit n i (omega arith)))

pub byte_more : (n k : ℕ) → 256 ^ suc n * k ≡ 256 * (256 ^ n * k)
byte_more n k = rw (pow-succ' 256 n, mul_assoc 256 (256 ^ n) k)

-- where no sum with 70 and no difference from 48 sets the highest bit of a byte, these are digits
digits_of : (n : ℕ) (b : ℕ → ℕ) (a c k j : ℕ) → ((i : ℕ) → b i < 256) → a + 256 ^ n * k ≡ bytes_word b n + bytes_word (λ i. 70) n
    → c + 256 ^ n * j ≡ bytes_word b n + (bytes_word (λ i. 207) n + 1)
    → ((i : ℕ) → i < n → (bit_at a (i * 8 + 7) ≡ 0) × (bit_at c (i * 8 + 7) ≡ 0)) → AllBelow (λ i. IsDigit (b i)) n
digits_of zero b a c k j _ _ _ _ = tt
digits_of (suc n) b a c k j byte sum rest clear =
    let bits = clear 0 (omega arith) in
    let low = low_byte (b 0) (bytes_word (λ i. b (suc i)) n) a c (bytes_word (λ i. 70) n) (bytes_word (λ i. 207) n) (256 ^ n * k)
    (256 ^ n * j) (byte 0) (omega (arith, sum, byte_more n k)) (omega (arith, rest, byte_more n j)) bits.0 bits.1 in (
      low.digit,
      digits_of n (λ i. b (suc i)) (a / 256) (c / 256) k j (λ i. byte (suc i)) low.sum low.rest
          (λ i below. let high = clear (suc i) (omega arith) in (byte_before a i ∙ high.0, byte_before c i ∙ high.1)),
    )

-- the lowest bytes of both halves
two_bytes : (high low : ℕ) → low < 2 ^ 32 → bit_and (high * 2 ^ 32 + low) 1095216660735 ≡ high % 256 * 2 ^ 32 + low % 256
two_bytes high low small =
    rw (and_block 32 high 255 low 255 small (omega arith), and_mask high 8, and_mask low 8)

-- the number of eight digits: of pairs of them, and of pairs of these
eight_pairs : (d : ℕ → ℕ) (w p first second : ℕ) → AllBelow (λ i. d i ≤ 9) 8 → w ≡ bytes_word d 8
    → p ≡ (w * 10 % 2 ^ 64 + w / 2 ^ 8) % 2 ^ 64 → first ≡ bit_and p 1095216660735 * 4294967296000100 % 2 ^ 64
    → second ≡ bit_and (p / 2 ^ 16) 1095216660735 * 42949672960001 % 2 ^ 64
    → (first + second) % 2 ^ 64 / 2 ^ 32 ≡ (((((((0 * 10 + d 0) * 10 + d 1) * 10 + d 2) * 10 + d 3) * 10 + d 4) * 10 + d 5) * 10 + d 6) * 10
    + d 7
eight_pairs d w p first second few is p_is first_is second_is =
    let low : ℕ = (d 0 * 10 + d 1) + 256 * (d 1 * 10 + d 2) + 65536 * (d 2 * 10 + d 3) + 16777216 * (d 3 * 10 + d 4) in
    let high : ℕ = (d 4 * 10 + d 5) + 256 * (d 5 * 10 + d 6) + 65536 * (d 6 * 10 + d 7) + 16777216 * (d 7 * 10) in
    let low_next : ℕ = (d 2 * 10 + d 3) + 256 * (d 3 * 10 + d 4) + 65536 * (d 4 * 10 + d 5) + 16777216 * (d 5 * 10 + d 6) in
    let high_next : ℕ = (d 6 * 10 + d 7) + 256 * (d 7 * 10) in
    let split : p ≡ high * 2 ^ 32 + low = omega arith in
    let split_next : p / 2 ^ 16 ≡ high_next * 2 ^ 32 + low_next = omega (arith, split) in
    let even : bit_and p 1095216660735 ≡ (d 4 * 10 + d 5) * 2 ^ 32 + (d 0 * 10 + d 1) =
    ap (λ n. bit_and n 1095216660735) split ∙ (two_bytes high low (omega arith) ∙ omega arith) in
    let odd : bit_and (p / 2 ^ 16) 1095216660735 ≡ (d 6 * 10 + d 7) * 2 ^ 32 + (d 2 * 10 + d 3) =
    ap (λ n. bit_and n 1095216660735) split_next ∙ (two_bytes high_next low_next (omega arith) ∙ omega arith) in
    omega (arith, even, odd, first_is, second_is)

-- eight digits less 48 each
eight_rest : (b d : ℕ → ℕ) (word rest : ℕ) → AllBelow (λ i. b i ≡ d i + 48) 8 → AllBelow (λ i. d i ≤ 9) 8 → word ≡ bytes_word b 8
    → rest ≡ (word + 14974415777481871312) % 2 ^ 64 → rest ≡ bytes_word d 8
eight_rest b d word rest same few is rest_is = omega arith

-- the number of four digits
four_pairs : (d : ℕ → ℕ) (w p : ℕ) → AllBelow (λ i. d i ≤ 9) 4 → w ≡ bytes_word d 4 → p ≡ (w * 10 % 2 ^ 32 + w / 2 ^ 8) % 2 ^ 32
    → p % 256 * 100 + p / 2 ^ 16 % 256 ≡ ((d 0 * 10 + d 1) * 10 + d 2) * 10 + d 3
four_pairs d w p few is p_is = omega arith

-- the first eight bytes of a text
pub eight_read : (text : List ℕ) (word sum rest pairs : ℕ) → 8 ≤ length text → ((i : ℕ) → get_or text i 0 < 256)
    → word ≡ get_or text 0 0 + 256 * (get_or text 1 0 + 256 * (get_or text 2 0 + 256
    * (get_or text 3 0 + 256 * (get_or text 4 0 + 256 * (get_or text 5 0 + 256 * (get_or text 6 0 + 256 * get_or text 7 0))))))
    → sum ≡ (word + 5063812098665367110) % 2 ^ 64 → rest ≡ (word + 14974415777481871312) % 2 ^ 64
    → bit_and (bit_or sum rest) 9259542123273814144 ≡ 0 → pairs ≡ (rest * 10 % 2 ^ 64 + rest / 2 ^ 8) % 2 ^ 64
    → IsFront text 8 ((bit_and pairs 1095216660735 * 4294967296000100 % 2 ^ 64 + bit_and (pairs / 2 ^ 16) 1095216660735
    * 42949672960001 % 2 ^ 64) % 2 ^ 64 / 2 ^ 32)
eight_read text word sum rest pairs room byte is sum_is rest_is none pairs_is =
    let b : ℕ → ℕ = λ i. get_or text i 0 in
    let word_is : word ≡ bytes_word b 8 = omega (arith, is) in
    let d = digits_of 8 b sum rest ((word + 5063812098665367110) / 2 ^ 64) ((word + 14974415777481871312) / 2 ^ 64) byte
    (omega (arith, word_is, sum_is)) (omega (arith, word_is, rest_is))
    (λ i below. clear_bit sum rest 9259542123273814144 (i * 8 + 7) none (mask_bit 8 i below)) in
    let few = all_map (λ i. IsDigit (b i)) (λ i. b i - 48 ≤ 9) 8 (λ i digit. omega arith) d in
    let same = all_map (λ i. IsDigit (b i)) (λ i. b i ≡ b i - 48 + 48) 8 (λ i digit. omega arith) d in
    let f1 = front_more text 0 1 _ (omega (arith, room)) (omega arith) d.0 (front_none text) in
    let f2 = front_more text 1 2 _ (omega (arith, room)) (omega arith) d.1.0 f1 in
    let f3 = front_more text 2 3 _ (omega (arith, room)) (omega arith) d.1.1.0 f2 in
    let f4 = front_more text 3 4 _ (omega (arith, room)) (omega arith) d.1.1.1.0 f3 in
    let f5 = front_more text 4 5 _ (omega (arith, room)) (omega arith) d.1.1.1.1.0 f4 in
    let f6 = front_more text 5 6 _ (omega (arith, room)) (omega arith) d.1.1.1.1.1.0 f5 in
    let f7 = front_more text 6 7 _ (omega (arith, room)) (omega arith) d.1.1.1.1.1.1.0 f6 in
    let f8 = front_more text 7 8 _ (omega (arith, room)) (omega arith) d.1.1.1.1.1.1.1.0 f7 in
    let value = eight_pairs (λ i. b i - 48) rest pairs _ _ few (eight_rest b (λ i. b i - 48) word rest same few word_is rest_is) pairs_is
    refl refl in
    record { digits = f8.digits; value = value ∙ f8.value }

-- four bytes of a text
pub four_read : (text : List ℕ) (read number word sum rest pairs : ℕ) → IsFront text read number → read + 4 ≤ length text
    → ((i : ℕ) → get_or text i 0 < 256)
    → word ≡ get_or text read 0 + 256 * (get_or text (read + 1) 0 + 256 * (get_or text (read + 2) 0 + 256 * get_or text (read + 3) 0))
    → sum ≡ (word + 1179010630) % 2 ^ 32 → rest ≡ (word + 3486502864) % 2 ^ 32 → bit_and (bit_or sum rest) 2155905152 ≡ 0
    → pairs ≡ (rest * 10 % 2 ^ 32 + rest / 2 ^ 8) % 2 ^ 32
    → IsFront text (read + 4) (number * 10000 + (pairs % 256 * 100 + pairs / 2 ^ 16 % 256))
four_read text read number word sum rest pairs front room byte is sum_is rest_is none pairs_is =
    let b : ℕ → ℕ = λ i. get_or text (read + i) 0 in
    let here : read + 0 ≡ read = omega arith in
    let first : get_or text (read + 0) 0 ≡ get_or text read 0 = rw here in
    let word_is : word ≡ bytes_word b 4 = omega (arith, is, first) in
    let d = digits_of 4 b sum rest ((word + 1179010630) / 2 ^ 32) ((word + 3486502864) / 2 ^ 32) (λ i. byte (read + i))
    (omega (arith, word_is, sum_is)) (omega (arith, word_is, rest_is))
    (λ i below. clear_bit sum rest 2155905152 (i * 8 + 7) none (mask_bit 4 i below)) in
    let f1 = front_more text read (read + 1) _ (omega (arith, room)) (omega arith) (rw (← here) d.0)
    front in
    let f2 = front_more text (read + 1) (read + 2) _ (omega (arith, room)) (omega arith) d.1.0 f1 in
    let f3 = front_more text (read + 2) (read + 3) _ (omega (arith, room)) (omega arith) d.1.1.0 f2 in
    let f4 = front_more text (read + 3) (read + 4) _ (omega (arith, room)) (omega arith) d.1.1.1.0 f3 in
    let value = four_pairs (λ i. b i - 48) rest pairs (all_map (λ i. IsDigit (b i)) (λ i. b i - 48 ≤ 9) 4 (λ i digit. omega arith) d)
    (omega (arith, word_is, rest_is, d)) pairs_is in
    record { digits = f4.digits; value = omega (arith, value, first, f4.value) }
