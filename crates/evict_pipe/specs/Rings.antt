-- The ring of a pipe: the words of its places, one place after another, and the first place after the last one.
use Rattle.std.specs.{Prelude.{◌≡◌, ◌≤◌, ◌<◌, ◌+◌, ◌-◌, ◌*◌, ℕ, List, length, take, drop, map, nat_lt, if◌then◌else◌}, List.range_with_len}

-- the place that comes so many places after the first one
abbrev pub place_after : ℕ → ℕ → ℕ → ℕ
place_after places first i = if nat_lt (first + i) places then first + i else first + i - places

abbrev pub words_at : ℕ → List ℕ → ℕ → List ℕ
words_at record_words words place = take record_words (drop (place * record_words) words)

abbrev pub records_in : ℕ → ℕ → List ℕ → ℕ → ℕ → List (List ℕ)
records_in record_words places words first len = map (λ i. words_at record_words words (place_after places first i)) (range_with_len 0 len)

-- each place has its words, and there are no more records than places
pub record IsRing (record_words places : ℕ) (words : List ℕ) (first len : ℕ) : Type 0 where
  pub whole : length words ≡ places * record_words
  pub width : record_words ≤ 512
  pub few : places ≤ 65536
  pub oldest : first < places
  pub within : len ≤ places
