-- What a touch answers, and what it leaves.
use Rattle.std.specs.Prelude.{◌≡◌, ℕ, true, false, List, ◌∷◌, ◌+◌, ◌*◌, ◌<◌, ◌-◌, length, slice_get, take, Option, Some}
use Rattle.epoch_model.specs.Keys.{Key}
use Rattle.bucket_cache.specs.{Buckets.{Pair, has_key, place_of_key, places_of, without_key}, declared.bucket.Touch.Touch}
use Rattle.bucket_cache.specs.declared.bucket.Touch.TheVariants.{Hit, Free, Full}

-- the place of the least recently used pair, if there is a pair
abbrev pub least_place : List Pair → Option ℕ
least_place pairs = slice_get (places_of pairs) (length pairs - 1)

abbrev pub IsLeast : List Pair → ℕ → Type 0
IsLeast pairs place = least_place pairs ≡ Some place

-- the pair of the key at the front
abbrev pub with_pair_first : Key → ℕ → List Pair → List Pair
with_pair_first key place pairs = record { key = key; place = place } ∷ pairs

-- no pair, or one of another key, comes first
abbrev pub IsNotFirst : Key → List Pair → Type 0
IsNotFirst key pairs = has_key key (take 1 pairs) ≡ false

-- A touch of the key in a bucket with this number of ways leads from the old pairs to the new ones.
abbrev pub Touches : ℕ → Key → List Pair → Touch → List Pair → Type 0
Touches ways key old (Hit place) new =
    (has_key key old ≡ true) × (place_of_key key old ≡ Some place) × (new ≡ with_pair_first key place (without_key key old))
Touches ways key old (Free place) new =
    (has_key key old ≡ false) × (length old < ways) × (new ≡ with_pair_first key place old)
Touches ways key old (Full place) new =
    (has_key key old ≡ false) × (length old ≡ ways) × IsLeast old place × (new ≡ old)

-- the most steps that a touch takes. After Full there is room for a replacement.
abbrev pub touch_cost : ℕ → ℕ → Touch → ℕ
touch_cost ways key_words (Hit place) = ways * key_words + ways
touch_cost ways key_words (Free place) = ways * key_words + (ways + key_words)
touch_cost ways key_words (Full place) = ways * key_words

-- the steps that a replacement takes
abbrev pub replace_cost : ℕ → ℕ → ℕ
replace_cost ways key_words = ways + key_words
