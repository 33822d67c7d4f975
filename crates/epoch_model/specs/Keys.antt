-- Keys of a groupby, the bucket that a key has, and lists of keys.
use Rattle.std.specs.Prelude.{ℕ, Bool, List, [], ◌∷◌, filter, not, nat_eq, bit_xor, ◌*◌, ◌%◌, ◌/◌, ◌^◌, false, ◌||◌, ◌≡◌, if◌then◌else◌}
use Rattle.std.specs.{declared.cmp.Ordering.{Ordering, TheVariants.Less}, Ordering.{nat_cmp, is_lt, is_gt}}
use Rattle.std.specs.Cmp.Lexicographic.{pointwise, slice_cmp}

-- the words of a key
abbrev pub Key : Type 0
Key = List ℕ

-- the argument words that a groupby takes of one packet
abbrev pub ArgRow : Type 0
ArgRow = List ℕ

unfoldable pub key_eq : Key → Key → Bool
key_eq a b = pointwise nat_eq a b

-- keys compared word by word
unfoldable pub key_cmp : Key → Key → Ordering
key_cmp a b = slice_cmp nat_cmp a b

-- the hash of the words, begun with h
abbrev pub mixed : ℕ → Key → ℕ
mixed h [] = h
mixed h (word ∷ words) = mixed ((bit_xor h word * 0x9E3779B97F4A7C15) % 2 ^ 64) words

-- the bucket of the key
unfoldable pub bucket_of : ℕ → Key → ℕ
bucket_of buckets key = (mixed 0 key / 2 ^ 32) % buckets

-- the keys other than this one
abbrev pub others : Key → List Key → List Key
others key keys = filter (λ other. not (key_eq other key)) keys

-- each key once
abbrev pub distinct : List Key → List Key
distinct [] = []
distinct (key ∷ keys) = key ∷ others key (distinct keys)

-- the list has the key
abbrev pub has : Key → List Key → Bool
has key [] = false
has key (first ∷ keys) = key_eq first key || has key keys

-- the key in its place among ascending keys, where it isn't there yet
abbrev pub with_key : Key → List Key → List Key
with_key key [] = key ∷ []
with_key key (first ∷ keys) =
    if is_lt (key_cmp key first) then (key ∷ first ∷ keys)
    else (if is_gt (key_cmp key first) then (first ∷ with_key key keys) else (first ∷ keys))

-- The keys in ascending order, each once.
abbrev pub ascending : List Key → List Key
ascending [] = []
ascending (key ∷ keys) = with_key key (ascending keys)

-- each of the keys is greater
abbrev pub AreAbove : Key → List Key → Type 0
AreAbove key [] = Unit {0}
AreAbove key (other ∷ keys) = (key_cmp key other ≡ Less) × AreAbove key keys

abbrev pub IsAscending : List Key → Type 0
IsAscending [] = Unit {0}
IsAscending (key ∷ keys) = AreAbove key keys × IsAscending keys
