-- The epochs of a key: how its uses are cut, by counting the distinct other keys between two uses.
use Rattle.std.specs.Prelude.{ℕ, zero, suc, Bool, false, List, [], ◌∷◌, ◌++◌, Option, Some, None, filter, find, map, length, reverse, not}
use Rattle.std.specs.Prelude.{◌&&◌, ◌||◌, ◌==◌, ◌%◌, nat_lt, nat_le, if◌then◌else◌}
use Rattle.epoch_model.specs.Keys.{Key, ArgRow, key_eq, bucket_of, distinct}

-- what a groupby takes of one packet: the packet's number in the trace, the key and the argument row
pub record Use : Type 0 where
  pub packet : ℕ
  pub key : Key
  pub row : ArgRow

-- the cache's buckets, the most keys that a bucket holds, and the number of packets after which the cache is emptied each time (0: never)
pub record Geometry : Type 0 where
  pub buckets : ℕ
  pub ways : ℕ
  pub refresh : ℕ

-- the cache is emptied after this packet
abbrev pub is_refresh : ℕ → ℕ → Bool
is_refresh refresh packet = nat_lt 0 refresh && (packet % refresh == 0)

-- the cache is emptied after some packet from `first` on and below the other number
abbrev pub refresh_between : ℕ → ℕ → ℕ → Bool
refresh_between refresh first zero = false
refresh_between refresh first (suc n) = (nat_le first n && is_refresh refresh n) || refresh_between refresh first n

-- another key of the same bucket
abbrev pub is_rival : Geometry → Key → Key → Bool
is_rival g key other = not (key_eq other key) && (bucket_of g.buckets other == bucket_of g.buckets key)

-- the distinct other keys of the key's bucket in these uses
abbrev pub rivals : Geometry → Key → List Use → List Key
rivals g key uses = distinct (filter (is_rival g key) (map (λ u. u.key) uses))

-- Two consecutive uses of a key, and the uses strictly between them, are in one epoch.
abbrev pub in_one_epoch : Geometry → Use → List Use → Use → Bool
in_one_epoch g first between second = nat_lt (length (rivals g second.key between)) g.ways && not
    (refresh_between g.refresh first.packet second.packet)

-- From here on uses are given from the latest one back.

abbrev pub is_use_of : Key → Use → Bool
is_use_of key u = key_eq u.key key

-- the latest use of the key, and the uses after it
abbrev pub last_use : Key → List Use → Option Use
last_use key earlier = find (is_use_of key) earlier

abbrev pub since_last_use : Key → List Use → List Use
since_last_use key [] = []
since_last_use key (u ∷ earlier) = if is_use_of key u then [] else (u ∷ since_last_use key earlier)

abbrev pub goes_on_after : Geometry → Option Use → List Use → Use → Bool
goes_on_after g None between u = false
goes_on_after g (Some first) between u = in_one_epoch g first between u

-- the use is in one epoch with the use of its key before it
abbrev pub goes_on : Geometry → List Use → Use → Bool
goes_on g earlier u = goes_on_after g (last_use u.key earlier) (since_last_use u.key earlier) u

-- the pieces with the row at the end of the last one, or with a first one where there is none
abbrev pub onto_last : ArgRow → List (List ArgRow) → List (List ArgRow)
onto_last row [] = (row ∷ []) ∷ []
onto_last row (piece ∷ []) = (piece ++ row ∷ []) ∷ []
onto_last row (piece ∷ next ∷ pieces) = piece ∷ onto_last row (next ∷ pieces)

abbrev pub epochs_back : Geometry → List Use → Key → List (List ArgRow)
epochs_back g [] key = []
epochs_back g (u ∷ earlier) key =
    if is_use_of key u
    then (if goes_on g earlier u then onto_last u.row (epochs_back g earlier key) else (epochs_back g earlier key ++ (u.row ∷ []) ∷ []))
    else epochs_back g earlier key

-- The pieces into which the key's rows are cut, of uses in the order of the trace.
unfoldable pub epochs : Geometry → List Use → Key → List (List ArgRow)
epochs g uses key = epochs_back g (reverse uses) key
