-- Small traces, with their epochs and tables written out.
use Rattle.std.specs.Prelude.{◌≡◌, ℕ, ◌+◌, Bool, true, false, List, [], ◌∷◌, length, suc, map, sum}
use Rattle.epoch_model.specs.{declared.tables.{Mark.{Mark, TheVariants.{Exact, Valid, Invalid}}, Row.Row}, Keys.bucket_of}
use Rattle.epoch_model.specs.{Epochs.{Use, Geometry, epochs}, Machine.end_of, Tables.{Folding, group_rows, group_epochs}}

-- one use for each packet, from this number on, with the number as the row
abbrev pub uses_from : ℕ → List ℕ → List Use
uses_from number [] = []
uses_from number (word ∷ words) = record { packet = number; key = word ∷ []; row = number ∷ [] } ∷ uses_from (suc number) words

-- how many epochs a key of one word has in a trace with these keys
abbrev pub epoch_count : Geometry → List ℕ → ℕ → ℕ
epoch_count g words word = length (epochs g (uses_from 1 words) (word ∷ []))

abbrev pub one_bucket : ℕ → Geometry
one_bucket ways = record { buckets = 1; ways = ways; refresh = 0 }

-- the number of packets, and the sum of their rows
abbrev pub counting : Bool → Folding
counting each = record { step = λ state row. (sum state + 1) ∷ []; initial = 0 ∷ []; row_per_epoch = each }

abbrev pub summing : Bool → Folding
summing each = record { step = λ state row. (sum state + sum row) ∷ []; initial = 0 ∷ []; row_per_epoch = each }

abbrev pub row_of : ℕ → Mark → ℕ → ℕ → ℕ → Row
row_of word mark epoch epochs value = record { key = word ∷ []; mark = mark; epoch = epoch; epochs = epochs; values = value ∷ [] }

pub record AreWorkedExamples : Type 0 where
  -- with two buckets the keys 1 to 4 have the buckets 1, 0, 0, 1
  pub buckets : map (λ word. bucket_of 2 (word ∷ [])) (1 ∷ 2 ∷ 3 ∷ 4 ∷ []) ≡ 1 ∷ 0 ∷ 0 ∷ 1 ∷ []
  -- one way: every other key in between cuts
  pub one_way : map (epoch_count (one_bucket 1) (1 ∷ 2 ∷ 1 ∷ [])) (1 ∷ 2 ∷ []) ≡ 2 ∷ 1 ∷ []
  -- two ways: one other key doesn't
  pub two_ways : map (epoch_count (one_bucket 2) (1 ∷ 2 ∷ 1 ∷ [])) (1 ∷ 2 ∷ []) ≡ 1 ∷ 1 ∷ []
  -- two other keys do
  pub two_others : map (epoch_count (one_bucket 2) (1 ∷ 2 ∷ 2 ∷ 3 ∷ 1 ∷ [])) (1 ∷ 2 ∷ 3 ∷ []) ≡ 2 ∷ 1 ∷ 1 ∷ []
  pub four_ways : epoch_count (one_bucket 4) (1 ∷ 2 ∷ 2 ∷ 3 ∷ 1 ∷ []) 1 ≡ 1
  -- one other key, used often, counts once
  pub often : epoch_count (one_bucket 2) (1 ∷ 2 ∷ 2 ∷ 2 ∷ 1 ∷ []) 1 ≡ 1
  -- only what lies between two consecutive uses counts
  pub consecutive : epoch_count (one_bucket 2) (1 ∷ 2 ∷ 1 ∷ 3 ∷ 1 ∷ []) 1 ≡ 1
  -- keys of other buckets don't count
  pub two_buckets : map (epoch_count (record { buckets = 2; ways = 1; refresh = 0 }) (1 ∷ 2 ∷ 3 ∷ 1 ∷ 2 ∷ []))
      (1 ∷ 2 ∷ 3 ∷ []) ≡ 1 ∷ 2 ∷ 1 ∷ []
  -- a refresh after each second packet
  pub refreshed : epochs (record { buckets = 1; ways = 8; refresh = 2 }) (uses_from 1 (1 ∷ 1 ∷ 2 ∷ 1 ∷ [])) (1 ∷ [])
      ≡ ((1 ∷ []) ∷ (2 ∷ []) ∷ []) ∷ ((4 ∷ []) ∷ []) ∷ []
  pub refreshed_other : epoch_count (record { buckets = 1; ways = 8; refresh = 2 }) (1 ∷ 1 ∷ 2 ∷ 1 ∷ []) 2 ≡ 1
  pub never_refreshed : map (epoch_count (one_bucket 8) (1 ∷ 1 ∷ 2 ∷ 1 ∷ [])) (1 ∷ 2 ∷ []) ≡ 1 ∷ 1 ∷ []
  pub refreshed_always : epoch_count (record { buckets = 1; ways = 8; refresh = 1 }) (1 ∷ 1 ∷ []) 1 ≡ 2
  -- the machine's closed epochs at the end of the trace
  pub closed : (end_of (record { buckets = 1; ways = 2; refresh = 0 }) (uses_from 1 (1 ∷ 2 ∷ 1 ∷ 3 ∷ 1 ∷ [])) 5).closed
      ≡ record { key = 2 ∷ []; rows = (2 ∷ []) ∷ [] } ∷ record {
        key = 3 ∷ [];
        rows = (4 ∷ []) ∷ [];
      } ∷ record { key = 1 ∷ []; rows = (1 ∷ []) ∷ (3 ∷ []) ∷ (5 ∷ []) ∷ [] } ∷ []
  -- one row a key, by ascending keys
  pub counted : group_rows (counting false) (one_bucket 1) (uses_from 1 (2 ∷ 1 ∷ 2 ∷ []))
      ≡ row_of 1 Exact 0 1 1 ∷ row_of 2 Exact 0 2 2 ∷ []
  pub counted_epochs : group_epochs (one_bucket 1) (uses_from 1 (2 ∷ 1 ∷ 2 ∷ [])) ≡ 3
  -- no uses, no rows
  pub nothing_counted : group_rows (counting false) (one_bucket 1) (uses_from 1 []) ≡ []
  pub no_epochs : group_epochs (one_bucket 1) (uses_from 1 []) ≡ 0
  -- one row an epoch: valid where the key has no other epoch
  pub summed : group_rows (summing true) (record { buckets = 1; ways = 8; refresh = 1 }) (uses_from 1 (1 ∷ 1 ∷ 2 ∷ []))
      ≡ row_of 1 Invalid 1 2 1 ∷ row_of 1 Invalid 2 2 2 ∷ row_of 2 Valid 1 1 3 ∷ []
  pub never_cut : group_rows (summing true) (one_bucket 8) (uses_from 1 (1 ∷ 1 ∷ 2 ∷ []))
      ≡ row_of 1 Valid 1 1 3 ∷ row_of 2 Valid 1 1 3 ∷ []
