-- What is shown of groupbys holds over all packets, whatever the caches evicted meanwhile.
use Rattle.std.specs.Prelude.{◌≡◌, ℕ, List, All, slice_get, Some, None}
use Rattle.query_lang.specs.{declared.{fold.TypedFold.TypedFold, typed.TypedQuery.TypedQuery}, Folds.initial_state}
use Rattle.query_lang.specs.{TypedQueries.IsValidQuery, Words.AreWords}
use Rattle.stage_plan.specs.Uses.{uses}
use Rattle.epoch_model.specs.{Epochs.{Use, Geometry}, Tables.keys_used}
use Rattle.stage_plan.specs.Planned.{fold_at}
use Rattle.enclosure_folds.specs.{declared.table.Enclosed.Enclosed, Check.enclose_fault, Holding.HoldsFor, KeyBounds.use_rows}
use Rattle.enclosed_query.specs.EnclosedTables.{enclosed_tables}

-- there is a row for each key that has a packet, in ascending order, and the rows hold over all packets of their key
abbrev pub HoldsOver : TypedFold → List Use → Enclosed → Type 0
HoldsOver f given t = HoldsFor f (keys_used given) (use_rows given) t

-- What is shown of each groupby of the query holds over all of these packets.
abbrev pub ShownHolds : TypedQuery → Geometry → List (List ℕ) → Type 0
ShownHolds q g packets = (i : ℕ) (f : TypedFold) (t : Enclosed) → fold_at q i ≡ Some f
    → slice_get (enclosed_tables q g packets) i ≡ Some t → HoldsOver f (uses q i packets) t

-- the variables of the query's folds start from words
abbrev pub StartFromWords : List TypedFold → Type 0
StartFromWords folds = All (λ f. AreWords (initial_state f)) folds

-- For a valid query each of whose folds is linear or monotone, what is shown holds over all packets, with caches of every size.
abbrev pub ShownTablesHold : Type 0
ShownTablesHold = (q : TypedQuery) (g : Geometry) (packets : List (List ℕ)) → IsValidQuery q → enclose_fault q ≡ None
    → StartFromWords q.folds → All AreWords packets
    → ShownHolds q g packets
