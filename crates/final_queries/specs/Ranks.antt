-- Rows by the order in which `top` takes them.
use Rattle.std.specs.Prelude.{ℕ, suc, Bool, true, not, List, [], ◌∷◌, Option, Some, None, if◌then◌else◌, ◌==◌, ◌&&◌, ◌||◌, nat_lt}
use Rattle.epoch_model.specs.declared.tables.Row.{Row}
use Rattle.final_queries.specs.{declared.top.Rank.Rank, Finals.{is_read, column_at}}

-- a row's rank by a column and its place
abbrev pub rank_of : ℕ → ℕ → Row → Rank
rank_of column place row = record { word = record { 0 = column_at column row }; place = place }

-- the ranks of the rows that are read, where the first row has this place
abbrev pub ranks_from : ℕ → ℕ → List Row → List Rank
ranks_from column place [] = []
ranks_from column place (row ∷ rows) = if is_read row.mark then rank_of column place row
    ∷ ranks_from column (suc place) rows else ranks_from column (suc place) rows

-- the one rank goes before the other
abbrev pub is_before : Rank → Rank → Bool
is_before a b = nat_lt b.word.0 a.word.0 || ((b.word.0 == a.word.0) && nat_lt a.place b.place)

-- the rank isn't after the last one that is kept
abbrev pub is_within : Option Rank → Rank → Bool
is_within None rank = true
is_within (Some last) rank = not (is_before last rank)
