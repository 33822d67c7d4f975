-- The rows that `top` keeps, by their ranks.
use Rattle.std.specs.Prelude.{ℕ, suc, ◌&&◌, List, [], ◌∷◌, Option, if◌then◌else◌}
use Rattle.epoch_model.specs.declared.tables.Row.{Row}
use Rattle.final_queries.specs.{declared.top.Rank.Rank, Finals.{is_read, plain_row}, Ranks.{rank_of, is_within}}

-- the rows that are read and whose ranks are within the last one, where the first row has this place
abbrev pub kept_from : Option Rank → ℕ → ℕ → List Row → List Row
kept_from last column place [] = []
kept_from last column place (row ∷ rows) =
    if is_read row.mark && is_within last (rank_of column place row)
    then plain_row row.key row.values ∷ kept_from last column (suc place) rows
    else kept_from last column (suc place) rows
