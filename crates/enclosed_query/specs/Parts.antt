-- What is shown of groupbys in two parts: the tables that finals read, and the bounds that are shown instead of them.
use Rattle.std.specs.Prelude.{ℕ, List, [], slice_get, Option, Some, None, IfSome, option_and_then, option_map, unwrap_or}
use Rattle.final_queries.specs.declared.table.Table.{Table}
use Rattle.table_printer.specs.TableText.{table_text}
use Rattle.enclosure_folds.specs.declared.table.{BoundsTable.BoundsTable, Enclosed.Enclosed}
use Rattle.enclosure_folds.specs.declared.table.Enclosed.TheVariants as enclosed
use Rattle.enclosure_folds.specs.BoundsTables.{IsBoundsTable, bounds_text}

-- the bounds of a groupby that has some
abbrev pub bounds_shown : Enclosed → Option BoundsTable
bounds_shown (enclosed.Linear t) = None
bounds_shown (enclosed.Bounds t) = Some t

-- the bounds of the table with this number, where it has some
abbrev pub bounds_at : List (Option BoundsTable) → ℕ → Option BoundsTable
bounds_at bounds number = option_and_then (λ one. one) (slice_get bounds number)

-- bounds, where there are some, have the words that their names say
abbrev pub IsWholeIfThere : Option BoundsTable → Type 0
IsWholeIfThere bounds = IfSome bounds IsBoundsTable

-- the text of a table, or of the bounds that are shown instead of it
abbrev pub text_shown : Option BoundsTable → Table → List ℕ
text_shown None t = table_text t
text_shown (Some bounds) t = bounds_text bounds

-- the text of the table with this number
abbrev pub text_at : List (Option BoundsTable) → List Table → ℕ → List ℕ
text_at bounds tables number = unwrap_or (option_map (text_shown (bounds_at bounds number)) (slice_get tables number)) []
