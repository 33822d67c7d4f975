-- What finals make of rows that are those of parts is that again.
use Rattle.part_laws.proofs.Words.{◌≡◌, ℕ, List, [], ◌∷◌, ◌++◌, Option, Some, None, ap, ◌∙◌, find, option_map, cons_option, All-nil}
use Rattle.part_laws.proofs.Words.{All-cons, All-head, All-tail, Row, Key, by_test, TypedExpr, holds, expr_value, columns_of, plain_row}
use Rattle.part_laws.proofs.Words.{is_of_key, filtered_rows, mapped_row, mapped_rows, joined_rows}
use Rattle.part_laws.proofs.FinalRows.{filters_of_parts, maps_of_parts, joins_of_parts}
use Rattle.part_laws.specs.FinalParts.{rows_of_all, FiltersStayOfParts, MapsStayOfParts, JoinsStayOfParts}
use Rattle.std.proofs.Common.{All}

module _ (part_of : Key → ℕ) (n : ℕ) where
  abbrev IsThere : Row → Type 0
  IsThere row = part_of row.key ≡ n

  filtered_there : (condition : TypedExpr) (rows : List Row) → All IsThere rows → All IsThere (filtered_rows condition rows)
  filtered_there condition [] all = All-nil IsThere
  filtered_there condition (row ∷ rows) all =
      let more = filtered_there condition rows (All-tail IsThere row rows all) in
      by_test (holds (expr_value condition (columns_of row)))
      (λ e. rw e (All-cons IsThere (plain_row row.key row.values) (filtered_rows condition rows) (All-head IsThere row rows all) more))
      (λ e. rw e more)

  mapped_there : (values : List TypedExpr) (rows : List Row) → All IsThere rows → All IsThere (mapped_rows values rows)
  unfolding mapped_row
  mapped_there values [] all = All-nil _
  mapped_there values (row ∷ rows) all =
      All-cons IsThere (mapped_row values row) (mapped_rows values rows) (All-head IsThere row rows all)
      (mapped_there _ rows (All-tail IsThere row rows all))

  found_there : (row : Row) (o : Option Row) (rows : List Row) → IsThere row → All IsThere rows
      → All IsThere (cons_option (option_map (λ other. plain_row row.key (row.values ++ other.values)) o) rows)
  found_there row None rows there all = all
  found_there row (Some other) rows there all = All-cons IsThere (plain_row row.key (row.values ++ other.values)) rows there all

  joined_there : (right left : List Row) → All IsThere left → All IsThere (joined_rows left right)
  joined_there right [] all = All-nil IsThere
  joined_there right (row ∷ left) all =
      found_there row (find (is_of_key row.key) right) (joined_rows left right) (All-head IsThere _ left all)
      (joined_there _ left (All-tail IsThere row left all))

pub filters_stay : FiltersStayOfParts
filters_stay part_of parts condition whole rows are = record {
  all = ap (filtered_rows condition) are.all ∙ filters_of_parts condition rows parts;
  placed = λ n. filtered_there part_of n condition (rows n) (are.placed n);
}

pub maps_stay : MapsStayOfParts
maps_stay part_of parts values whole rows are = record {
  all = ap (mapped_rows values) are.all ∙ maps_of_parts values rows parts;
  placed = λ n. mapped_there part_of n values (rows n) (are.placed n);
}

pub joins_stay : JoinsStayOfParts
joins_stay part_of parts left_whole right_whole left right apart lefts rights = record {
  all = ap (λ rows. joined_rows rows right_whole) lefts.all
      ∙ (ap (joined_rows (rows_of_all left parts)) rights.all ∙ joins_of_parts part_of left right parts apart lefts.placed rights.placed);
  placed = λ n. joined_there part_of n (right n) (left n) (lefts.placed n);
}
