-- The tables with one more final.
use Rattle.std.proofs.{Common.{refl, ◌≡◌, ℕ, ◌+◌, List, [], ◌∷◌, ◌++◌, length, map, ap, ◌∙◌, arith, length-append}, lemmas.List.map-append}
use Rattle.std.{proofs.lemmas.List.Elements.All-push, specs.List.All}
use Rattle.query_lang.specs.{declared.{fold.TypedFold.TypedFold, typed.TypedFinal.TypedFinal}, TypedQueries.{AreValidFinals, final_shape}}
use Rattle.final_queries.specs.{declared.table.Table.Table, Finals.{IsTable, table_shape, final_table, with_finals}}

-- these tables, and then those of the finals that are left, are the whole, this many
pub record IsOnTheWay (names : List (List ℕ)) (folds : List TypedFold) (all : List Table) (many : ℕ) (known : List Table)
    (left : List TypedFinal) : Type 0 where
  pub whole : with_finals names folds known left ≡ all
  pub valid : AreValidFinals (length names) folds (map table_shape known) left
  pub read : All IsTable known
  pub count : length known + length left ≡ many

pub one_more : (names : List (List ℕ)) (folds : List TypedFold) (all : List Table) (many : ℕ) (known after : List Table) (made : Table)
    (one : TypedFinal) (left rest : List TypedFinal)
    → left ≡ one ∷ rest → made ≡ final_table names folds known one → IsTable made → table_shape made ≡ final_shape one → after ≡ known
    ++ made ∷ []
    → IsOnTheWay names folds all many known left → IsOnTheWay names folds all many after rest
one_more names folds all many known after made one left rest next table is shape pushed way =
    let shapes : map table_shape after ≡ map table_shape known ++ final_shape one ∷ [] = rw (pushed, map-append, shape) refl in
    let longer = ap length pushed ∙ length-append known (made ∷ []) in
    let shorter = ap length next in
    record {
      whole = rw (pushed, table) (rw next at way.whole);
      valid = rw shapes (rw next at way.valid).1;
      read = rw pushed (All-push IsTable known made way.read is);
      count = omega (arith, way.count, longer, shorter);
    }
