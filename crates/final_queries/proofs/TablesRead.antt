-- What a valid final says of the tables that it reads.
use Rattle.std.proofs.{Common.{◌≡◌, ℕ, ◌<◌, List, Some, length, map, refl, subst, arith, length-append}, lemmas.List.length-map}
use Rattle.std.{proofs.lemmas.Option.{slice_get_within, get_or_from_slice_get, slice_get-map}, specs.List.All}
use Rattle.std.specs.Prelude.{option_map, slice_get}
use Rattle.epoch_model.specs.Keys.{IsAscending}
use Rattle.query_lang.specs.declared.{fold.{TypedExpr.TypedExpr, TypedFold.TypedFold}, typed.TypedFinal.TypedFinal}
use Rattle.query_lang.specs.{declared.typed.TypedFinalOp.TypedFinalOp, Folds.{IsValidFold, IsValidTerm, fold_args}, Terms.term_of}
use Rattle.query_lang.specs.TypedQueries.{Shape, shape_at, IsValidFinal, IsValidFinalOp, final_shape, AreSlots, AreValidWords}
use Rattle.final_queries.specs.{declared.table.Table.Table, Finals.{columns_of, rows_read, read_at, table_shape, IsTable}}

pub operator_valid : (names : ℕ) (folds : List TypedFold) (shapes : List Shape) (one : TypedFinal) (op : TypedFinalOp) → one.op ≡ op
    → IsValidFinal names folds shapes one → IsValidFinalOp folds shapes (final_shape one) op
operator_valid names folds shapes one op e v = subst (IsValidFinalOp folds shapes (final_shape one)) e v.operator

pub table_within : (tables : List Table) (n : ℕ) → n < length (map table_shape tables) → n < length tables
table_within tables n h = subst (λ k. n < k) (length-map tables table_shape) h

-- the table with a number, and its rows that finals read
pub table_at : (tables : List Table) (n : ℕ) (t : Table) → slice_get tables n ≡ Some t → All IsTable tables → IsTable t
table_at tables n t e all = subst IsTable (get_or_from_slice_get tables n t t e) (all n t (slice_get_within tables n t e))

pub rows_at : (tables : List Table) (n : ℕ) (t : Table) → slice_get tables n ≡ Some t → rows_read t ≡ read_at tables n
rows_at tables n t e = rw e refl

-- what an operator needs of the table, which has so many columns
pub record IsLent (tables : List Table) (n : ℕ) (t : Table) (width : ℕ) : Type 0 where
  pub wide : (shape_at (map table_shape tables) n).width ≡ width
  pub columns : All (λ row. length (columns_of row) ≡ width) t.rows
  pub order : IsAscending (map (λ row. row.key) (rows_read t))

pub lent_at : (tables : List Table) (n : ℕ) (t : Table) (width : ℕ) → slice_get tables n ≡ Some t → width ≡ length t.columns
    → All IsTable tables → IsLent tables n t width
lent_at tables n t width e wide all =
    let is = table_at tables n t e all in
    record {
      wide = rw (wide, slice_get-map, e) refl;
      columns = λ k d within. let h = is.rows k d within in rw length-append (omega (arith, h.key, h.values, is.keys, wide));
      order = is.order;
    }

-- the words of the new columns of a `map` of a table with this width
pub words_valid : (width columns : ℕ) (values given : List TypedExpr) → width ≡ columns → given ≡ values → AreValidWords width values
    → All (λ e. IsValidTerm columns (term_of e)) given
words_valid width columns values given wide same valid = rw (same, ← wide) (λ i x h. (valid.0 i x h).0.0)

-- the slots of a `groupby`
pub slots_valid : (width columns : ℕ) (slots given : List ℕ) → width ≡ columns → given ≡ slots → AreSlots width slots
    → AreSlots columns given
slots_valid width columns slots given wide same valid = rw (same, ← wide) valid

-- a fold with a number
pub fold_valid : (folds : List TypedFold) (n : ℕ) (f : TypedFold) → slice_get folds n ≡ Some f → All IsValidFold folds → IsValidFold f
fold_valid folds n f e all = subst IsValidFold (get_or_from_slice_get folds n f f e) (all n f (slice_get_within folds n f e))

pub fold_args_of : (folds : List TypedFold) (n : ℕ) (f : TypedFold) (args given : List ℕ) → given ≡ args → slice_get folds n ≡ Some f
    → option_map fold_args (slice_get folds n) ≡ Some (length args) → fold_args f ≡ length given
fold_args_of folds n f args given same e all = let found = rw e at all in cc
