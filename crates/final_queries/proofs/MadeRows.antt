-- The rows of a valid final may be read: they have its columns, and distinct keys in ascending order.
use Rattle.std.proofs.Common.{◌≡◌, ℕ, zero, suc, ◌+◌, ◌-◌, ◌<◌, ◌≤◌, Bool, true, List, [], ◌∷◌, ◌++◌, Option, Some, None, length, map, refl}
use Rattle.std.proofs.{Common.{sym, ap, ◌∙◌, subst, arith, length-append, map-id, get_or}, lemmas.{Bool.false≢true, List.Folds.find_at}}
use Rattle.std.proofs.lemmas.List.{length-map, Elements.{All-nil, All-head, All-tail, All-map, All-filter, filter_passes}}
use Rattle.std.{proofs.lemmas.Option.{slice_get_within, get_or_from_slice_get}, specs.List.{All, filter}}
use Rattle.std.specs.Prelude.{find, option_map, unwrap_or, slice_get, is_some}
use Rattle.query_lang.specs.declared.{fold.{TypedExpr.TypedExpr, TypedFold.TypedFold}, typed.TypedFinalOp.TypedFinalOp}
use Rattle.query_lang.specs.declared.typed.TypedFinalOp.TheVariants.{Filter, Map, Group, Join, Top}
use Rattle.query_lang.specs.{Folds.{folded, initial_state, fold_states, IsValidFold}, Streams.expr_value}
use Rattle.query_lang.specs.TypedQueries.{Shape, shape_at, IsValidFinalOp, final_shape}
use Rattle.epoch_model.specs.{declared.tables.Row.Row, Keys.{Key, ascending, AreAbove, IsAscending}, TableLaws.KeysAscend}
use Rattle.epoch_model.proofs.KeyLists.{by_test}
use Rattle.final_queries.specs.{declared.table.Table.Table, Finals.{is_read, is_of_key, plain_row, columns_of, mapped_row, mapped_rows}}
use Rattle.final_queries.specs.Finals.{grouped_key, grouped_args, grouped_rows, joined_rows, read_at, name_text, final_rows, table_shape}
use Rattle.final_queries.{specs.{Finals.{HasColumns, IsTable}, FinalLaws.FinalTablesAreRead, Joining.reads}, proofs.KeyLists.all_ascending}
use Rattle.final_queries.proofs.{StateLengths.states_length, TablesRead.fold_valid}

abbrev key_of : Row → Key
key_of row = row.key

-- rows of these columns, in the order of their keys
record AreLent (keys others : ℕ) (rows : List Row) : Type 0 where
  columns : All (HasColumns keys others) rows
  order : IsAscending (map key_of rows)

-- such rows that are all read
record AreMade (keys others : ℕ) (rows : List Row) : Type 0 where
  lent : AreLent keys others rows
  read : reads rows ≡ rows

-- a row of a final for each thing of a list
module _ {X : Type 0} (key : X → Key) (values : X → List ℕ) where
  all_read : (xs : List X) → reads (map (λ x. plain_row (key x) (values x)) xs) ≡ map (λ x. plain_row (key x) (values x)) xs
  all_read [] = refl
  all_read (x ∷ xs) = ap (λ rows. plain_row (key x) (values x) ∷ rows) (all_read xs)

  same_keys : (xs : List X) → map key_of (map (λ x. plain_row (key x) (values x)) xs) ≡ map key xs
  same_keys [] = refl
  same_keys (x ∷ xs) = ap (λ keys. key x ∷ keys) (same_keys xs)

  plain_made : (keys others : ℕ) (xs : List X) → All (λ x. length (key x) ≡ keys) xs → All (λ x. length (values x) ≡ others) xs
      → IsAscending (map key xs) → AreMade keys others (map (λ x. plain_row (key x) (values x)) xs)
  plain_made keys others xs k v order = record {
    lent = record {
      columns = All-map (HasColumns keys others) (λ x. plain_row (key x) (values x)) xs
          (λ i d within. record { key = k i d within; values = v i d within });
      order = rw (same_keys xs) order;
    };
    read = all_read xs;
  }

-- rows for some of those of a table

kept_above : (low : Key) (p : Row → Bool) (rows : List Row) → AreAbove low (map key_of rows) → AreAbove low (map key_of (filter p rows))
kept_above low p [] above = tt
kept_above low p (row ∷ rows) above = by_test (p row)
    (λ t. rw t (above.0, kept_above low p rows above.1))
    (λ t. rw t (kept_above low p rows above.1))

kept_in_order : (p : Row → Bool) (rows : List Row) → IsAscending (map key_of rows) → IsAscending (map key_of (filter p rows))
kept_in_order p [] order = tt
kept_in_order p (row ∷ rows) order = by_test (p row)
    (λ t. rw t (kept_above row.key p rows order.0, kept_in_order p rows order.1))
    (λ t. rw t (kept_in_order p rows order.1))

kept_made : (values : Row → List ℕ) (p : Row → Bool) (keys others o : ℕ) (rows : List Row) → AreLent keys others rows
    → ((row : Row) → HasColumns keys others row → p row ≡ true → length (values row) ≡ o)
    → AreMade keys o (map (λ row. plain_row row.key (values row)) (filter p rows))
kept_made values p keys others o rows lent long =
    let has = All-filter p (HasColumns keys others) rows lent.columns in
    plain_made (λ row. row.key) values keys o (filter p rows) (λ i d within. (has i d within).key)
    (λ i d within. long _ (has i d within) (filter_passes p rows i d within)) (kept_in_order p rows lent.order)

-- `filter` and `top`
copies_made : (p : Row → Bool) (keys others : ℕ) (rows : List Row) → AreLent keys others rows
    → AreMade keys others (map (λ row. plain_row row.key row.values) (filter p rows))
copies_made p keys others rows lent = kept_made (λ row. row.values) p keys others others rows lent (λ row has t. has.values)

-- `map`: the same keys, and more values
mapped_made : (keys others : ℕ) (values : List TypedExpr) (rows : List Row) → AreLent keys others rows
    → AreMade keys (others + length values) (mapped_rows values rows)
unfolding mapped_row
mapped_made keys others values rows lent =
    plain_made (λ row. row.key) (λ row. row.values ++ map (λ e. expr_value e (columns_of row)) values) keys (others + length values) rows
    (λ i d within. (lent.columns i d within).key)
    (λ i d within. let o = (lent.columns i d within).values in simp (length-append, length-map) (omega arith)) lent.order

-- `join`: the left keys that are also on the right, with the values of both

by_option : {P : Type 0} (o : Option Row) → (o ≡ None → P) → ((row : Row) → o ≡ Some row → P) → P
by_option None none some = none refl
by_option (Some row) none some = some row refl

module _ (right : List Row) where
  abbrev other_of : Row → Option Row
  other_of row = find (is_of_key row.key) right

  abbrev both_of : Row → List ℕ
  both_of row = row.values ++ unwrap_or (option_map (λ other. other.values) (other_of row)) []

  joined_is : (left : List Row)
      → joined_rows left right ≡ map (λ row. plain_row row.key (both_of row)) (filter (λ row. is_some (other_of row)) left)
  joined_is [] = refl
  joined_is (row ∷ left) = by_option (other_of row)
      (λ e. rw e (joined_is left))
      (λ other e. rw (e, joined_is left) (rw e refl))

  both_long : (others k o : ℕ) (row : Row) → length row.values ≡ others → All (HasColumns k o) right → is_some (other_of row) ≡ true
      → length (both_of row) ≡ others + o
  both_long others k o row long lent found = by_option (other_of row)
      (λ e. absurd (false≢true (rw e at found)))
      (λ other e.
      let here = sym (find_at (is_of_key row.key) right) ∙ e in
      let within = slice_get_within right _ other here in
      let wide = (subst (HasColumns k o) (get_or_from_slice_get right _ other other here) (lent _ other within)).values in
      rw (e, length-append) (omega arith))

  joined_made : (keys others k o : ℕ) (left : List Row) → AreLent keys others left → AreLent k o right
      → AreMade keys (others + o) (joined_rows left right)
  joined_made keys others k o left lent lent_right =
      rw (joined_is left) (kept_made both_of (λ row. is_some (other_of row)) keys others (others + o) left lent
      (λ row has found. both_long others k o row has.values lent_right.columns found))

-- `groupby`: ascending keys, each with a state
grouped_made : KeysAscend → (keys : List ℕ) (o : Option TypedFold) (args : List ℕ) (rows : List Row)
    → ((f : TypedFold) → o ≡ Some f → IsValidFold f)
    → AreMade (length keys) (unwrap_or (option_map fold_states o) 0) (grouped_rows keys o args rows)
grouped_made ascend keys None args rows valid =
    record { lent = record { columns = All-nil (HasColumns (length keys) 0); order = tt }; read = refl }
grouped_made ascend keys (Some f) args rows valid =
    let given = map (grouped_key keys) rows in
    plain_made (λ key. key) (λ key. folded f (initial_state f) (grouped_args keys args rows key)) (length keys) (fold_states f)
    (ascending given)
    (all_ascending (λ key. length key ≡ length keys) given
    (All-map (λ key. length key ≡ length keys) (grouped_key keys) rows (λ k d within. length-map keys _)))
    (λ k d within. states_length f (grouped_args keys args rows (get_or (ascending given) k d)) (valid f refl))
    (rw map-id (ascend given).0)

-- a table that may be read has such rows

record Lends (shape : Shape) (rows : List Row) : Type 0 where
  keys : shape.keys ≤ shape.width
  lent : AreLent shape.keys (shape.width - shape.keys) rows

lends_at : (tables : List Table) (number : ℕ) → All IsTable tables → number < length (map table_shape tables)
    → Lends (shape_at (map table_shape tables) number) (read_at tables number)
lends_at [] number all within = absurd (omega arith)
lends_at (t ∷ tables) zero all within =
    let is = All-head IsTable t tables all in
    record {
      keys = is.keys;
      lent = record {
        columns = All-filter (λ row. is_read row.mark) (HasColumns t.keys (length t.columns - t.keys)) t.rows is.rows;
        order = is.order;
      };
    }
lends_at (t ∷ tables) (suc number) all within = lends_at tables number (All-tail IsTable t tables all) (omega arith)

-- the rows of a final
rows_made : KeysAscend → (folds : List TypedFold) (tables : List Table) (made : Shape) (op : TypedFinalOp) → All IsValidFold folds
    → All IsTable tables
    → IsValidFinalOp folds (map table_shape tables) made op → AreMade made.keys (made.width - made.keys) (final_rows folds tables op)
rows_made ascend folds tables made (Filter input condition) valid all h = rw h.2 (copies_made _ _ _ _ (lends_at tables input all h.0).lent)
rows_made ascend folds tables made (Map input values) valid all h =
    let from = lends_at tables input all h.0 in
    let shape = shape_at (map table_shape tables) input in
    let k = from.keys in
    let wide : made.width - shape.keys ≡ shape.width - shape.keys + length values = omega arith in
    rw (h.3, wide) (mapped_made _ _ values _ from.lent)
rows_made ascend folds tables made (Group input keys f args) valid all h =
    let states = unwrap_or (option_map fold_states (slice_get folds f)) 0 in
    let others : length keys + states - length keys ≡ states = omega arith in
    rw (h.3, others) (grouped_made ascend keys (slice_get folds f) args (read_at tables input) (λ fold e. fold_valid folds f fold e valid))
rows_made ascend folds tables made (Join left right) valid all h =
    let first = lends_at tables left all h.0 in
    let second = lends_at tables right all h.1 in
    let a = shape_at (map table_shape tables) left in
    let b = shape_at (map table_shape tables) right in
    let k = first.keys in
    let wide : made.width - a.keys ≡ a.width - a.keys + (b.width - b.keys) = omega arith in
    rw (h.4, wide) (joined_made (read_at tables right) _ _ _ _ (read_at tables left) first.lent second.lent)
rows_made ascend folds tables made (Top input column kept) valid all h = rw h.4 (copies_made _ _ _ _ (lends_at tables input all h.0).lent)

pub final_read : KeysAscend → FinalTablesAreRead
final_read ascend names folds tables one folds_valid valid all =
    let made = rows_made ascend folds tables (final_shape one) one.op folds_valid all valid.operator in
    let wide = length-map one.columns (name_text names) in (
      record { keys = rw wide valid.keys; rows = rw wide made.lent.columns; order = rw made.read made.lent.order },
      rw wide refl,
    )
