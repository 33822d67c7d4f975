-- The tables of groupbys, stream by stream.
use Rattle.std.proofs.Common.{◌≡◌, ℕ, zero, suc, ◌+◌, List, [], ◌∷◌, ◌++◌, Option, Some, None, length, map, drop, refl, sym, ap, ◌∙◌, subst}
use Rattle.std.proofs.{Common.length-append, lemmas.List.{length-map, Elements.{All-nil, All-cons, All-map}}}
use Rattle.std.{proofs.lemmas.Option.{none-some, slice_get_within, get_or_from_slice_get}, specs.List.{All, filter_map, cons_option}}
use Rattle.std.specs.Prelude.{slice_get, option_map, option_and_then}
use Rattle.query_lang.specs.declared.{fold.TypedFold.TypedFold, typed.TypedOp.{TypedOp, TheVariants.{Filter, Map, Zip, Group}}}
use Rattle.query_lang.specs.{declared.typed.{TypedQuery.TypedQuery, TypedStream.TypedStream}, Folds.{IsValidFold, fold_args}}
use Rattle.query_lang.specs.{Streams.{Taking, takings, taking_of, stream}, TypedQueries.{IsValidOp, AreValidStreams, group_shape}}
use Rattle.epoch_model.specs.Epochs.{Geometry}
use Rattle.stage_plan.specs.Uses.{use_of, taken_by, uses}
use Rattle.epoch_entry.specs.Foldings.{folding_of}
use Rattle.stage_plan.specs.{Planned.fold_at, Shape.{GroupShape, text_at, shape_with, shape_made}}
use Rattle.final_queries.{specs.{Finals.{IsTable, table_shape}, FinalLaws.GroupTablesAreRead}, proofs.StateLengths.states_length}
use Rattle.query_tables.specs.{Tables.{query_table, table_if, tables_from, group_tables}, TableLaws.QueryTablesAreRead}

empty_drop : {A : Type 0} (i : ℕ) (x : A) (rest : List A) → drop i [] ≡ x ∷ rest → ⊥
empty_drop zero x rest e = cc
empty_drop (suc i) x rest e = cc

first_left : {A : Type 0} (xs rest : List A) (i : ℕ) (x : A) → drop i xs ≡ x ∷ rest → slice_get xs i ≡ Some x
first_left [] rest i x e = absurd (empty_drop i x rest e)
first_left (y ∷ xs) rest zero x e = cc
first_left (y ∷ xs) rest (suc i) x e = first_left xs rest i x e

others_left : {A : Type 0} (xs rest : List A) (i : ℕ) (x : A) → drop i xs ≡ x ∷ rest → drop (suc i) xs ≡ rest
others_left [] rest i x e = absurd (empty_drop i x rest e)
others_left (y ∷ xs) rest zero x e = cc
others_left (y ∷ xs) rest (suc i) x e = others_left xs rest i x e

valid_at : (folds : List TypedFold) (number : ℕ) (f : TypedFold) → All IsValidFold folds → slice_get folds number ≡ Some f → IsValidFold f
valid_at folds number f all e = subst IsValidFold (get_or_from_slice_get folds number f f e)
    (all number f (slice_get_within folds number f e))

module _ (law : GroupTablesAreRead) (q : TypedQuery) (g : Geometry) (packets : List (List ℕ)) (folds_valid : All IsValidFold q.folds) where
  -- the tables from this number on are those of these groupbys
  abbrev AreTablesOf : ℕ → List GroupShape → List Taking → Type 0
  AreTablesOf i shapes ts = All IsTable (tables_from q g packets i shapes)
      × (map table_shape (tables_from q g packets i shapes) ≡ map (group_shape q.folds) ts)

  -- the table of one groupby, with its fold
  one_read : (i : ℕ) (t : Taking) (f : TypedFold) (name args : ℕ) (columns : List ℕ) → IsValidFold f
      → slice_get (takings q.streams) i ≡ Some t → length columns ≡ length t.keys
      → IsTable (query_table q g packets i (shape_with q.names name columns args f) f)
  one_read i t f name args columns valid at wide =
      let texts : length (map (text_at q.names) columns) ≡ length t.keys = length-map columns (text_at q.names) ∙ wide in
      let given = stream q t.input packets in
      let long : All (λ u. length u.key ≡ length (map (text_at q.names) columns)) (map (use_of t) given) =
      All-map (λ u. length u.key ≡ length (map (text_at q.names) columns)) (use_of t) given
      (λ k d within. length-map t.keys _ ∙ sym texts) in
      law _ (folding_of f) g (uses q i packets) (subst (λ o. All (λ u. length u.key ≡ length (map (text_at q.names) columns))
      (taken_by q packets o)) (sym at) long)
      (λ rows. states_length f rows valid ∙ sym (length-map f.state_names (text_at q.names)))

  one_shape : (i : ℕ) (t : Taking) (f : TypedFold) (name args : ℕ) (columns : List ℕ) → slice_get q.folds t.fold_number ≡ Some f
      → length columns ≡ length t.keys
      → table_shape (query_table q g packets i (shape_with q.names name columns args f) f) ≡ group_shape q.folds t
  one_shape i t f name args columns fold wide =
      let texts : length (map (text_at q.names) columns) ≡ length t.keys = length-map columns (text_at q.names) ∙ wide in
      let states = length-map f.state_names (text_at q.names) in
      rw (length-append, texts, states, fold) refl

  -- a groupby with its fold, and those after it
  next_group : (o : Option TypedFold) (i : ℕ) (t : Taking) (name args : ℕ) (columns : List ℕ) (shapes : List GroupShape) (ts : List Taking)
      → slice_get q.folds t.fold_number ≡ o → option_map fold_args o ≡ Some args → slice_get (takings q.streams) i ≡ Some t
      → length columns ≡ length t.keys
      → AreTablesOf (suc i) shapes ts → AreTablesOf i (cons_option (option_map (shape_with q.names name columns args) o) shapes) (t ∷ ts)
  next_group None i t name args columns shapes ts fold there at wide more = absurd (none-some args there)
  next_group (Some f) i t name args columns shapes ts fold there at wide more =
      let shape = shape_with q.names name columns args f in
      let here : fold_at q i ≡ Some f = ap (option_and_then (λ (one : Taking). slice_get q.folds one.fold_number)) at ∙ fold in
      let table = query_table q g packets i shape f in
      let rest = tables_from q g packets (suc i) shapes in
      subst (λ o. All IsTable (table_if q g packets i shape o ++ rest)
      × (map table_shape (table_if q g packets i shape o ++ rest) ≡ map (group_shape q.folds) (t ∷ ts))) (sym here) (
        All-cons IsTable table rest (one_read i t f name args columns (valid_at q.folds t.fold_number f folds_valid fold) at wide) more.0,
        ap (λ s. s ∷ map table_shape rest) (one_shape i t f name args columns fold wide) ∙ ap (λ ss. group_shape q.folds t ∷ ss) more.1,
      )

  -- a stream, and those after it
  next_stream : (before : List TypedStream) (one : TypedStream) (op : TypedOp) (i : ℕ) (shapes : List GroupShape) (ts : List Taking)
      → IsValidOp q.folds before (length one.columns) op → drop i (takings q.streams) ≡ cons_option (taking_of op) ts
      → ((j : ℕ) → drop j (takings q.streams) ≡ ts → AreTablesOf j shapes ts)
      → AreTablesOf i (cons_option (shape_made q.names q.folds one op) shapes) (cons_option (taking_of op) ts)
  next_stream before one (Filter input condition) i shapes ts valid left more = more i left
  next_stream before one (Map input values) i shapes ts valid left more = more i left
  next_stream before one (Zip first second slots) i shapes ts valid left more = more i left
  next_stream before one (Group input keys f args) i shapes ts valid left more =
      let t : Taking = record { input = input; keys = keys; fold_number = f; args = args } in
      next_group (slice_get q.folds f) i t one.name.id (length args) one.columns shapes ts refl valid.1.all_args
      (first_left (takings q.streams) ts i t left) valid.2
      (more (suc i) (others_left (takings q.streams) ts i t left))

  all_streams : (before rest : List TypedStream) (i : ℕ) → AreValidStreams (length q.names) q.folds before rest
      → drop i (takings q.streams) ≡ takings rest
      → AreTablesOf i (filter_map (λ one. shape_made q.names q.folds one one.op) rest) (takings rest)
  all_streams before [] i valid left = (All-nil IsTable, refl)
  all_streams before (one ∷ rest) i valid left =
      next_stream before one one.op i (filter_map (λ s. shape_made q.names q.folds s s.op) rest) (takings rest) valid.0.operator left
      (λ j e. all_streams (before ++ one ∷ []) rest j valid.1 e)

pub group_tables_read : GroupTablesAreRead → QueryTablesAreRead
unfolding group_tables
group_tables_read law q g packets valid = all_streams law q g packets valid.folds [] q.streams 0 valid.streams refl
