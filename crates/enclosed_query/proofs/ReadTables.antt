-- What finals read of the groupbys of a query, groupby by groupby.
use Rattle.std.proofs.Common.{◌≡◌, ℕ, suc, List, [], ◌∷◌, ◌++◌, Option, Some, None, map, refl, sym, ap, ◌∙◌, subst}
use Rattle.std.{proofs.lemmas.List.Elements.{All-nil, All-cons, All-head, All-tail}, specs.List.All}
use Rattle.query_lang.specs.declared.{fold.TypedFold.TypedFold, typed.{Class.{Class, TheVariants.{Linear, Other}}, TypedQuery.TypedQuery}}
use Rattle.query_lang.specs.{Streams.takings, TypedQueries.{IsValidQuery, group_shape}}
use Rattle.stage_plan.specs.Uses.{uses}
use Rattle.epoch_model.{specs.{Epochs.{Use, Geometry}, Keys.{Key, IsAscending}}, proofs.KeyOrder.ascending-ascends}
use Rattle.epoch_entry.specs.Foldings.{folding_of}
use Rattle.fold_class.specs.Kinds.{class_of}
use Rattle.final_queries.specs.{declared.table.{Table.Table, TableKind.{TableKind, TheVariants.Group}}, Finals.{IsTable, table_shape}}
use Rattle.final_queries.specs.GroupTable.{group_table}
use Rattle.stage_plan.specs.{Planned.fold_at, Shape.{GroupShape, query_groups}}
use Rattle.query_tables.specs.{Tables.{heading_of_shape, table_if, tables_from, group_tables}, TableLaws.QueryTablesAreRead}
use Rattle.enclosure_folds.specs.{declared.table.BoundsRow.BoundsRow, BoundsTables.ExactTablesAreRead}
use Rattle.enclosure_folds.specs.KeyBounds.{TriplesGiveWholeTables, bounds_table, enclosed_by, key_bounds}
use Rattle.enclosure_folds.specs.Shown.{MayBeShown, MayBeShownBy, shown, shown_by}
use Rattle.enclosed_query.specs.EnclosedTables.{enclosed_if, enclosed_from, enclosed_tables, table_read}
use Rattle.enclosed_query.specs.Reading.{IsWhole, EnclosedTablesAreRead}

-- the keys of rows of bounds
pub keys_bounded : (f : TypedFold) (g : Geometry) (given : List Use) (keys : List Key)
    → map (λ (row : BoundsRow). row.key) (map (key_bounds f g given) keys) ≡ keys
keys_bounded f g given [] = refl
keys_bounded f g given (key ∷ keys) = ap (λ ks. key ∷ ks) (keys_bounded f g _ _)

module _ (exact : ExactTablesAreRead) (q : TypedQuery) (g : Geometry) (packets : List (List ℕ)) where
  one_read : (class : Class) (shape : GroupShape) (f : TypedFold) (given : List Use)
      → IsTable (group_table (heading_of_shape shape) (folding_of f) g given)
      → IsWhole (enclosed_by class (heading_of_shape shape) f g given)
      → IsTable (table_read (enclosed_by class (heading_of_shape shape) f g given))
  one_read Linear shape f given table whole = table
  one_read Other shape f given table whole =
      exact (bounds_table (heading_of_shape shape) f g given) whole (subst IsAscending (sym (keys_bounded f g _ _))
      (ascending-ascends (map (λ u. u.key) given)))

  read_if : (o : Option TypedFold) (i : ℕ) (shape : GroupShape) (shapes : List GroupShape)
      → (All IsTable (tables_from q g packets (suc i) shapes) → All IsWhole (enclosed_from q g packets (suc i) shapes)
      → All IsTable (map table_read (enclosed_from q g packets (suc i) shapes)))
      → All IsTable (table_if q g packets i shape o ++ tables_from q g packets (suc i) shapes)
      → All IsWhole (enclosed_if q g packets i shape o ++ enclosed_from q g packets (suc i) shapes)
      → All IsTable (map table_read (enclosed_if q g packets i shape o ++ enclosed_from q g packets (suc i) shapes))
  read_if None i shape shapes later tables whole = later tables whole
  read_if (Some f) i shape shapes later tables whole =
      let table = group_table (heading_of_shape shape) (folding_of f) g (uses q i packets) in
      let here = enclosed_by (class_of f) (heading_of_shape shape) f g (uses q i packets) in
      let more = tables_from q g packets (suc i) shapes in
      let rest = enclosed_from q g packets (suc i) shapes in
      All-cons IsTable (table_read here) (map table_read rest) (one_read (class_of f) shape f (uses q i packets)
      (All-head IsTable table more tables) (All-head IsWhole here rest whole))
      (later (All-tail IsTable table more tables) (All-tail IsWhole here rest whole))

  read_from : (i : ℕ) (shapes : List GroupShape) → All IsTable (tables_from q g packets i shapes)
      → All IsWhole (enclosed_from q g packets i shapes) → All IsTable (map table_read (enclosed_from q g packets i shapes))
  read_from i [] tables whole = All-nil IsTable
  read_from i (shape ∷ shapes) tables whole = read_if (fold_at q i) i shape shapes (read_from (suc i) shapes) tables whole

module _ (q : TypedQuery) (g : Geometry) (packets : List (List ℕ)) where
  one_shape : (class : Class) (shape : GroupShape) (f : TypedFold) (given : List Use)
      → table_shape (table_read (enclosed_by class (heading_of_shape shape) f g given)) ≡ table_shape
      (group_table (heading_of_shape shape) (folding_of f) g given)
  one_shape Linear shape f given = refl
  one_shape Other shape f given = refl

  shapes_if : (o : Option TypedFold) (i : ℕ) (shape : GroupShape) (shapes : List GroupShape)
      → map table_shape (map table_read (enclosed_from q g packets (suc i) shapes)) ≡ map table_shape
      (tables_from q g packets (suc i) shapes)
      → map table_shape (map table_read (enclosed_if q g packets i shape o ++ enclosed_from q g packets (suc i) shapes)) ≡ map table_shape
      (table_if q g packets i shape o ++ tables_from q g packets (suc i) shapes)
  shapes_if None i shape shapes later = later
  shapes_if (Some f) i shape shapes later =
      let rest = map table_shape (map table_read (enclosed_from q g packets (suc i) shapes)) in
      ap (λ s. s ∷ rest) (one_shape (class_of f) shape f (uses q i packets))
      ∙ ap (λ ss. table_shape (group_table (heading_of_shape shape) (folding_of f) g (uses q i packets)) ∷ ss) later

  shapes_from : (i : ℕ) (shapes : List GroupShape) → map table_shape (map table_read (enclosed_from q g packets i shapes)) ≡ map table_shape
      (tables_from q g packets i shapes)
  shapes_from i [] = refl
  shapes_from i (shape ∷ shapes) = shapes_if (fold_at q i) i shape shapes (shapes_from (suc i) shapes)

all_read : QueryTablesAreRead → ExactTablesAreRead → (q : TypedQuery) (g : Geometry) (packets : List (List ℕ)) → IsValidQuery q
    → All IsWhole (enclosed_tables q g packets) → All IsTable (map table_read (enclosed_tables q g packets))
unfolding enclosed_tables group_tables
all_read law exact q g packets valid whole = read_from exact q g packets 0 (query_groups q) (law q g packets valid).0 whole

all_shapes : QueryTablesAreRead → (q : TypedQuery) (g : Geometry) (packets : List (List ℕ)) → IsValidQuery q
    → map table_shape (map table_read (enclosed_tables q g packets)) ≡ map (group_shape q.folds) (takings q.streams)
unfolding enclosed_tables group_tables
all_shapes law q g packets valid = shapes_from q g packets 0 (query_groups q) ∙ (law q g packets valid).1

pub tables_read : QueryTablesAreRead → ExactTablesAreRead → EnclosedTablesAreRead
tables_read law exact = record { read = all_read law exact; shapes = all_shapes law }

-- the tables of bounds that are shown are whole

one_whole : TriplesGiveWholeTables → (kind : TableKind) (t : Table) → MayBeShownBy kind t → IsWhole (shown_by kind t)
one_whole law (Group Other depth epochs) t may = law t may.triples may.some_keys may.most_keys
one_whole law _ t may = tt

pub all_whole : TriplesGiveWholeTables → (tables : List Table) → All MayBeShown tables → All IsWhole (map shown tables)
all_whole law [] may = All-nil IsWhole
all_whole law (t ∷ tables) may =
    All-cons IsWhole (shown t) (map shown tables) (one_whole law t.kind t (All-head MayBeShown t tables may))
    (all_whole law tables (All-tail MayBeShown t tables may))
