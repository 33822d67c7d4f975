-- What is shown of each groupby holds over all packets.
use Rattle.std.proofs.Common.{◌≡◌, ℕ, zero, suc, ◌+◌, ◌<◌, List, [], ◌∷◌, ◌++◌, Option, Some, None, length, get_or, map, true, refl, sym}
use Rattle.std.proofs.{Common.{ap, ◌∙◌, subst, arith, if◌then◌else◌}, lemmas.List.{length-map, Elements.{All-filter, All-map}}}
use Rattle.std.{proofs.lemmas.Option.{get_or_from_slice_get, slice_get_within}, specs.Prelude.option_and_then}
use Rattle.std.specs.List.{All, filter, flat_map, slice_get}
use Rattle.query_lang.specs.declared.{fold.TypedFold.TypedFold, typed.{Class.{Class, TheVariants.{Linear, Other}}, TypedQuery.TypedQuery}}
use Rattle.query_lang.specs.{Folds.{IsValidFold, folded, initial_state}, Streams.{Taking, takings}, Words.AreWords}
use Rattle.stage_plan.specs.Uses.{uses}
use Rattle.epoch_model.specs.{declared.tables.Row.Row, Epochs.{Use, Geometry, epochs, is_use_of}, Keys.Key}
use Rattle.epoch_model.{specs.Tables.{exact_row, epoch_rows, key_rows, keys_used}, proofs.KeyOrder.has-ascending}
use Rattle.epoch_entry.specs.Foldings.{folding_of, per_epoch}
use Rattle.fold_class.specs.Kinds.{class_of}
use Rattle.final_queries.specs.GroupTable.{Heading}
use Rattle.stage_plan.specs.{Planned.fold_at, Shape.{GroupShape, query_groups}}
use Rattle.query_tables.specs.Tables.{heading_of_shape}
use Rattle.enclosure_folds.specs.{declared.table.{BoundsRow.BoundsRow, Enclosed.Enclosed}, Bounds.Encloses}
use Rattle.enclosure_folds.specs.Check.{is_bounded, NoFaultMeansBounds}
use Rattle.enclosure_folds.specs.KeyBounds.{KeyBoundsEnclose, enclosed_by, enclosed_table, key_bounds, use_rows}
use Rattle.enclosure_folds.proofs.RowFacts.{all_of, has_use}
use Rattle.enclosed_query.specs.{EnclosedTables.{enclosed_from, enclosed_if, enclosed_tables}, Holding.{HoldsOver, ShownTablesHold}}
use Rattle.enclosed_query.proofs.{EndFacts.fold_there, ReadTables.keys_bounded, StreamWords.uses_words}

-- each key of the table has a packet
some_rows : (given : List Use) → All (λ key. 0 < length (use_rows given key)) (keys_used given)
some_rows given =
    all_of (λ key. 0 < length (use_rows given key)) (keys_used given)
    (λ key e. omega (
      arith,
      has_use key given (sym (has-ascending key (map (λ u. u.key) given)) ∙ e),
      length-map (filter (is_use_of key) given) (λ (u : Use). u.row),
    ))

-- the table of a linear fold

-- the fold over all packets of a key, from the initial state
abbrev key_fold : TypedFold → List Use → Key → List ℕ
key_fold f given key = folded f (initial_state f) (use_rows given key)

module _ (f : TypedFold) (g : Geometry) (given : List Use) where
  abbrev whole_row : Key → Row
  whole_row key = exact_row (folding_of f) key (length (epochs g given key)) (use_rows given key)

  one_whole_row : class_of f ≡ Linear → (key : Key) → key_rows (folding_of f) g given key ≡ whole_row key ∷ []
  one_whole_row e key =
      ap (λ c. if per_epoch c then epoch_rows (folding_of f) key (length (epochs g given key)) 1 (epochs g given key) else
      (whole_row key ∷ [])) e

  whole_rows : class_of f ≡ Linear → (keys : List Key) → flat_map (key_rows (folding_of f) g given) keys ≡ map whole_row keys
  whole_rows e [] = refl
  whole_rows e (key ∷ keys) = ap (λ rows. rows ++ flat_map (key_rows (folding_of f) g given) keys) (one_whole_row e _)
      ∙ ap (λ rows. whole_row key ∷ rows) (whole_rows e keys)

  keys_whole : (keys : List Key) → map (λ (row : Row). row.key) (map whole_row keys) ≡ keys
  keys_whole [] = refl
  keys_whole (key ∷ keys) = ap (λ ks. key ∷ ks) (keys_whole _)

  abbrev RowHolds : Row → Type 0
  RowHolds row = row.values ≡ key_fold f given row.key

  rows_whole : (keys : List Key) → All RowHolds (map whole_row keys)
  rows_whole keys = All-map RowHolds _ keys (λ k d lt. refl)

  -- the table of bounds of a monotone fold

  abbrev BoundsHold : BoundsRow → Type 0
  BoundsHold row = Encloses row.low row.high (key_fold f given row.key)

  rows_bounded : KeyBoundsEnclose → IsValidFold f → is_bounded Other f ≡ true → AreWords (initial_state f)
      → All (λ (u : Use). AreWords u.row) given → All BoundsHold (map (key_bounds f g given) (keys_used given))
  rows_bounded law valid mono words rows =
      All-map BoundsHold _ (keys_used given)
      (λ k d lt. let key = get_or (keys_used given) k d in
      law f g given key valid mono words
      (All-map AreWords _ (filter (is_use_of key) given)
      (All-filter _ (λ (u : Use). AreWords u.row) given rows))
      (some_rows _ k d lt))

  one_holds : KeyBoundsEnclose → IsValidFold f → is_bounded (class_of f) f ≡ true → AreWords (initial_state f)
      → All (λ (u : Use). AreWords u.row) given
      → (heading : Heading) (class : Class) → class_of f ≡ class → HoldsOver f given (enclosed_by class heading f g given)
  one_holds law valid bounded words rows heading Linear e = record {
    keys = ap (map (λ (row : Row). row.key)) (whole_rows e _) ∙ keys_whole _;
    rows = subst (All RowHolds) (sym (whole_rows e _)) (rows_whole _);
  }
  one_holds law valid bounded words rows heading Other e = record {
    keys = keys_bounded f g _ _;
    rows = rows_bounded law valid (sym (ap (λ c. is_bounded c f) e) ∙ bounded) words rows;
  }

-- what is shown of the groupby with a number

first_is : {x y : Enclosed} → Some x ≡ Some y → y ≡ x
first_is e = cc

module _ (q : TypedQuery) (g : Geometry) (packets : List (List ℕ)) (number : ℕ) (f : TypedFold) (at : fold_at q number ≡ Some f) where
  abbrev IsShownBy : Enclosed → Type 0
  IsShownBy t = (shape : GroupShape) × (t ≡ enclosed_table (heading_of_shape shape) f g (uses q number packets))

  shown_at : ((j : ℕ) → j < number → (h : TypedFold) × (fold_at q j ≡ Some h))
      → (start : ℕ) (shapes : List GroupShape) (n : ℕ) (t : Enclosed) → number ≡ start + n
      → slice_get (enclosed_from q g packets start shapes) n ≡ Some t → IsShownBy t
  shown_at before start [] n t e found = absurd cc
  shown_at before start (shape ∷ shapes) zero t e found =
      let same : start ≡ number = omega (arith, e) in
      let here : enclosed_if q g packets start shape (fold_at q start) ≡ enclosed_table (heading_of_shape shape) f g (uses q number packets)
      ∷ [] =
      ap (λ i. enclosed_if q g packets i shape (fold_at q i)) same ∙ ap (enclosed_if q g packets number shape) at in
      (shape, first_is (sym (ap (λ ts. slice_get (ts ++ enclosed_from q g packets (suc start) shapes) 0) here) ∙ found))
  shown_at before start (shape ∷ shapes) (suc n) t e found =
      let h = before start (omega (arith, e)) in
      let here : enclosed_if q g packets start shape (fold_at q start) ≡ enclosed_table (heading_of_shape shape) h.0 g
      (uses q start packets)
      ∷ [] = ap (enclosed_if q g packets start shape) h.1 in
      shown_at before (suc start) shapes n t (omega (arith, e)) (sym (ap
      (λ ts. slice_get (ts ++ enclosed_from q g packets (suc start) shapes) (suc n)) here) ∙ found)

-- a fold that is there is one of the query's
within_takings : (q : TypedQuery) (i : ℕ) (f : TypedFold) → fold_at q i ≡ Some f → i < length (takings q.streams)
within_takings q i f e = by_taking _ refl e
  where
    by_taking : (o : Option Taking) → slice_get (takings q.streams) i ≡ o
        → option_and_then (λ (t : Taking). slice_get q.folds t.fold_number) o ≡ Some f → i < length (takings q.streams)
    by_taking None is e = absurd cc
    by_taking (Some t) is e = slice_get_within (takings q.streams) i t is

one_of : (P : TypedFold → Type 0) (q : TypedQuery) (i : ℕ) (f : TypedFold) → All P q.folds → fold_at q i ≡ Some f → P f
one_of P q i f all e = by_taking _ e
  where
    by_taking : (o : Option Taking) → option_and_then (λ (t : Taking). slice_get q.folds t.fold_number) o ≡ Some f → P f
    by_taking None e = absurd cc
    by_taking (Some t) e = subst P (get_or_from_slice_get _ t.fold_number f f e)
        (all t.fold_number f (slice_get_within q.folds t.fold_number f e))

pub tables_hold : KeyBoundsEnclose → NoFaultMeansBounds → ShownTablesHold
unfolding enclosed_tables
tables_hold law no_fault q g packets valid none words packets_words i f t at found =
    let within = within_takings q i f at in
    let shown = shown_at q g packets i f at (λ j lt. fold_there (length q.names) q.folds [] q.streams valid.streams j
    (omega (arith, lt, within))) 0 (query_groups q) i t (omega arith) found in
    subst (HoldsOver f (uses q i packets)) (sym shown.1)
    (one_holds f g (uses q i packets) law (one_of IsValidFold q i f valid.folds at) (no_fault q i f none at)
    (one_of (λ (h : TypedFold). AreWords (initial_state h)) q i f words at)
    (uses_words q i packets valid packets_words) (heading_of_shape shown.0) (class_of f) refl)
