-- The table of closed epochs, and what is shown of them after any events.
use Rattle.std.proofs.Common.{◌≡◌, ℕ, suc, ◌*◌, ◌<◌, true, false, ◌||◌, List, [], ◌∷◌, length, get_or, map, refl, sym, ap, ◌∙◌, subst}
use Rattle.std.proofs.Common.{arith, length-append, if◌then◌else◌}
use Rattle.std.{proofs.lemmas.List.Elements.{All-nil, All-cons, All-head, All-tail, All-append, All-map}, specs.List.{All, flat_map}}
use Rattle.query_lang.specs.declared.{fold.TypedFold.TypedFold, typed.Class.Class}
use Rattle.query_lang.specs.declared.typed.Class.TheVariants as class
use Rattle.query_lang.specs.Folds as Folds
use Rattle.query_lang.specs.{Folds.{fold_states, initial_state, IsValidFold}, Words.AreWords}
use Rattle.epoch_model.specs.{declared.tables.Row.Row, Epochs.Geometry, Keys.{Key, ArgRow, ascending, has}, Laws.{HasRoom, rows_given}}
use Rattle.epoch_model.specs.{Machine.{Epoch, Event, empty_machine, lists_of, run}, TableLaws.keys_given, Tables.{Folding, folded, mark_of}}
use Rattle.epoch_model.specs.Tables.{epochs_shown, epoch_rows, exact_row, closed_key_rows, closed_keys, closed_rows, closed_epochs}
use Rattle.epoch_model.{specs.Timeline.IsSwept, proofs.{EpochLists.keys_of, KeyLists.{by_test, key_eq-true}}}
use Rattle.epoch_model.proofs.{KeyOrder.{ascending-ascends, has-ascending}, Rows.no_row_is_lost_lem}
use Rattle.epoch_model.proofs.TableRows.{some, has-some, closed-lists, exact_rows_fold_all_packets_lem, flat_map-single}
use Rattle.fold_class.specs.Kinds.{class_of}
use Rattle.epoch_entry.specs.{Bounds.IsBoundsKindOf, Foldings.{folding_of, per_epoch}, Kinds.Sizes, Purposes.IsBoundingKind}
use Rattle.final_queries.specs.{declared.table.TableKind.TheVariants.Group, FinalLaws.AlikeFoldingsMakeOneTable, Finals.HasColumns}
use Rattle.final_queries.specs.GroupTable.{Heading, closed_table}
use Rattle.enclosure_folds.specs.declared.table.BoundsRow.{BoundsRow}
use Rattle.enclosure_folds.specs.declared.table.Enclosed.TheVariants as enclosed
use Rattle.enclosure_folds.specs.{Bounds.{all_rows, Encloses}, Check.is_bounded, Closed.{closed_bounds, closed_bounds_table, closed_by}}
use Rattle.enclosure_folds.specs.{Closed.{ClosedTablesGiveBounds, ClosedBoundsEnclose, ClosedTablesHold}, Holding.{HoldsAfter, TakesWords}}
use Rattle.enclosure_folds.specs.{KeyBounds.{HasTriples, states_in, table_bounds}, Shown.{shown_by, MayBeShownBy, IsHeadingOf}}
use Rattle.enclosure_folds.proofs.{BoundLemmas.{enclosed, some_pieces}, RowFacts.{all_of, rows_give, gives}, ShownFacts.long_bounds}

-- the keys of closed epochs, and their row lists

key_from : (n : ℕ) (closed : List Epoch) → All (λ epoch. length epoch.key ≡ n) closed → (key : Key) → has key (keys_of closed) ≡ true
    → length key ≡ n
key_from n [] all key e = absurd cc
key_from n (epoch ∷ closed) all key e = by_test _
    (λ t. rw (key_eq-true epoch.key key t) at (All-head (λ (x : Epoch). length x.key ≡ n) epoch closed all))
    (λ t. key_from n closed (All-tail (λ x. length x.key ≡ n) epoch _ all) key
    (sym (ap (λ b. b || has key (keys_of closed)) t) ∙ e))

keys_have : (n : ℕ) (closed : List Epoch) → All (λ epoch. length epoch.key ≡ n) closed → All (λ key. length key ≡ n) (closed_keys closed)
keys_have n closed all = all_of _ _
    (λ key e. key_from n _ all _ (sym (has-ascending _ _) ∙ e))

some_length : {A : Type 0} (xs : List A) → some xs ≡ true → 0 < length xs
some_length [] e = absurd cc
some_length (x ∷ xs) e = omega arith

have_lists : (closed : List Epoch) → All (λ key. 0 < length (lists_of key closed)) (closed_keys closed)
have_lists closed =
    all_of (λ key. 0 < length (lists_of key closed)) _
    (λ key e. some_length (lists_of key closed) (sym (has-some key closed) ∙ (sym (has-ascending key (keys_of _)) ∙ e)))

-- the table of closed epochs, with a row for each

module _ (folding : Folding) (closed : List Epoch) (per : folding.row_per_epoch ≡ true) where
  rows_are : (key : Key) → closed_key_rows folding closed key ≡ epoch_rows folding key (length (lists_of key closed)) 1
      (lists_of key closed)
  rows_are key =
      ap (λ b. if b then epoch_rows folding key (length (lists_of key closed)) 1 (lists_of key closed) else
      (exact_row folding key (length (lists_of key closed)) (all_rows (lists_of key closed)) ∷ [])) per

  module _ (words n : ℕ) (long : (rows : List ArgRow) → length (folded folding rows) ≡ n) where
    epochs_have : (key : Key) (count number : ℕ) (lists : List (List ArgRow)) → length key ≡ words
        → All (HasColumns words n) (epoch_rows folding key count number lists)
    epochs_have key count number [] e = All-nil (HasColumns words n)
    epochs_have key count number (rows ∷ lists) e =
        All-cons (HasColumns words n) (record {
          key = key;
          mark = mark_of count;
          epoch = number;
          epochs = epochs_shown count;
          values =
              folded folding rows;
        }) (epoch_rows folding key count (suc number) lists)
        (record { key = e; values = long rows }) (epochs_have key count (suc number) lists e)

    all_have : (keys : List Key) → All (λ key. length key ≡ words) keys
        → All (HasColumns words n) (flat_map (closed_key_rows folding closed) keys)
    all_have [] all = All-nil (HasColumns words n)
    all_have (key ∷ keys) all =
        All-append (HasColumns words n) (closed_key_rows folding closed key) (flat_map (closed_key_rows folding closed) keys)
        (subst (All (HasColumns words n)) (sym (rows_are key)) (epochs_have key (length (lists_of key closed)) 1 (lists_of key closed)
        (All-head (λ k. length k ≡ words) key keys all)))
        (all_have keys (All-tail (λ k. length k ≡ words) key keys all))

-- the table of a fold's closed epochs, by entries for bounds

module _ (heading : Heading) (f : TypedFold) (sizes : Sizes) (folding : Folding) (opening absorbing : ℕ) (closed : List Epoch)
    (is : IsHeadingOf f heading) where
  bounds_are : IsBoundsKindOf f sizes folding opening absorbing → table_bounds (closed_table heading folding closed) ≡ closed_bounds_table
      heading f closed
  bounds_are kind =
      gives heading (closed_epochs closed) (closed_rows folding closed) (map (closed_bounds f closed) (closed_keys closed)) (fold_states f)
      is.states
      (rows_give f sizes folding opening absorbing kind (λ key. lists_of key closed) (closed_key_rows folding closed)
      (rows_are folding closed kind.row_per_epoch)
      (closed_keys closed) (ascending-ascends (keys_of closed)) (have_lists closed))

  module _ (alike : AlikeFoldingsMakeOneTable) where
    by_class : (c : Class) → IsBoundingKind c f sizes folding opening absorbing
        → shown_by (Group c heading.depth (closed_epochs closed)) (closed_table heading folding closed) ≡ closed_by c heading f closed
    by_class class.Linear kind = ap enclosed.Linear (alike.by_closed heading folding (folding_of f) closed
        (record { row_per_epoch = kind.row_per_epoch; states = λ rows. kind.folded rows }))
    by_class class.Other kind = ap enclosed.Bounds (bounds_are kind)

    shown_is : IsBoundingKind (class_of f) f sizes folding opening absorbing
        → shown_by (Group heading.class heading.depth (closed_epochs closed)) (closed_table heading folding closed) ≡ closed_by (class_of f)
        heading f closed
    shown_is kind = ap (λ c. shown_by (Group c heading.depth (closed_epochs closed)) (closed_table heading folding closed)) is.class
        ∙ by_class _ kind

  module _ (valid : IsValidFold f) (keys : All (λ epoch. length epoch.key ≡ length heading.key_names) closed) where
    triples : IsBoundsKindOf f sizes folding opening absorbing → HasTriples (closed_table heading folding closed)
    triples kind =
        let wide = length-append heading.key_names heading.state_names in
        let states : 3 * fold_states f ≡ 3 * states_in (closed_table heading folding closed) = omega (arith, wide, is.states) in
        let rows = all_have folding closed kind.row_per_epoch (length heading.key_names) (3 * fold_states f)
        (λ rows. ap (λ l. length l) (kind.folded rows) ∙ long_bounds f valid rows)
        (closed_keys closed) (keys_have (length heading.key_names) closed keys) in record {
          keys = omega (arith, wide);
          rows = subst (λ n. All (HasColumns (length heading.key_names) n) (closed_rows folding closed)) states rows;
        }

    may_by : (c : Class) → IsBoundingKind c f sizes folding opening absorbing
        → MayBeShownBy (Group c heading.depth (closed_epochs closed)) (closed_table heading folding closed)
    may_by class.Linear kind = tt
    may_by class.Other kind = record { triples = triples kind; some_keys = is.some_keys; most_keys = is.most_keys }

    may_be : IsBoundingKind (class_of f) f sizes folding opening absorbing
        → MayBeShownBy (Group heading.class heading.depth (closed_epochs closed)) (closed_table heading folding closed)
    may_be kind = subst (λ c. MayBeShownBy (Group c heading.depth (closed_epochs closed)) (closed_table heading folding closed))
        (sym is.class) (may_by (class_of f) kind)

pub closed_give : AlikeFoldingsMakeOneTable → ClosedTablesGiveBounds
closed_give alike = record {
  shown = λ heading f sizes folding opening absorbing closed kind is. shown_is heading f sizes folding opening absorbing closed is alike
      kind;
  may = λ heading f sizes folding opening absorbing closed kind is valid keys. may_be heading f sizes folding opening absorbing closed is
      valid keys kind;
}

-- after any events that leave no epoch open

keys_through : {A : Type 0} (key_of : A → Key) (row_of : Key → A) → ((key : Key) → key_of (row_of key) ≡ key) → (keys : List Key)
    → map key_of (map row_of keys) ≡ keys
keys_through key_of row_of same [] = refl
keys_through key_of row_of same (key ∷ keys) = ap (λ k. k ∷ map key_of (map row_of keys)) (same key)
    ∙ ap (λ ks. key ∷ ks) (keys_through key_of row_of same keys)

module _ (g : Geometry) (events : List Event) (room : HasRoom g) (swept : IsSwept (run g events (empty_machine g))) where
  abbrev left : List Epoch
  left = (run g events (empty_machine g)).closed

  rows_all : (key : Key) → all_rows (lists_of key left) ≡ rows_given key events
  rows_all key = ap all_rows (closed-lists g _ _ swept) ∙ no_row_is_lost_lem g events key room

  -- a folding that has one row for each key
  abbrev plain : Folding
  plain = record { step = λ state row. state; initial = []; row_per_epoch = false }

  keys_are : closed_keys left ≡ ascending (keys_given events)
  keys_are =
      sym (keys_through _ _
      (λ key. refl) _)
      ∙ (ap (map (λ row. row.key))
      (sym (flat_map-single _ _ _ (λ key. refl))
      ∙ exact_rows_fold_all_packets_lem plain g events room refl swept)
      ∙ keys_through _ _
      (λ key. refl) _)

  module _ (f : TypedFold) (valid : IsValidFold f) (words : AreWords (initial_state f)) where
    abbrev fold_given : Key → List ℕ
    fold_given key = Folds.folded f (initial_state f) (rows_given key events)

    encloses : is_bounded class.Other f ≡ true → (key : Key) → All AreWords (rows_given key events) → 0 < length (lists_of key left)
        → Encloses (closed_bounds f left key).low (closed_bounds f left key).high (fold_given key)
    encloses mono key given some =
        rw (rows_all _) at (enclosed f valid mono words _ (rw (rows_all key) given) some)

    module _ (heading : Heading) (given : TakesWords events) (bounded : is_bounded (class_of f) f ≡ true) where
      by_its_class : (c : Class) → class_of f ≡ c → HoldsAfter f events (closed_by c heading f left)
      by_its_class class.Linear e =
          let rows = exact_rows_fold_all_packets_lem (folding_of f) g events room (ap per_epoch e) swept in
          record {
            keys = ap (map (λ (row : Row). row.key)) rows
                ∙ keys_through (λ (row : Row). row.key) (λ key. exact_row (folding_of f) key (length (lists_of key left))
                (rows_given key events)) (λ key. refl) (ascending (keys_given events));
            rows = subst (All (λ (row : Row). row.values ≡ fold_given row.key)) (sym rows)
                (All-map (λ (row : Row). row.values ≡ fold_given row.key)
                (λ key. exact_row (folding_of f) key (length (lists_of key left)) (rows_given key events))
                (ascending (keys_given events)) (λ k d lt. refl));
          }
      by_its_class class.Other e = record {
        keys = keys_through (λ (row : BoundsRow). row.key) (closed_bounds f left) (λ key. refl) (closed_keys left) ∙ keys_are;
        rows = All-map (λ (row : BoundsRow). Encloses row.low row.high (fold_given row.key)) (closed_bounds f left) (closed_keys left)
            (λ k d lt. let key = get_or (closed_keys left) k d in
            encloses (sym (ap (λ c. is_bounded c f) e) ∙ bounded) key (given key) (have_lists left k d lt));
      }

pub closed_enclose : ClosedBoundsEnclose
closed_enclose f g events key room swept valid mono words given some =
    encloses g events room swept f valid words mono key given
    (some_pieces (lists_of key (run g events (empty_machine g)).closed) (rows_given key events) (rows_all g events room swept key) some)

pub closed_hold : AlikeFoldingsMakeOneTable → ClosedTablesHold
closed_hold alike heading f sizes folding opening absorbing g events room swept kind is valid bounded words given =
    rw (shown_is heading f sizes folding opening absorbing (run g events (empty_machine g)).closed is alike
    kind) (by_its_class g events room swept f valid words heading given bounded (class_of f) refl)
