-- Finals can read the tables of several switches: of each key they read at most one row.
use Rattle.std.proofs.Common.{◌≡◌, ℕ, suc, ◌+◌, ◌-◌, Bool, true, false, ◌||◌, List, [], ◌∷◌, ◌++◌, inl, inr, length, drop, map, flat_map}
use Rattle.std.proofs.{Common.{Option, Some, None, refl, sym, ap, ◌∙◌, subst, arith, length-append}, lemmas.Bool.true≢false}
use Rattle.std.proofs.lemmas.{List.length-map, Option.{slice_get_cases, slice_get_within}}
use Rattle.std.{proofs.lemmas.List.Elements.{All-nil, All-cons, All-append, All-head, All-tail}, specs.{Prelude.slice_get, List.All}}
use Rattle.marple_base.specs.declared.field.TheConstants.{FIELDS}
use Rattle.query_lang.specs.{declared.{fold.TypedFold.TypedFold, typed.TypedQuery.TypedQuery}, Streams.takings, TypedQueries.IsValidQuery}
use Rattle.query_lang.specs.TypedQueries as of_query
use Rattle.stage_plan.specs.Uses.{uses}
use Rattle.epoch_model.specs.{declared.tables.Row.Row, Keys.{Key, ArgRow, has, key_eq}, Epochs.{Use, Geometry}}
use Rattle.epoch_model.specs.{Tables.{Folding, folded, exact_row, keys_used}, Driving.uses_taken}
use Rattle.epoch_model.proofs.{KeyLists.{by_test, key_eq-refl, key_eq-true}, KeyOrder.{ascending-ascends, has-ascending}}
use Rattle.epoch_entry.specs.Foldings.{folding_of}
use Rattle.query_lang.specs.Words.{holds}
use Rattle.stage_plan.specs.{Packets.AreWhole, declared.group.{GroupPlan.GroupPlan, GroupWiring.GroupWiring}}
use Rattle.stage_plan.specs.{Planned.{IsPlanOf, fold_at, packet_registers, taken, wiring_at}, Registers.operand_value}
use Rattle.stage_plan.specs.{Shape.{GroupShape, group_shape, query_groups}, Sound.{PlanParts, IsSoundGroup, IsSoundPlan}}
use Rattle.final_queries.specs.Finals.{IsTable, HasColumns, table_shape}
use Rattle.final_queries.proofs.{GroupRead.{HasOneAtMost, epochs_read, all_in_order, epochs_have}, StateLengths.states_length}
use Rattle.query_tables.specs.{Tables.{table_if, tables_from, group_tables}, TableLaws.QueryTablesAreRead}
use Rattle.net_wide.specs.NetTables.{net_epochs, key_args, net_key_rows, net_rows, net_table, net_table_if, net_pieces, net_tables_from}
use Rattle.net_wide.{specs.{NetTables.{net_tables, tables_of_pieces}, NetEnds.NetTablesAreRead}, proofs.Places.first_at}

key_read : (f : Folding) (pieces : List (List ArgRow)) (args : List ArgRow) (key : Key) → HasOneAtMost key (net_key_rows f pieces args key)
key_read f pieces _ key = by_test f.row_per_epoch (λ t. rw t (epochs_read f key pieces)) (λ t. rw t (inr refl))

-- this number of key words and values

abbrev AreLong : ℕ → List Key → Type 0
AreLong words keys = (key : Key) → has key keys ≡ true → length key ≡ words

module _ (words states : ℕ) (f : Folding) (long : (rows : List ArgRow) → length (folded f rows) ≡ states) where
  key_has : (pieces : List (List ArgRow)) (args : List ArgRow) (key : Key) → length key ≡ words
      → All (HasColumns words states) (net_key_rows f pieces args key)
  key_has pieces args key e = by_test f.row_per_epoch
      (λ t. rw t (epochs_have words states f long key (length pieces) 1 pieces e))
      (λ t. rw t (All-cons (HasColumns words states) (exact_row f key (length pieces) args) [] (record { key = e; values = long args })
      (All-nil (HasColumns words states))))

  rows_have : (h : Key → List Row) → ((key : Key) → length key ≡ words → All (HasColumns words states) (h key)) → (keys : List Key)
      → AreLong words keys → All (HasColumns words states) (flat_map h keys)
  rows_have h _ [] _ = All-nil (HasColumns words states)
  rows_have h each (key ∷ keys) all =
      All-append (HasColumns words states) (h key) (flat_map h keys) (each key (all key (ap (λ b. b || has key keys) (key_eq-refl key))))
      (rows_have h each keys (λ k e. all k (or_has (key_eq key k) (has k keys) e)))
    where
      or_has : (a b : Bool) → b ≡ true → (a || b) ≡ true
      or_has true b e = refl
      or_has false b e = e

used_long : (words : ℕ) (used : List Use) → All (λ u. length u.key ≡ words) used → AreLong words (map (λ u. u.key) used)
used_long _ [] _ _ e = absurd (true≢false (sym e))
used_long words (u ∷ used) all key e = by_test (key_eq u.key key)
    (λ t. subst (λ k. length k ≡ words) (key_eq-true u.key key t) (All-head (λ (x : Use). length x.key ≡ words) u used all))
    (λ t. used_long words used (All-tail (λ (x : Use). length x.key ≡ words) u used all) key
    (sym (ap (λ b. b || has key (map (λ x. x.key) used)) t) ∙ e))

pub table_read : (q : TypedQuery) (g : Geometry) (packets : List (List ℕ)) (i : ℕ) (shape : GroupShape) (f : TypedFold)
    → All (λ u. length u.key ≡ length shape.key_names) (uses q i packets)
    → ((rows : List ArgRow) → length (folded (folding_of f) rows) ≡ length shape.state_names)
    → IsTable (net_table q packets (net_epochs q i g packets) i shape f)
table_read q g packets i shape f keys states =
    let names = shape.key_names in
    let wide = length-append names shape.state_names in
    let others : length shape.state_names ≡ length (names ++ shape.state_names) - length names = omega arith in
    let rows : Key → List Row = λ key. net_key_rows (folding_of f) (net_epochs q i g packets key) (key_args key (uses q i packets)) key in
    let used = map (λ u. u.key) (uses q i packets) in
    record {
      keys = omega arith;
      rows = subst (λ n. All (HasColumns (length names) n) (net_rows q i packets (net_epochs q i g packets) (folding_of f))) others
          (rows_have (length names) (length shape.state_names) (folding_of f) states rows
          (λ key e. key_has (length names) (length shape.state_names) (folding_of f) states (net_epochs q i g packets key)
          (key_args key (uses q i packets)) key e)
          (keys_used (uses q i packets)) (λ key e. used_long (length names) (uses q i packets) keys key
          (sym (has-ascending key used) ∙ e)));
      order = all_in_order rows (λ key. key_read (folding_of f) (net_epochs q i g packets key) (key_args key (uses q i packets)) key)
          (keys_used (uses q i packets)) (ascending-ascends used);
    }

-- what the plan takes has as many key words as the groupby has key names
taken_long : (plan : PlanParts) (i n words : ℕ) (packets : List (List ℕ)) → length (wiring_at plan i).keys ≡ words
    → All (λ u. length u.key ≡ words) (uses_taken n (map (taken plan i) packets))
taken_long _ i n words [] _ = All-nil _
taken_long plan i n words (one ∷ packets) wide = by_test (holds (operand_value registers wiring.present))
    (λ t. rw t (All-cons (λ (u : Use). length u.key ≡ words) (record {
      packet = n;
      key = map (operand_value registers) wiring.keys;
      row =
          map (operand_value registers) wiring.args;
    })
    (uses_taken (suc n) (map (taken plan i) packets)) (length-map wiring.keys (operand_value registers) ∙ wide)
    (taken_long plan i (suc n) _ packets wide)))
    (λ t. rw t (taken_long plan i (suc n) _ packets wide))
  where
    registers : List ℕ
    registers = packet_registers plan one

    wiring : GroupWiring
    wiring = wiring_at plan i

module _ (q : TypedQuery) (plan : PlanParts) (g : Geometry) (packets : List (List ℕ)) (valid : IsValidQuery q) (p : IsPlanOf q plan)
    (sound : IsSoundPlan plan) (whole : AreWhole packets) where
  wired : (i : ℕ) (part : GroupPlan) → slice_get plan.groups i ≡ Some part → (w : GroupWiring) × (wiring_at plan i ≡ w)
      × IsSoundGroup (FIELDS + length plan.ops) part w
  wired i part at = elim ((slice_get_cases plan.wiring i).1) [
    | inl there ↦ (there.0, rw there.2, sound.each i part there.0 at there.2)
    | inr past ↦ absurd (let less = slice_get_within plan.groups i part at in let many = sound.wired in omega arith)
  ]

  one_read : (i : ℕ) (part : GroupPlan) (f : TypedFold) → slice_get plan.groups i ≡ Some part → fold_at q i ≡ Some f
      → IsTable (net_table q packets (net_epochs q i g packets) i (group_shape part) f)
  one_read i part f at has =
      let own = wired i part at in
      let within = slice_get_within plan.groups i part at in
      let program = p.programs i f part has at in
      let wide : length (wiring_at plan i).keys ≡ length part.key_names = ap (λ w. length w.keys) own.1 ∙ own.2.keys in
      table_read q g packets i (group_shape part) f
      (subst (All (λ u. length u.key ≡ length part.key_names)) (sym (p.takes i packets within whole))
      (taken_long plan i 1 (length part.key_names) packets wide))
      (λ rows. states_length f rows program.valid ∙ (sym program.valid.starts
      ∙ (ap length (sym program.layout.initial) ∙ sym own.2.states)))

  shapes_same : (i : ℕ) (shapes : List GroupShape) → map table_shape (net_tables_from q packets (net_pieces q g packets) i shapes) ≡ map
      table_shape (tables_from q g packets i shapes)
  shapes_same i [] = refl
  shapes_same i (shape ∷ shapes) = go (fold_at q i) (shapes_same (suc i) shapes)
    where
      go : (o : Option TypedFold) → map table_shape (net_tables_from q packets (net_pieces q g packets) (suc i) shapes) ≡ map table_shape
          (tables_from q g packets (suc i) shapes)
          → map table_shape (net_table_if q packets (net_epochs q i g packets) i shape o
          ++ net_tables_from q packets (net_pieces q g packets) (suc i) shapes) ≡ map table_shape
          (table_if q g packets i shape o ++ tables_from q g packets (suc i) shapes)
      go None h = h
      go (Some f) h = rw h

  all_read : (i : ℕ) (parts : List GroupPlan) → drop i plan.groups ≡ parts
      → All IsTable (net_tables_from q packets (net_pieces q g packets) i (map group_shape parts))
  all_read i [] e = All-nil IsTable
  all_read i (part ∷ parts) e = go (fold_at q i) refl (all_read (suc i) parts (first_at plan.groups i part parts e).1)
    where
      go : (o : Option TypedFold) → fold_at q i ≡ o → All IsTable (net_tables_from q packets (net_pieces q g packets) (suc i)
          (map group_shape parts))
          → All IsTable (net_table_if q packets (net_epochs q i g packets) i (group_shape part) o
          ++ net_tables_from q packets (net_pieces q g packets) (suc i) (map group_shape parts))
      go None _ rest = rest
      go (Some f) is rest = All-cons IsTable (net_table q packets (net_epochs q i g packets) i (group_shape part) f)
          (net_tables_from q packets (net_pieces q g packets) (suc i) (map group_shape parts))
          (one_read i part f (first_at plan.groups i part parts e).0 is) rest

  read_them : QueryTablesAreRead → All IsTable (net_tables q g packets)
      × (map table_shape (net_tables q g packets) ≡ map (of_query.group_shape q.folds) (takings q.streams))
  unfolding tables_of_pieces group_tables
  read_them law = (
    subst (λ shapes. All IsTable (net_tables_from q packets (net_pieces q g packets) 0 shapes)) (ap (λ shape. shape.groups) p.shape)
        (all_read 0 plan.groups refl),
    shapes_same 0 (query_groups q) ∙ (law q g packets valid).1,
  )

pub tables_read : QueryTablesAreRead → NetTablesAreRead
tables_read law q plan g packets valid p sound whole = read_them q plan g packets valid p sound whole law
