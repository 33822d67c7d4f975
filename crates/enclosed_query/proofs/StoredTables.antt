-- The tables of what the lanes of a pipeline for bounds hold may be shown, whatever they hold.
use Rattle.std.proofs.Common.{◌≡◌, ℕ, suc, ◌+◌, ◌*◌, ◌==◌, ◌||◌, Bool, true, false, List, [], ◌∷◌, Some, length, map, drop, refl, sym, ap}
use Rattle.std.proofs.{Common.{◌∙◌, subst, arith, length-append}, Math.Logic.{∥∥₁_elim}, Props.props, lemmas.Bool.false≢true}
use Rattle.std.proofs.lemmas.List.Elements.{All-nil, All-cons, All-head, All-tail, All-append, All-map, All-weaker}
use Rattle.std.specs.{List.{All, flat_map}, Prelude.{slice_get, sum_by}}
use Rattle.query_lang.specs.declared.{fold.TypedFold.TypedFold, typed.Class.Class}
use Rattle.query_lang.specs.declared.typed.Class.TheVariants as class
use Rattle.epoch_model.specs.{declared.tables.{Mark.TheVariants.Plain, Row.Row}, Tables.epochs_shown, Keys.{Key, ascending, has}}
use Rattle.epoch_model.proofs.{KeyLists.{by_test, key_eq-true}, KeyOrder.has-ascending}
use Rattle.backing_store.specs.{Merged.{epochs_in, shown_row}, SortedRows.{numbered, stored_rows, sorted_rows}}
use Rattle.backing_store.specs.Store.{Store, StoredKey, StoredRow, IsStore, AreKeysOf, AreRowsOf, number_of, states_at, states_of}
use Rattle.epoch_entry.specs.{declared.purpose.Entries.TheVariants.Bounds, contracts.any.AnyEpochsEpochKind.TheImpl.ghosts}
use Rattle.epoch_entry.specs.Purposes.{IsBoundingKind}
use Rattle.final_queries.specs.{declared.table.{Table.Table, TableKind.TheVariants.Group}, Finals.HasColumns}
use Rattle.stage_plan.specs.{declared.group.GroupPlan.GroupPlan, Planned.wiring_at, Sound.{PlanParts, IsSoundPlan}}
use Rattle.switch_core.specs.{Pipelines.{IsLaneOf, heading_of, stored_table}, PlanLanes.{LaneView, folding_at, stored_tables}}
use Rattle.switch_core.{specs.Rows.EachFrom, proofs.LanesMade.group_sound}
use Rattle.enclosure_folds.specs.{KeyBounds.{HasTriples, states_in}, Shown.{IsHeadingOf, MayBeShown, MayBeShownBy}}
use Rattle.enclosure_folds.proofs.{CheckFacts.stands, RowFacts.all_of}
use Rattle.enclosed_query.{specs.AfterEvents.{HasStoredRows, HaveStoredRows}, proofs.Groups.heading_is}

-- the keys and the states of a store have its numbers of words

abbrev keys_of : List StoredKey → List Key
keys_of keys = map (λ stored. stored.key) keys

key_from : (n : ℕ) (keys : List StoredKey) → AreKeysOf n keys → (key : Key) → has key (keys_of keys) ≡ true → length key ≡ n
key_from n [] all key e = absurd (false≢true e)
key_from n (stored ∷ keys) all key e = by_test _ (λ t. subst (λ k. length k ≡ n) (key_eq-true _ _ t) all.0.size)
    (λ t. key_from n keys all.1 key (sym (ap (λ b. b || has key (keys_of keys)) t) ∙ e))

keys_have : (n : ℕ) (keys : List StoredKey) → AreKeysOf n keys → All (λ key. length key ≡ n) (ascending (keys_of keys))
keys_have n keys all = all_of _ _ (λ key e. key_from n _ all _ (sym (has-ascending _ _) ∙ e))

states_have : (keys n number : ℕ) (rows : List StoredRow) → AreRowsOf keys n rows → All (λ state. length state ≡ n) (states_at rows number)
states_have keys n number [] all = All-nil (λ (state : List ℕ). length state ≡ n)
states_have keys n number (row ∷ rows) all = by_test (row.key == number)
    (λ t. rw t (All-cons (λ (state : List ℕ). length state ≡ n) row.words (states_at rows number) all.1
    (states_have keys n number rows all.2))) (λ t. rw t (states_have keys n number rows all.2))

-- so its rows have them too

shown_has : (words n : ℕ) (per_epoch : Bool) (row : Row) → HasColumns words n row → HasColumns words n (shown_row per_epoch row)
shown_has words n true row has = record { key = has.key; values = has.values }
shown_has words n false row has = record { key = has.key; values = has.values }

numbered_have : (words n : ℕ) (key : Key) (epochs first : ℕ) (states : List (List ℕ)) → length key ≡ words
    → All (λ state. length state ≡ n) states → All (HasColumns words n) (numbered key epochs first states)
numbered_have words n key epochs first [] e all = All-nil (HasColumns words n)
numbered_have words n key epochs first (state ∷ states) e all =
    All-cons (HasColumns words n) (record { key = key; mark = Plain; epoch = first; epochs = epochs; values = state })
    (numbered key epochs (suc first) states)
    (record { key = e; values = All-head (λ (x : List ℕ). length x ≡ n) state states all })
    (numbered_have words n key epochs (suc first) states e (All-tail (λ (x : List ℕ). length x ≡ n) state states all))

rows_have : (store : Store) (keys : List Key) → IsStore store → All (λ key. length key ≡ store.key_words) keys
    → All (HasColumns store.key_words store.state_words) (flat_map (stored_rows store) keys)
rows_have store [] is all = All-nil (HasColumns store.key_words store.state_words)
rows_have store (key ∷ keys) is all =
    All-append (HasColumns store.key_words store.state_words) (stored_rows store key) (flat_map (stored_rows store) keys)
    (numbered_have store.key_words store.state_words key _ 1 (states_of store key)
    (All-head (λ (k : Key). length k ≡ store.key_words) key keys all)
    (states_have (length store.keys) store.state_words (number_of store.keys key) store.rows is.rows))
    (rows_have store keys is (All-tail (λ (k : Key). length k ≡ store.key_words) key keys all))

all_have : (per_epoch : Bool) (store : Store) → IsStore store
    → All (HasColumns store.key_words store.state_words) (map (shown_row per_epoch) (sorted_rows store))
all_have per_epoch store is =
    let P = HasColumns store.key_words store.state_words in
    All-map P _ (sorted_rows store)
    (All-weaker P (λ row. P (shown_row per_epoch row)) (λ row has. shown_has _ _ _ _ has)
    (sorted_rows store) (rows_have _ (ascending (keys_of store.keys)) is (keys_have _ _ is.keys)))

-- whether a table may be shown is a proposition
may_prop : (c : Class) (depth epochs : ℕ) (t : Table) → IsProp (MayBeShownBy (Group c depth epochs) t)
may_prop class.Linear depth epochs t = hlevel props
may_prop class.Other depth epochs t = hlevel props

module _ (plan : PlanParts) (buckets : ℕ) (sound : IsSoundPlan plan) where
  abbrev IsLane : ℕ → LaneView → GroupPlan → Type 0
  IsLane n lane group = IsLaneOf Bounds buckets lane.cache (ghosts.sizes lane.kind) (ghosts.folding lane.kind) (ghosts.open_bound lane.kind)
      (ghosts.absorb_bound lane.kind) group (wiring_at plan n)

  abbrev table_of : GroupPlan → LaneView → Table
  table_of group lane = stored_table (heading_of group) (folding_at lane).row_per_epoch lane.store

  abbrev epochs_of : GroupPlan → LaneView → ℕ
  epochs_of group lane = epochs_shown (sum_by (epochs_in (folding_at lane).row_per_epoch) (sorted_rows lane.store))

  triples : (group : GroupPlan) (lane : LaneView) (states : ℕ) → length group.state_names ≡ states → (ghosts.sizes lane.kind).state ≡ 3
      * states → lane.cache.key_words ≡ length group.key_names → HasStoredRows lane → HasTriples (table_of group lane)
  triples group lane states named sized words has =
      let wide = length-append group.key_names group.state_names in
      let three : lane.store.state_words ≡ 3 * states_in (table_of group lane) =
      has.state ∙ (sized ∙ (let e : 3 * states ≡ 3 * states_in (table_of group lane) = omega arith in e)) in record {
        keys = omega arith;
        rows = subst (λ n. All (HasColumns (length group.key_names) n) (table_of group lane).rows) three
            (subst (λ k. All (HasColumns k lane.store.state_words) (table_of group lane).rows) (has.words ∙ words)
            (all_have _ lane.store has.store));
      }

  may_by : (group : GroupPlan) (lane : LaneView) (f : TypedFold) (c : Class) (depth epochs : ℕ) → IsHeadingOf f (heading_of group)
      → lane.cache.key_words ≡ length group.key_names → HasStoredRows lane
      → IsBoundingKind c f (ghosts.sizes lane.kind) (folding_at lane) (ghosts.open_bound lane.kind) (ghosts.absorb_bound lane.kind)
      → MayBeShownBy (Group c depth epochs) (table_of group lane)
  may_by group lane f class.Linear depth epochs is words has kind = tt
  may_by group lane f class.Other depth epochs is words has kind = record {
    triples = triples group _ _ is.states kind.state words has;
    some_keys = is.some_keys;
    most_keys = is.most_keys;
  }

  one_may : (i : ℕ) (group : GroupPlan) (lane : LaneView) → slice_get plan.groups i ≡ Some group → IsLane i lane group → HasStoredRows lane
      → MayBeShown (table_of group lane)
  one_may i group lane at of_lane has =
      let known = group_sound _ i _ sound at in
      ∥∥₁_elim known.2.program (may_prop _ _ _ _)
      (λ h.
      let is = heading_is _ _ _ _ known.2 h.1 in
      subst (λ c. MayBeShownBy (Group c group.program.depth (epochs_of group lane)) (table_of group lane)) (sym is.class)
      (may_by group lane _ _ _ _ is of_lane.keys has (of_lane.kind h.0 h.1)))

  pub all_may : (i : ℕ) (lanes : List LaneView) (groups : List GroupPlan) → drop i plan.groups ≡ groups → EachFrom IsLane i lanes groups
      → HaveStoredRows lanes → All MayBeShown (stored_tables groups lanes)
  all_may i [] [] e of_lanes has = All-nil MayBeShown
  all_may i [] (group ∷ groups) e of_lanes has = absurd of_lanes
  all_may i (lane ∷ lanes) [] e of_lanes has = absurd of_lanes
  all_may i (lane ∷ lanes) (group ∷ groups) e of_lanes has =
      let at = stands plan.groups i group groups e in
      let next : suc i ≡ i + 1 = omega arith in
      All-cons MayBeShown (table_of group lane) (stored_tables groups lanes)
      (one_may i group lane at.found of_lanes.0 (has 0 lane refl))
      (all_may (suc i) lanes groups (ap (λ k. drop k plan.groups) next ∙ at.next) of_lanes.1 (λ n other found. has (suc n) other found))
