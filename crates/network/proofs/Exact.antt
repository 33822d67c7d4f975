-- The rows of one groupby's table of a drained network: of an additive fold, and of a key that gives the switch.
use Rattle.std.proofs.Common.{◌≡◌, ◌≢◌, ℕ, zero, suc, ◌+◌, ◌==◌, true, false, ◌||◌, List, [], ◌∷◌, ◌++◌, length, filter, flat_map}
use Rattle.std.proofs.{Common.{slice_index, Option, Some, None, refl, sym, ap, subst, ◌∙◌, arith, append-nil}, lemmas.Bool.true≢false}
use Rattle.std.proofs.lemmas.{Bool.Decides.nat_tests, Cmp.{nat_list_cmp_total, tied_itself}}
use Rattle.std.{proofs.lemmas.List.Elements.{All-head, All-tail, filter-append}, specs.Prelude.{slice_get, map}}
use Rattle.std.specs.declared.cmp.Ordering.TheVariants.{Less, Equal}
use Rattle.marple_base.specs.declared.field.TheConstants.{FIELDS}
use Rattle.query_lang.specs.{declared.fold.TypedFold.TypedFold, Folds.initial_state}
use Rattle.fold_class.proofs.LawLemmas.{additive_class}
use Rattle.epoch_model.specs.{declared.tables.Row.Row, Keys.{AreAbove, ArgRow, IsAscending, Key, ascending, has, key_cmp, key_eq}}
use Rattle.epoch_model.specs.{Driving.{Taken, event_of}, Epochs.Geometry, Laws.{HasRoom, rows_given}}
use Rattle.epoch_model.specs.{Machine.{Epoch, Event, Evict, Merge, lists_of}, TableLaws.keys_given}
use Rattle.epoch_model.specs.Tables.{Folding, closed_key_rows, closed_keys, closed_rows, epoch_rows, exact_row}
use Rattle.epoch_model.proofs.{KeyLists.{by_test, key_eq-true}, KeyOrder.{ascending-ascends, has-ascending}}
use Rattle.epoch_model.proofs.TableRows.{given-some, joined-some, same_keys}
use Rattle.epoch_entry.specs.Foldings.{folding_of}
use Rattle.final_queries.specs.{Finals.is_of_key, FinalLaws.{AlikeFoldingsMakeOneTable, AreAlike}, GroupTable.closed_table}
use Rattle.final_queries.specs.declared.table.Table.{Table}
use Rattle.backing_store.specs.Merged.{StoreHolds}
use Rattle.stage_plan.specs.{Packets.AreWhole, Planned.{taken, wiring_at}, Sound.PlanParts, declared.group.GroupPlan.GroupPlan}
use Rattle.switch_core.{specs.{Pipelines.{event_at, heading_of}, Rows.EachFrom}, proofs.{LaneFacts.all_at, SideBySide.same_some}}
use Rattle.additive_laws.specs.{Laws.IsAdditiveFrom, Pieces.rows_joined}
use Rattle.additive_laws.specs.Network.{AllMerged, SwitchEvent, SwitchEpoch, all_epochs, all_events, events_at, machine_at}
use Rattle.additive_laws.{specs.Traces.from_switch, proofs.StoreTables.{as_many, pieces, same_some as same_length, store_table}}
use Rattle.net_wide.{specs.NetTables.{caches_of, switch_in}, proofs.OneSwitch.one_switch}
use Rattle.network.specs.Ends.{AreTakenAt, IsDrainedWith, IsSwitchPlace, packets_taken}
use Rattle.network.specs.Groups.{GroupView, IsGroup, StoresHold, folding_in, group_is_drained, shared_tables}
use Rattle.network.specs.{Networks.{IsNetwork, NetworkView}, Running.{Evicts, Merges, NetworkEvent, Takes, all_given, merged_after}}
use Rattle.network.proofs.{MakeSteps.all_merged, SharedSteps.each_back}

-- ---- the rows of one key among those of all

key_cmp-itself : (key : Key) → key_cmp key key ≡ Equal
unfolding key_cmp
key_cmp-itself key = tied_itself nat_list_cmp_total key

above_absent : (key : Key) (keys : List Key) → AreAbove key keys → has key keys ≡ false
above_absent _ [] _ = refl
above_absent key (first ∷ keys) above = by_test (key_eq first key)
    (λ e. absurd (apart (sym above.0 ∙ (ap (λ x. key_cmp key x) (key_eq-true first key e) ∙ key_cmp-itself key))))
    (λ e. rw e (above_absent key keys above.1))
  where
    apart : Less ≡ Equal → ⊥
    apart e = cc

rows_stay : (f : Folding) (other key : Key) → key_eq other key ≡ true → (count number : ℕ) (lists : List (List ArgRow))
    → filter (is_of_key key) (epoch_rows f other count number lists) ≡ epoch_rows f other count number lists
rows_stay f _ _ e _ _ [] = refl
rows_stay f other key e count number (rows ∷ lists) =
    rw e (rw (rows_stay f other key e count (suc number) lists))

rows_go : (f : Folding) (other key : Key) → key_eq other key ≡ false → (count number : ℕ) (lists : List (List ArgRow))
    → filter (is_of_key key) (epoch_rows f other count number lists) ≡ []
rows_go f _ _ e _ _ [] = refl
rows_go f other key e count number (_ ∷ lists) = rw e (rows_go f other key e count (suc number) lists)

module _ (f : Folding) (closed : List Epoch) (key : Key) where
  abbrev of_key : Key → List Row
  of_key = closed_key_rows f closed

  own_rows : (other : Key) → key_eq other key ≡ true → filter (is_of_key key) (of_key other) ≡ of_key other
  own_rows other e = by_test f.row_per_epoch
      (λ t. rw t (rows_stay f other key e (length (lists_of other closed)) 1 (lists_of other closed)))
      (λ t. rw (t, e))

  other_rows : (other : Key) → key_eq other key ≡ false → filter (is_of_key key) (of_key other) ≡ []
  other_rows other e = by_test f.row_per_epoch
      (λ t. rw t (rows_go f other key e (length (lists_of other closed)) 1 (lists_of other closed)))
      (λ t. rw (t, e))

  none_of : (keys : List Key) → has key keys ≡ false → filter (is_of_key key) (flat_map of_key keys) ≡ []
  none_of [] h = refl
  none_of (other ∷ keys) h = by_test (key_eq other key)
      (λ t. absurd (true≢false (ap (λ b. b || has key keys) (sym t) ∙ h)))
      (λ t.
      let rest : has key keys ≡ false = ap (λ b. b || has key keys) (sym t) ∙ h in
      filter-append (is_of_key key) (of_key other) (flat_map of_key keys)
      ∙ (ap (λ rs. rs ++ filter (is_of_key key) (flat_map of_key keys)) (other_rows other t) ∙ none_of keys rest))

  one_of : (keys : List Key) → IsAscending keys → has key keys ≡ true → filter (is_of_key key) (flat_map of_key keys) ≡ of_key key
  one_of [] _ h = absurd (true≢false (sym h))
  one_of (other ∷ keys) up h = by_test (key_eq other key)
      (λ t.
      let same : other ≡ key = key_eq-true other key t in
      let none : has key keys ≡ false = subst (λ k. has k keys ≡ false) same (above_absent other keys up.0) in
      filter-append (is_of_key key) (of_key other) (flat_map of_key keys)
      ∙ (ap (λ rs. rs ++ filter (is_of_key key) (flat_map of_key keys)) (own_rows other t)
      ∙ (ap (λ rs. of_key other ++ rs) (none_of keys none) ∙ (append-nil (of_key other) ∙ ap of_key same))))
      (λ t.
      let rest : has key keys ≡ true = ap (λ b. b || has key keys) (sym t) ∙ h in
      filter-append (is_of_key key) (of_key other) (flat_map of_key keys)
      ∙ (ap (λ rs. rs ++ filter (is_of_key key) (flat_map of_key keys)) (other_rows other t) ∙ one_of keys up.1 rest))

  key_has_rows : has key (closed_keys closed) ≡ true → filter (is_of_key key) (closed_rows f closed) ≡ closed_key_rows f closed key
  key_has_rows h = one_of (closed_keys closed) (ascending-ascends (map _ closed)) h

-- the merged epochs have the keys that are given
store_keys : (g : Geometry) (events : List SwitchEvent) (merged : List SwitchEpoch) → HasRoom g → AllMerged g events merged
    → closed_keys (all_epochs merged) ≡ ascending (keys_given (all_events events))
store_keys g events merged room all = same_keys (all_epochs merged) (keys_given (all_events events)) (λ k.
    rw (
      given-some k (all_events events),
      same_length (rows_given k (all_events events)) (rows_joined (lists_of k (all_epochs merged)))
          (as_many g events merged room all k),
      joined-some (lists_of k (all_epochs merged)) (pieces g events merged room all k),
    ))

-- ---- what other switches are given of a key

module _ (plan : PlanParts) (n j at : ℕ) (key : Key) (place : IsSwitchPlace plan n j) (other : ℕ) (far : other ≢ at) where
  one_given : (switch : ℕ) (words : List ℕ) (o : Option Taken) (more : List SwitchEvent) → taken plan n words ≡ o → length words ≡ FIELDS
      → (switch_in words ≡ slice_index key j → switch ≡ at)
      → rows_given key (events_at other more) ≡ [] → rows_given key (events_at other (from_switch switch (event_of o) ++ more)) ≡ []
  one_given _ _ None _ _ _ _ rest = rest
  one_given switch words (Some t) more is whole theirs rest = by_test (switch == other)
      (λ u. by_test (key_eq t.key key)
      (λ v.
      let same : t.key ≡ key = key_eq-true t.key key v in
      let here : switch ≡ at = theirs (sym (place words t whole is) ∙ ap (λ k. slice_index k j) same) in
      let it : switch ≡ other = grind (arith, nat_tests) in
      absurd (far (sym it ∙ here)))
      (λ v. rw u (rw v rest)))
      (λ u. rw u rest)

  none_given : (event : Event) (lane switch : ℕ) (more : List SwitchEvent)
      → ((es : List Event) → rows_given key (event ∷ es) ≡ rows_given key es) → rows_given key (events_at other more) ≡ []
      → rows_given key (events_at other (from_switch switch (event_at lane event n) ++ more)) ≡ []
  none_given event lane switch more no_row rest = by_test (n == lane)
      (λ t. by_test (switch == other) (λ u. rw (t, u, no_row) rest) (λ u. rw (t, u) rest)) (λ t. rw t rest)

  others_given : (events : List NetworkEvent) → AreWhole (packets_taken events) → AreTakenAt at (slice_index key j) events
      → rows_given key (events_at other (all_given plan n events)) ≡ []
  others_given [] whole theirs = refl
  others_given (Takes switch words ∷ events) whole theirs =
      one_given switch words (taken plan n words) (all_given plan n events) refl
      (All-head (λ w. length w ≡ FIELDS) words (packets_taken events) whole) theirs.0
      (others_given events (All-tail (λ w. length w ≡ FIELDS) words (packets_taken events) whole) theirs.1)
  others_given (Evicts switch lane bucket ∷ events) whole theirs = none_given (Evict bucket) lane switch (all_given plan n events)
      (λ es. refl) (others_given events whole theirs)
  others_given (Merges switch lane ∷ events) whole theirs = none_given Merge lane switch (all_given plan n events)
      (λ es. refl) (others_given events whole theirs)

-- ---- one table of those that the stores hold

module _ (ways : ℕ) (net : NetworkView) (events : List NetworkEvent) where
  abbrev merged : ℕ → List SwitchEpoch
  merged i = merged_after ways net.buckets [] (all_given net.plan i events)

  abbrev epochs_from_on : ℕ → List GroupView → List (List Epoch)
  epochs_from_on i [] = []
  epochs_from_on i (_ ∷ groups) = all_epochs (merged i) ∷ epochs_from_on (suc i) groups

  all_hold : (i : ℕ) (groups : List GroupView)
      → ((k n : ℕ) (group : GroupView) → n ≡ i + k → slice_get groups k ≡ Some group
      → StoreHolds (folding_in group) group.store (all_epochs (merged n)))
      → EachFrom (λ n group. StoreHolds (folding_in group) group.store) i groups (epochs_from_on i groups)
  all_hold i [] _ = tt
  all_hold i (group ∷ groups) hold = (
    hold 0 i group (omega arith) refl,
    all_hold (suc i) groups
        (λ k n x e f. hold (suc k) n x (omega arith) f),
  )

  table_there : (i k n : ℕ) (parts : List GroupPlan) (groups : List GroupView) (part : GroupPlan) (group : GroupView) → n ≡ i + k
      → slice_get parts k ≡ Some part → slice_get groups k ≡ Some group
      → slice_get (shared_tables parts groups (epochs_from_on i groups)) k ≡ Some
      (closed_table (heading_of part) (folding_in group) (all_epochs (merged n)))
  table_there i k n [] groups part group e p g = cc
  table_there i k n (p1 ∷ parts) [] part group e p g = cc
  table_there i zero n (p1 ∷ parts) (g1 ∷ groups) part group e p g =
      let same : n ≡ i = omega arith in
      let one : p1 ≡ part = cc in
      let other : g1 ≡ group = cc in
      rw (one, other, same)
  table_there i (suc k) n (p1 ∷ parts) (g1 ∷ groups) part group e p g = table_there (suc i) k n parts groups part group (omega arith) p g

module _ (law : AlikeFoldingsMakeOneTable) (ways : ℕ) (net : NetworkView) (n : ℕ) (f : TypedFold) (events : List NetworkEvent)
    (is : IsNetwork ways net) (d : IsDrainedWith ways net n f events)
    (tables : List Table) (table : Table) (closed : (epochs : List (List Epoch)) → StoresHold net.groups epochs
    → tables ≡ shared_tables net.plan.groups net.groups epochs)
    (there : slice_get tables n ≡ Some table) where
  abbrev g : Geometry
  g = caches_of net.buckets ways

  abbrev given : List SwitchEvent
  given = all_given net.plan n events

  abbrev epochs : List SwitchEpoch
  epochs = merged_after ways net.buckets [] given

  room : HasRoom g
  room = (is.sizes.some_buckets, is.sizes.some_ways)

  -- the groupby with this number
  found : (group : GroupView) × (slice_get net.groups n ≡ Some group) × IsGroup net.switches d.part (wiring_at net.plan n) group
  found =
      let R : ℕ → GroupView → GroupPlan → Type 0 = λ k group part. IsGroup net.switches part (wiring_at net.plan k) group in
      let back = each_back R 0 net.groups net.plan.groups n _ is.groups d.there in
      (back.0, back.1, back.2 n (omega arith))

  all : AllMerged g given epochs
  all = all_merged ways found.0 (all_at group_is_drained net.groups n found.0 d.drained found.1) net.buckets given epochs
      (d.stands n found.0 found.1)

  rows_are : table.rows ≡ closed_rows (folding_of f) (all_epochs epochs)
  rows_are =
      let hold = all_hold ways net events 0 net.groups
      (λ k m group e h. let same : k ≡ m = omega arith in
      (d.stands m group (subst (λ x. slice_get net.groups x ≡ Some group) same h)).store) in
      let made = closed (epochs_from_on ways net events 0 net.groups) hold in
      let here = table_there ways net events 0 n n net.plan.groups net.groups d.part found.0 (omega arith) d.there found.1 in
      let is_table : table ≡ closed_table (heading_of d.part) (folding_in found.0) (all_epochs epochs) =
      same_some table (closed_table (heading_of d.part) (folding_in found.0) (all_epochs epochs))
      (sym there ∙ (ap (λ ts. slice_get ts n) made ∙ here)) in
      let kind = found.2.kind f d.program in
      let alike : AreAlike (folding_in found.0) (folding_of f) =
      record { row_per_epoch = kind.row_per_epoch; states = λ rows. kind.folded rows } in
      ap (λ (t : Table). t.rows)
      (is_table ∙ law.by_closed (heading_of d.part) (folding_in found.0) (folding_of f) (all_epochs epochs) alike)

  pub additive_rows : IsAdditiveFrom f (initial_state f)
      → table.rows ≡ map (λ key. exact_row (folding_of f) key (length (lists_of key (all_epochs epochs)))
      (rows_given key (all_events given))) (ascending (keys_given (all_events given)))
  additive_rows a =
      rows_are ∙ store_table f (folding_of f) g _ _ refl (rw (additive_class f a.valid a.additive)) a room all

  pub own_rows_are : (j at : ℕ) (key : Key) → AreWhole (packets_taken events) → IsSwitchPlace net.plan n j
      → AreTakenAt at (slice_index key j) events → has key (keys_given (all_events given)) ≡ true
      → filter (is_of_key key) table.rows ≡ closed_key_rows (folding_of f) (machine_at g at given).closed key
  own_rows_are j at key whole place theirs is_given =
      let keys = store_keys g given epochs room all in
      let there : has key (closed_keys (all_epochs epochs)) ≡ true = ap (has key) keys
      ∙ (has-ascending key (keys_given (all_events given)) ∙ is_given) in
      ap (filter (is_of_key key)) rows_are
      ∙ (key_has_rows (folding_of f) (all_epochs epochs) key there
      ∙ one_switch (folding_of f) g given epochs key at room all
      (λ other far. others_given net.plan n j at key place other far events whole theirs))
