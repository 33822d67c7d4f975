-- The merged epochs of all switches give the rows of the definition.
use Rattle.std.proofs.Common.{◌≡◌, ◌≢◌, ℕ, suc, ◌<◌, true, false, Bool, ◌||◌, ◌==◌, List, [], ◌∷◌, ◌++◌, length, map, flat_map, slice_index}
use Rattle.std.proofs.Common.{Option, Some, None, refl, sym, ap, ◌∙◌, subst, inl, inr}
use Rattle.std.proofs.lemmas.List.Elements.{All-nil, All-cons, All-head, All-tail, All-filter}
use Rattle.std.specs.{Prelude.{slice_get, option_map, option_and_then}, List.list_any}
use Rattle.marple_base.specs.declared.field.TheConstants.{FIELDS}
use Rattle.query_lang.specs.{declared.{fold.TypedFold.TypedFold, typed.{Class.TheVariants.Linear, TypedQuery.TypedQuery}}, Words.AreWords}
use Rattle.query_lang.specs.{Folds.IsValidFold, Streams.{Taking, takings}}
use Rattle.stage_plan.specs.Uses.{uses}
use Rattle.fold_code.specs.Additive.{is_additive}
use Rattle.fold_class.specs.Kinds.{class_of}
use Rattle.epoch_model.specs.{declared.tables.Row.Row, Keys.{Key, ArgRow, key_eq, ascending}, TableLaws.keys_given}
use Rattle.epoch_model.specs.{Epochs.{Use, Geometry, epochs}, Machine.lists_of, Laws.{HasRoom, rows_given}}
use Rattle.epoch_model.specs.Driving.{Taken, use_at, uses_taken}
use Rattle.epoch_model.specs.Tables.{Folding, exact_row, keys_used, closed_key_rows, closed_keys, closed_rows, closed_epochs}
use Rattle.epoch_model.proofs.{KeyLists.by_test, Rows.no_row_is_lost_lem, TableRows.{closed-lists, flat_map-single}}
use Rattle.epoch_entry.specs.Foldings.{folding_of, per_epoch}
use Rattle.stage_plan.specs.{Packets.AreWhole, Planned.{IsPlanOf, taken}, Shape.GroupShape, Sound.PlanParts}
use Rattle.stage_plan.proofs.StreamRows as packetwise
use Rattle.final_queries.specs.declared.table.TableKind.TheVariants as kind
use Rattle.final_queries.specs.GroupTable.{closed_table}
use Rattle.query_tables.specs.Tables.{heading_of_shape}
use Rattle.additive_laws.specs.Pieces.{rows_joined}
use Rattle.additive_laws.specs.Network.{SwitchEvent, SwitchEpoch, all_events, all_epochs, epochs_at, events_at, machine_at, AllMerged}
use Rattle.additive_laws.specs.{Traces.{Step, HasPackets, IsRun, own_uses, whole_uses, taken_of}, TraceLaws.{rows_used, AreSwitchesOf}}
use Rattle.additive_laws.proofs.{StoreTables.store_table, OwnEpochs.own, Givens.{gives, keys_are}}
use Rattle.additive_laws.proofs.Counts.{added, of_one_switch, of_one, same_number, own_number, not_number}
use Rattle.net_wide.specs.NetTables.{switch_in, packets_at, switches, caches_of, uses_at, key_args, net_key_rows, net_rows, net_count}
use Rattle.net_wide.specs.NetTables.{net_table}
use Rattle.net_wide.specs.NetEnds.{IsSeen, AreSwitchesNumbered, net_steps, closed_pieces, MergedMakeTheTable, PiecesAreTheEpochs}
use Rattle.net_wide.proofs.{Combined.{HasSwitchKey, Combines, all_combine}, OneSwitch.none_closed}
use Rattle.net_wide.proofs.SameTexts.{flat_maps_alike, sums_alike, tells_switch, at_place}
use Rattle.net_wide.proofs.SwitchLists.{AreOnes, first, keys_of, ones, ones_rest, one_first, no_number, all_apart}

-- two ways to take, where the uses of one packet are the same

abbrev first_key : List Use → Key
first_key [] = []
first_key (u ∷ _) = u.key

abbrev first_row : List Use → ArgRow
first_row [] = []
first_row (u ∷ _) = u.row

same_taken : (a b : Option Taken) → use_at 1 a ++ [] ≡ use_at 1 b ++ [] → a ≡ b
same_taken None None e = refl
same_taken None (Some b) e = cc
same_taken (Some a) None e = cc
same_taken (Some a) (Some b) e =
    let k : a.key ≡ b.key = ap first_key e in
    let r : a.row ≡ b.row = ap first_row e in
    ap (λ x. Some (record { key = x; row = a.row })) k ∙ ap (λ x. Some (record { key = b.key; row = x })) r

seen_more : (words : List ℕ) (packets : List (List ℕ)) (s : ℕ) → IsSeen s packets → IsSeen s (words ∷ packets)
seen_more words packets s seen = or_right (switch_in words == s) (list_any (λ ws. switch_in ws == s) packets) seen
  where
    or_right : (a b : Bool) → b ≡ true → (a || b) ≡ true
    or_right true b e = refl
    or_right false b e = e

seen_first : (words : List ℕ) (packets : List (List ℕ)) → IsSeen (switch_in words) (words ∷ packets)
seen_first words packets = rw (own_number (switch_in words))

module _ (number : ℕ → ℕ) (take : List ℕ → Option Taken) (all : List (List ℕ)) where
  -- a number that no switch has gives nothing
  none_taken : (k : ℕ) → ((s : ℕ) → IsSeen s all → (number s == k) ≡ false) → (packets : List (List ℕ))
      → ((s : ℕ) → IsSeen s packets → IsSeen s all)
      → taken_of k (net_steps number take packets) ≡ []
  none_taken k _ [] _ = refl
  none_taken k none (words ∷ packets) sub =
      let t = none (switch_in words) (sub (switch_in words) (seen_first words packets)) in
      rw t (none_taken k none packets (λ s seen. sub s (seen_more words packets s seen)))

  -- a switch's number has what is taken of the switch's packets
  taken_own : AreSwitchesNumbered number all → (s : ℕ) → IsSeen s all → (packets : List (List ℕ))
      → ((a : ℕ) → IsSeen a packets → IsSeen a all)
      → taken_of (number s) (net_steps number take packets) ≡ map take (packets_at s packets)
  taken_own _ s _ [] _ = refl
  taken_own numbered s seen (words ∷ packets) sub =
      let rest = taken_own numbered s seen packets (λ a some. sub a (seen_more words packets a some)) in
      by_test (switch_in words == s)
      (λ t. let u : (number (switch_in words) == number s) ≡ true = ap (λ n. number n == number s) (same_number (switch_in words) s t)
      ∙ own_number (number s) in
      rw (t, u) (ap (λ ts. take words ∷ ts) rest))
      (λ t. let u : (number (switch_in words) == number s) ≡ false = by_test (number (switch_in words) == number s)
      (λ v. absurd (not_number (switch_in words) s t (numbered (switch_in words) s (sub (switch_in words) (seen_first words packets)) seen
      (same_number (number (switch_in words)) (number s) v))))
      (λ v. v) in
      rw (t, u) rest)

  -- what a key takes of one number alone, where each packet that gives it has that number
  module _ (key : Key) (one : ℕ) (only : (words : List ℕ) (t : Taken) → length words ≡ FIELDS → take words ≡ Some t
      → key_eq t.key key ≡ true
      → number (switch_in words) ≡ one) where
    rows_of_one : (n m : ℕ) (packets : List (List ℕ)) → AreWhole packets
        → rows_used key (uses_taken n (taken_of one (net_steps number take packets))) ≡ rows_used key (uses_taken m (map take packets))
    rows_of_one n m [] whole = refl
    rows_of_one n m (words ∷ packets) whole =
        by_test (number (switch_in words) == one)
        (λ t. rw t (here (take words) (rows_of_one (suc n) (suc m) packets (All-tail (λ w. length w ≡ FIELDS) words packets whole))))
        (λ t. rw t (there t (take words) refl (rows_of_one n (suc m) packets (All-tail (λ w. length w ≡ FIELDS) words packets whole))))
      where
        here : (o : Option Taken) → rows_used key (uses_taken (suc n) (taken_of one (net_steps number take packets))) ≡ rows_used key
            (uses_taken (suc m) (map take packets))
            → rows_used key (use_at n o ++ uses_taken (suc n) (taken_of one (net_steps number take packets))) ≡ rows_used key
            (use_at m o ++ uses_taken (suc m) (map take packets))
        here None h = h
        here (Some x) h = by_test (key_eq x.key key) (λ k. rw k (rw h)) (λ k. rw k h)

        there : (number (switch_in words) == one) ≡ false → (o : Option Taken) → take words ≡ o
            → rows_used key (uses_taken n (taken_of one (net_steps number take packets))) ≡ rows_used key
            (uses_taken (suc m) (map take packets))
            → rows_used key (uses_taken n (taken_of one (net_steps number take packets))) ≡ rows_used key
            (use_at m o ++ uses_taken (suc m) (map take packets))
        there t None is h = h
        there t (Some x) is h = by_test (key_eq x.key key)
            (λ k. absurd (not_number (number (switch_in words)) one t (only words x (All-head (λ w. length w ≡ FIELDS) words packets whole)
            is
            k)))
            (λ k. rw k h)

    rows_of_other : (k n : ℕ) → k ≢ one → (packets : List (List ℕ)) → AreWhole packets
        → rows_used key (uses_taken n (taken_of k (net_steps number take packets))) ≡ []
    rows_of_other k n d [] whole = refl
    rows_of_other k n d (words ∷ packets) whole =
        by_test (number (switch_in words) == k)
        (λ t. rw t (here t (take words) refl (rows_of_other k (suc n) d packets (All-tail (λ w. length w ≡ FIELDS) words packets whole))))
        (λ t. rw t (rows_of_other k n d packets (All-tail (λ w. length w ≡ FIELDS) words packets whole)))
      where
        here : (number (switch_in words) == k) ≡ true → (o : Option Taken) → take words ≡ o
            → rows_used key (uses_taken (suc n) (taken_of k (net_steps number take packets))) ≡ []
            → rows_used key (use_at n o ++ uses_taken (suc n) (taken_of k (net_steps number take packets))) ≡ []
        here t None _ h = h
        here t (Some x) is h = by_test (key_eq x.key key)
            (λ e. absurd (d (sym (same_number (number (switch_in words)) k t)
            ∙ only words x (All-head (λ w. length w ≡ FIELDS) words packets whole) is e)))
            (λ e. rw e h)

whole_taken : (number : ℕ → ℕ) (take : List ℕ → Option Taken) (packets : List (List ℕ))
    → map (λ one. one.taken) (net_steps number take packets) ≡ map take packets
whole_taken _ _ [] = refl
whole_taken number take (words ∷ packets) = rw (whole_taken number take packets)

module _ (q : TypedQuery) (plan : PlanParts) (buckets ways : ℕ) (packets : List (List ℕ)) (number : ℕ → ℕ) (p : IsPlanOf q plan)
    (room : HasRoom (caches_of buckets ways)) (whole : AreWhole packets) (numbered : AreSwitchesNumbered number packets) (i : ℕ)
    (within : i < length plan.groups)
    (events : List SwitchEvent) (merged : List SwitchEpoch) (has : HasPackets (net_steps number (taken plan i) packets) events)
    (all : AllMerged (caches_of buckets ways) events merged) where
  abbrev g : Geometry
  g = caches_of buckets ways

  abbrev take : List ℕ → Option Taken
  take words = taken plan i words

  abbrev steps : List Step
  steps = net_steps number take packets

  uses_are : whole_uses steps ≡ uses q i packets
  uses_are = rw (whole_taken number take packets, p.takes i packets within whole)

  own_lists : (key : Key) (k : ℕ) → lists_of key (epochs_at k merged) ≡ lists_of key (machine_at g k events).closed
  own_lists key k = rw (all.epochs k)

  -- a switch whose uses give the key no row closes none of it
  no_lists : (key : Key) (k : ℕ) → rows_used key (own_uses k steps) ≡ [] → lists_of key (epochs_at k merged) ≡ []
  no_lists key k none = own_lists key k ∙ none_closed key k g events merged room all k ((gives steps events has).own k key ∙ none)

  switches_of : (key : Key) → AreSwitchesOf key merged (map number (switches packets))
  switches_of key = record {
    apart = all_apart packets number numbered;
    others = λ k none.
        no_lists key k
        (rw (none_taken number take packets k (λ s seen. no_number packets number k s seen none) packets (λ s seen. seen)));
  }

  abbrev pieces : Key → List (List ArgRow)
  pieces key = closed_pieces number g events packets key

  pieces_from : (key : Key) (numbers : List ℕ)
      → flat_map (λ k. lists_of key (epochs_at k merged)) (map number numbers) ≡ flat_map
      (λ s. lists_of key (machine_at g (number s) events).closed) numbers
  pieces_from _ [] = refl
  pieces_from key (s ∷ numbers) =
      rw (own_lists key (number s), pieces_from key numbers)

  pieces_are : (key : Key) → flat_map (λ k. lists_of key (epochs_at k merged)) (map number (switches packets)) ≡ pieces key
  pieces_are key = pieces_from key (switches packets)

  counts_are : (key : Key) → length (lists_of key (all_epochs merged)) ≡ length (pieces key)
  counts_are key = rw (added key merged (map number (switches packets)) (switches_of key), pieces_are key)

  keys_same : closed_keys (all_epochs merged) ≡ keys_used (uses q i packets)
  keys_same = rw (keys_are buckets ways steps events merged room has all, uses_are)

  epochs_same : closed_epochs (all_epochs merged) ≡ net_count q i packets pieces
  epochs_same = rw (
    sums_alike (λ key. length (lists_of key (all_epochs merged))) (λ key. length (pieces key)) 0
        (closed_keys (all_epochs merged)) counts_are,
    keys_same,
  )

  abbrev net_row : Folding → Key → List Row
  net_row f key = net_key_rows f (pieces key) (key_args key (uses q i packets)) key

  abbrev exact : Folding → Key → Row
  exact f key = exact_row f key (length (lists_of key (all_epochs merged))) (rows_given key (all_events events))

  exact_is : (f : Folding) → f.row_per_epoch ≡ false → (key : Key) → exact f key ∷ [] ≡ net_row f key
  exact_is f one key =
      let rows = (gives steps events has).rows key
      ∙ ap (rows_used key) uses_are in
      rw one (rw (counts_are key, rows))

  -- an additive fold
  additive_rows : (f : TypedFold) → per_epoch (class_of f) ≡ false → IsValidFold f → is_additive f ≡ true → AreWords f.initial
      → closed_rows (folding_of f) (all_epochs merged) ≡ net_rows q i packets pieces (folding_of f)
  additive_rows f linear valid additive words =
      store_table f (folding_of f) g _ _ refl linear (record
      { valid = valid; additive = additive; size = valid.starts; words = words }) room all
      ∙ (rw (
        flat_map-single (λ key. exact (folding_of f) key ∷ []) (exact (folding_of f)) (ascending (keys_given (all_events events)))
            (λ key. refl),
        flat_maps_alike (λ key. exact (folding_of f) key ∷ []) (net_row (folding_of f))
            (ascending (keys_given (all_events events))) (exact_is (folding_of f) linear),
        (gives steps events has).keys,
        uses_are,
      ))

  -- a key that gives the switch
  module _ (t : Taking) (at : slice_get (takings q.streams) i ≡ Some t) (k : HasSwitchKey q t) (key : Key) where
    abbrev one : ℕ
    one = number (slice_index key k.at)

    abbrev read : List ℕ → Option Taken
    read words = option_map (packetwise.row_taken t) (packetwise.row_at (packetwise.all_rows q words) t.input)

    alone : (words : List ℕ) → length words ≡ FIELDS → AreWhole (words ∷ [])
    alone words size = All-cons (λ ws. length ws ≡ FIELDS) words [] size (All-nil _)

    take_is : (words : List ℕ) → length words ≡ FIELDS → take words ≡ read words
    take_is words size = same_taken (take words) (read words)
        (sym (p.takes i (words ∷ []) within (alone words size)) ∙ packetwise.uses_are q i t read at (λ ws long. refl) (words ∷ [])
        (alone words size))

    only : (words : List ℕ) (x : Taken) → length words ≡ FIELDS → take words ≡ Some x → key_eq x.key key ≡ true
        → number (switch_in words) ≡ one
    only words x size is e = ap number (tells_switch q i t at packets packets whole whole (λ s. refl) k key words x size
        (sym (take_is words size) ∙ is) e)

    others : (s : ℕ) → s ≢ one → lists_of key (epochs_at s merged) ≡ []
    others s d = no_lists key s (rows_of_other number take packets key one only s 1 d packets whole)

    lists : lists_of key (all_epochs merged) ≡ pieces key
    lists = of_one_switch key merged (map number (switches packets)) one (switches_of key) others ∙ pieces_are key

    args : rows_joined (lists_of key (all_epochs merged)) ≡ key_args key (uses q i packets)
    args =
        rw (
          of_one key one merged others,
          own_lists key one,
          closed-lists g (machine_at g one events) key (all.swept one),
          no_row_is_lost_lem g (events_at one events) key room,
          (gives steps events has).own one key,
          rows_of_one number take packets key
              one only 1 1 packets whole,
          p.takes i packets within whole,
        )

    key_rows_are : (f : Folding) → closed_key_rows f (all_epochs merged) key ≡ net_row f key
    key_rows_are f =
        rw (args, lists)

  switch_rows : (f : Folding) (t : Taking) → slice_get (takings q.streams) i ≡ Some t → HasSwitchKey q t
      → closed_rows f (all_epochs merged) ≡ net_rows q i packets pieces f
  switch_rows f t at k =
      rw (
        flat_maps_alike (closed_key_rows f (all_epochs merged)) (net_row f) (closed_keys (all_epochs merged))
            (λ key. key_rows_are t at k key f),
        keys_same,
      )

  table_is : (shape : GroupShape) (f : TypedFold) → closed_rows (folding_of f) (all_epochs merged) ≡ net_rows q i packets pieces
      (folding_of f)
      → closed_table (heading_of_shape shape) (folding_of f) (all_epochs merged) ≡ net_table q packets pieces i shape f
  table_is _ f rows = rw (epochs_same, rows)

pub make_the_table : ((f : TypedFold) → IsValidFold f → is_additive f ≡ true → class_of f ≡ Linear) → MergedMakeTheTable
make_the_table linear q plan buckets ways packets number valid none tells p room whole numbered i shape f events merged within at has all =
    table_is q plan buckets ways packets number p room whole numbered i within events merged has all shape f
    (go (slice_get (takings q.streams) i) refl at)
  where
    cut : Key → List (List ArgRow)
    cut key = closed_pieces number (caches_of buckets ways) events packets key

    rows_by : (t : Taking) → slice_get (takings q.streams) i ≡ Some t → slice_get q.folds t.fold_number ≡ Some f → Combines q t f
        → closed_rows (folding_of f) (all_epochs merged) ≡ net_rows q i packets cut (folding_of f)
    rows_by t e is (inl additive) =
        let sound = at_place IsValidFold q.folds t.fold_number f valid.folds is in
        additive_rows q plan buckets ways packets number p room whole numbered i within events merged has all f
        (ap per_epoch (linear f sound additive)) sound additive
        (at_place (λ f. AreWords f.initial) q.folds t.fold_number f tells.words is)
    rows_by t e _ (inr k) = switch_rows q plan buckets ways packets number p room whole numbered i within events merged has all
        (folding_of f) t e k

    go : (o : Option Taking) → slice_get (takings q.streams) i ≡ o → option_and_then (λ t. slice_get q.folds t.fold_number) o ≡ Some f
        → closed_rows (folding_of f) (all_epochs merged) ≡ net_rows q i packets cut (folding_of f)
    go None e is = cc
    go (Some t) e is = rows_by t e is (all_combine q [] q.streams none valid.streams tells.keys i t f e is)

-- where no eviction comes before the end
module _ (q : TypedQuery) (plan : PlanParts) (buckets ways : ℕ) (packets : List (List ℕ)) (number : ℕ → ℕ) (p : IsPlanOf q plan)
    (room : HasRoom (caches_of buckets ways)) (whole : AreWhole packets) (numbered : AreSwitchesNumbered number packets) (i : ℕ)
    (within : i < length plan.groups)
    (events : List SwitchEvent) (merged : List SwitchEpoch) (ran : IsRun (net_steps number (taken plan i) packets) events)
    (all : AllMerged (caches_of buckets ways) events merged) (key : Key) where
  abbrev cuts : Geometry
  cuts = caches_of buckets ways

  uses_of : (s : ℕ) → IsSeen s packets → own_uses (number s) (net_steps number (taken plan i) packets) ≡ uses_at q i packets s
  uses_of s seen =
      rw (
        taken_own number (taken plan i) packets numbered s seen packets (λ a some. some),
        p.takes i (packets_at s packets) within
            (All-filter (λ words. switch_in words == s) (λ words. length words ≡ FIELDS) packets whole),
      )

  epochs_of : (s : ℕ) → IsSeen s packets → lists_of key (machine_at cuts (number s) events).closed ≡ epochs cuts (uses_at q i packets s) key
  epochs_of s seen =
      ap (lists_of key) (sym (all.epochs (number s)))
      ∙ (own buckets ways (net_steps number (taken plan i) packets) events merged key (number s) room ran all
      ∙ ap (λ us. epochs cuts us key) (uses_of s seen))

  epochs_from : (keys : List Key) → AreOnes packets keys
      → flat_map (λ s. lists_of key (machine_at cuts (number s) events).closed) (map first keys) ≡ flat_map
      (λ s. epochs cuts (uses_at q i packets s) key) (map first keys)
  epochs_from [] o = refl
  epochs_from (k ∷ keys) o =
      let one = one_first packets k keys o in
      rw (
        epochs_of (first k) (subst (λ s. IsSeen s packets) (sym (ap first one.is)) one.seen),
        epochs_from keys
            (ones_rest packets k keys o),
      )

pub are_the_epochs : PiecesAreTheEpochs
are_the_epochs q plan buckets ways packets number p room whole numbered i events merged key within ran all =
    epochs_from q plan buckets ways packets number p room whole numbered i within events merged ran all key (keys_of packets) (ones packets)
