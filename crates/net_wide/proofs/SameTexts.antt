-- Lists that have the same packets of each switch have the same tables.
use Rattle.std.proofs.Common.{◌≡◌, ℕ, suc, ◌+◌, true, List, [], ◌∷◌, ◌++◌, length, map, flat_map, fold, slice_index, Option, Some, None}
use Rattle.std.proofs.{Common.{refl, sym, ap, subst, ◌∙◌, inl, inr}, lemmas.List.{get_or-map, Elements.All-head}}
use Rattle.std.{proofs.lemmas.Option.{slice_get_within, get_or_from_slice_get}, specs.Prelude.{slice_get, option_map, option_and_then}}
use Rattle.std.specs.List.{All}
use Rattle.marple_base.specs.declared.field.TheConstants.{FIELDS}
use Rattle.epoch_model.specs.{declared.tables.Row.Row, Keys.{Key, ArgRow, key_eq}, Epochs.{Geometry, epochs}, Driving.{Taken, uses_taken}}
use Rattle.epoch_model.{specs.Tables.{Folding, keys_used}, proofs.KeyLists.key_eq-true}
use Rattle.query_lang.specs.{declared.{fold.TypedFold.TypedFold, typed.TypedQuery.TypedQuery}, Words.AreWords, Folds.{IsValidFold, folded}}
use Rattle.query_lang.specs.{Streams.{Tuple, Taking, takings, stream}, TypedQueries.IsValidQuery}
use Rattle.stage_plan.specs.Uses.{uses}
use Rattle.epoch_entry.specs.Foldings.{folding_of}
use Rattle.stage_plan.specs.{Packets.AreWhole, Shape.{GroupShape, query_groups}}
use Rattle.stage_plan.proofs.StreamRows as packetwise
use Rattle.final_queries.specs.declared.table.TableKind.TheVariants as kind
use Rattle.additive_laws.{specs.Pieces.all_rows, proofs.Orders.any_interleaving}
use Rattle.net_wide.specs.{Combining.net_fault, NetTables.{switch_in, switches, uses_at, caches_of, net_epochs, key_args, net_key_rows}}
use Rattle.net_wide.specs.NetTables.{net_rows, net_count, net_table, net_table_if, net_pieces, net_tables_from, net_tables, net_text}
use Rattle.net_wide.specs.{NetTables.tables_of_pieces, NetLaws.{SameOfEachSwitch, TellsSwitches, SwitchesDoNotWait}}
use Rattle.net_wide.proofs.Taking.{given, args_given, same_of_each, alone, same_keys_used, same_switches}
use Rattle.net_wide.proofs.Combined.{HasSwitchKey, Combines, all_combine}

pub flat_maps_alike : {A B : Type 0} (f h : A → List B) (xs : List A) → ((x : A) → f x ≡ h x) → flat_map f xs ≡ flat_map h xs
flat_maps_alike f h [] e = refl
flat_maps_alike f h (x ∷ xs) e = rw (e x, flat_maps_alike f h xs e)

pub sums_alike : {A : Type 0} (f h : A → ℕ) (start : ℕ) (xs : List A) → ((x : A) → f x ≡ h x)
    → fold (λ a x. a + f x) start xs ≡ fold (λ a x. a + h x) start xs
sums_alike f h _ [] e = refl
sums_alike f h start (x ∷ xs) e = rw (e x, sums_alike f h (start + h x) xs e)

-- a key's rows are the same where its epochs are the same, and its argument rows lead to the same state
key_rows_alike : (f : Folding) (pieces others : List (List ArgRow)) (args more : List ArgRow) (key : Key) → pieces ≡ others
    → fold f.step f.initial args ≡ fold f.step f.initial more
    → net_key_rows f pieces args key ≡ net_key_rows f others more key
key_rows_alike f _ others args _ key same state =
    rw (same, state)

module _ (q : TypedQuery) (i : ℕ) (t : Taking) (at : slice_get (takings q.streams) i ≡ Some t) (packets other : List (List ℕ))
    (whole : AreWhole packets) (other_whole : AreWhole other) (same : SameOfEachSwitch packets other) where
  -- what the groupby takes of one packet
  abbrev take : List ℕ → Option Taken
  take words = option_map (packetwise.row_taken t) (packetwise.row_at (packetwise.all_rows q words) t.input)

  taken_of : (ps : List (List ℕ)) → AreWhole ps → uses q i ps ≡ uses_taken 1 (map take ps)
  taken_of ps whole = packetwise.uses_are q i t take at (λ words size. refl) ps whole

  args_of : (ps : List (List ℕ)) (key : Key) → AreWhole ps → key_args key (uses q i ps) ≡ all_rows (given take key ps)
  args_of ps key whole = rw (taken_of ps whole, args_given take key 1 ps)

  pub keys_alike : keys_used (uses q i packets) ≡ keys_used (uses q i other)
  keys_alike = rw (taken_of packets whole, same_keys_used take packets other same, taken_of other other_whole)

  -- a packet that gives the key has the switch that is in the key
  pub tells_switch : (k : HasSwitchKey q t) (key : Key) (words : List ℕ) (one : Taken) → length words ≡ FIELDS → take words ≡ Some one
      → key_eq one.key key ≡ true → switch_in words ≡ slice_index key k.at
  tells_switch k key words one size is e = go (packetwise.row_at (packetwise.all_rows q words) t.input) refl is
    where
      go : (o : packetwise.Row) → packetwise.row_at (packetwise.all_rows q words) t.input ≡ o
          → option_map (packetwise.row_taken t) o ≡ Some one → switch_in words ≡ slice_index key k.at
      go None row is = cc
      go (Some row) r is =
          let tuple : Tuple = record { packet = 1; row = row } in
          let alone : stream q t.input (words ∷ []) ≡ tuple ∷ [] = packetwise.stream_rows q t.input (words ∷ [])
          ∙ ap (λ o. packetwise.tuple_of 1 o ++ []) r in
          let slot : slice_index row (slice_index t.keys k.at) ≡ switch_in words =
          All-head (λ (u : Tuple). slice_index u.row (slice_index t.keys k.at) ≡ switch_in words) tuple []
          (subst (All (λ (u : Tuple). slice_index u.row (slice_index t.keys k.at) ≡ switch_in words)) alone (k.slot words size)) in
          let keyed : packetwise.row_taken t row ≡ one = cc in
          sym slot
          ∙ (sym (get_or-map (λ slot. slice_index row slot) t.keys k.at 0 0 k.within)
          ∙ (ap (λ (u : Taken). slice_index u.key k.at) keyed ∙ ap (λ ks. slice_index ks k.at) (key_eq-true one.key key e)))

  state_alike : (f : TypedFold) (key : Key) → IsValidFold f → AreWords f.initial → Combines q t f
      → folded f f.initial (key_args key (uses q i packets)) ≡ folded f f.initial (key_args key (uses q i other))
  state_alike f key valid words c =
      rw (args_of packets key whole, by_case c, args_of other key other_whole)
    where
      by_case : Combines q t f → folded f f.initial (all_rows (given take key packets)) ≡ folded f f.initial
          (all_rows (given take key other))
      by_case (inl additive) = any_interleaving f f.initial (given take key packets) (given take key other)
          (record { valid = valid; additive = additive; size = valid.starts; words = words }) (same_of_each take key packets other same)
      by_case (inr k) = rw (
        alone take key (slice_index key k.at) (tells_switch k key) packets whole,
        same_of_each take key packets other
            same (slice_index key k.at),
        alone take key (slice_index key k.at) (tells_switch k key) other other_whole,
      )

  epochs_alike : (g : Geometry) (key : Key) → net_epochs q i g packets key ≡ net_epochs q i g other key
  epochs_alike g key =
      rw (
        flat_maps_alike (λ s. epochs g (uses_at q i packets s) key) (λ s. epochs g (uses_at q i other s) key) (switches packets)
            (λ s. ap (λ ps. epochs g (uses q i ps) key) (same s)),
        same_switches packets other same,
      )

  count_alike : (g : Geometry) → net_count q i packets (net_epochs q i g packets) ≡ net_count q i other (net_epochs q i g other)
  count_alike g = rw (
    sums_alike (λ key. length (net_epochs q i g packets key)) (λ key. length (net_epochs q i g other key)) 0
        (keys_used (uses q i packets)) (λ key. ap length (epochs_alike g key)),
    keys_alike,
  )

  rows_alike : (g : Geometry) (f : TypedFold) → IsValidFold f → AreWords f.initial → Combines q t f
      → net_rows q i packets (net_epochs q i g packets) (folding_of f) ≡ net_rows q i other (net_epochs q i g other) (folding_of f)
  rows_alike g f valid words c =
      rw (
        flat_maps_alike (λ key. net_key_rows (folding_of f) (net_epochs q i g packets key) (key_args key (uses q i packets)) key)
            (λ key. net_key_rows (folding_of f) (net_epochs q i g other key) (key_args key (uses q i other)) key)
            (keys_used (uses q i packets)) (λ key. key_rows_alike (folding_of f) (net_epochs q i g packets key) (net_epochs q i g other key)
            (key_args key (uses q i packets)) (key_args key (uses q i other)) key (epochs_alike g key) (state_alike f key valid words c)),
        keys_alike,
      )

  pub table_alike : (g : Geometry) (shape : GroupShape) (f : TypedFold) → IsValidFold f → AreWords f.initial → Combines q t f
      → net_table q packets (net_epochs q i g packets) i shape f ≡ net_table q other (net_epochs q i g other) i shape f
  table_alike g _ f valid words c = rw (count_alike g, rows_alike g f valid words c)

pub at_place : {A : Type 0} (P : A → Type 0) (xs : List A) (i : ℕ) (x : A) → All P xs → slice_get xs i ≡ Some x → P x
at_place P xs i x all e = rw (← get_or_from_slice_get xs i x x e) (all i x (slice_get_within xs i x e))

module _ (q : TypedQuery) (g : Geometry) (packets other : List (List ℕ)) (valid : IsValidQuery q) (none : net_fault q ≡ None)
    (tells : TellsSwitches q)
    (whole : AreWhole packets) (other_whole : AreWhole other) (same : SameOfEachSwitch packets other) where
  one_alike : (i : ℕ) (shape : GroupShape) (o : Option Taking) → slice_get (takings q.streams) i ≡ o
      → net_table_if q packets (net_epochs q i g packets) i shape (option_and_then (λ t. slice_get q.folds t.fold_number) o) ≡ net_table_if
      q other (net_epochs q i g other) i shape (option_and_then (λ t. slice_get q.folds t.fold_number) o)
  one_alike i _ None at = refl
  one_alike i shape (Some t) at = go (slice_get q.folds t.fold_number) refl
    where
      go : (o : Option TypedFold) → slice_get q.folds t.fold_number ≡ o
          → net_table_if q packets (net_epochs q i g packets) i shape o ≡ net_table_if q other (net_epochs q i g other) i shape o
      go None _ = refl
      go (Some f) is =
          ap (λ table. table ∷ []) (table_alike q i t at packets other whole other_whole same g shape f
          (at_place IsValidFold q.folds t.fold_number f valid.folds is)
          (at_place (λ f. AreWords f.initial) q.folds t.fold_number f tells.words is)
          (all_combine q [] q.streams none valid.streams tells.keys i t f at is))

  all_alike : (i : ℕ) (shapes : List GroupShape) → net_tables_from q packets (net_pieces q g packets) i shapes ≡ net_tables_from q other
      (net_pieces q g other) i shapes
  all_alike i [] = refl
  all_alike i (shape ∷ shapes) =
      rw (one_alike i shape (slice_get (takings q.streams) i) refl, all_alike (suc i) shapes)

  pub tables_alike : net_tables q g packets ≡ net_tables q g other
  unfolding tables_of_pieces
  tables_alike = all_alike 0 (query_groups q)

pub same_text : SwitchesDoNotWait
unfolding net_text
same_text q buckets ways packets other valid none tells whole other_whole same =
    rw (tables_alike q (caches_of buckets ways) packets other valid none tells whole other_whole same)
