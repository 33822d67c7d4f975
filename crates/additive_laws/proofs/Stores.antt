-- The rows and the pieces of one key, of the events and the merged epochs of several switches.
use Rattle.std.proofs.Common.{◌≡◌, ℕ, true, false, ◌==◌, List, [], ◌∷◌, ◌++◌, map, filter, refl, sym, ap, ◌∙◌, if◌then◌else◌}
use Rattle.std.{proofs.lemmas.List.Sorted.IsPermutation-refl, specs.List.flat_map}
use Rattle.epoch_model.specs.{Keys.{Key, key_eq}, Epochs.Geometry, Laws.{HasRoom, rows_given}}
use Rattle.epoch_model.{specs.Machine.{Event, Packet, Evict, Merge, is_of, lists_of}, proofs.{KeyLists.by_test, Rows.no_row_is_lost_lem}}
use Rattle.epoch_model.proofs.TableRows.{closed-lists}
use Rattle.query_lang.specs.{declared.fold.TypedFold.TypedFold, Folds.folded}
use Rattle.additive_laws.specs.Pieces.{Given, Piece, rows_joined, all_rows, rows_from, lists_merged, lists_from, Interleaves}
use Rattle.additive_laws.specs.Network.{SwitchEvent, SwitchEpoch, all_events, events_at, all_epochs, epochs_at, machine_at, AllMerged}
use Rattle.additive_laws.{specs.Laws.IsAdditiveFrom, proofs.Orders.merged_any_order}

module _ (key : Key) where
  -- what an event gives the key
  abbrev taken : ℕ → Event → List Given
  taken s (Packet k row) = if key_eq k key then (record { switch = s; row = row } ∷ []) else []
  taken s (Evict bucket) = []
  taken s Merge = []

  abbrev pub given_at : List SwitchEvent → List Given
  given_at events = flat_map (λ e. taken e.switch e.event) events

  abbrev piece : SwitchEpoch → Piece
  piece e = record { switch = e.switch; rows = e.epoch.rows }

  abbrev pub pieces_at : List SwitchEpoch → List Piece
  pieces_at merged = map piece (filter (λ e. is_of key e.epoch) merged)

  event_rows : (s : ℕ) (event : Event) (more : List Given) (events : List Event) → all_rows more ≡ rows_given key events
      → all_rows (taken s event ++ more) ≡ rows_given key (event ∷ events)
  event_rows s (Packet k row) more events h = by_test (key_eq k key) (λ t. rw t (ap (λ rs. row ∷ rs) h)) (λ t. rw t h)
  event_rows s (Evict bucket) more events h = h
  event_rows s Merge more events h = h

  pub given_rows : (events : List SwitchEvent) → all_rows (given_at events) ≡ rows_given key (all_events events)
  given_rows [] = refl
  given_rows (e ∷ events) = event_rows e.switch e.event (given_at events) (all_events events) (given_rows events)

  own_rows : (s : ℕ) (k : ℕ) → (k == s) ≡ true → (event : Event) (more : List Given) (events : List Event)
      → rows_from s more ≡ rows_given key events → rows_from s (taken k event ++ more) ≡ rows_given key (event ∷ events)
  own_rows s k e (Packet j row) more events h = by_test (key_eq j key) (λ t. rw t (rw e (ap (λ rs. row ∷ rs) h))) (λ t. rw t h)
  own_rows s k e (Evict bucket) more events h = h
  own_rows s k e Merge more events h = h

  other_rows : (s : ℕ) (k : ℕ) → (k == s) ≡ false → (event : Event) (more : List Given)
      → rows_from s (taken k event ++ more) ≡ rows_from s more
  other_rows s k e (Packet j row) more = by_test (key_eq j key) (λ t. rw t (rw e refl)) (λ t. rw t refl)
  other_rows s k e (Evict bucket) more = refl
  other_rows s k e Merge more = refl

  given_from : (s : ℕ) (events : List SwitchEvent) → rows_from s (given_at events) ≡ rows_given key (events_at s events)
  given_from s [] = refl
  given_from s (e ∷ events) = by_test (e.switch == s)
      (λ t. rw t (own_rows s e.switch t e.event (given_at events) (events_at s events) (given_from s events)))
      (λ t. rw t (other_rows s e.switch t e.event (given_at events) ∙ given_from s events))

  pub lists_all : (merged : List SwitchEpoch) → lists_merged (pieces_at merged) ≡ lists_of key (all_epochs merged)
  lists_all [] = refl
  lists_all (e ∷ merged) = by_test (is_of key e.epoch) (λ t. rw t (ap (λ ls. e.epoch.rows ∷ ls) (lists_all merged)))
      (λ t. rw t (lists_all merged))

  lists_at : (s : ℕ) (merged : List SwitchEpoch) → lists_from s (pieces_at merged) ≡ lists_of key (epochs_at s merged)
  lists_at s [] = refl
  lists_at s (e ∷ merged) = by_test (is_of key e.epoch) (λ t. by_test (e.switch == s)
      (λ u. rw (t, u) (rw t (ap (λ ls. e.epoch.rows ∷ ls) (lists_at s merged)))) (λ u. rw (t, u) (lists_at s merged)))
      (λ t. by_test (e.switch == s) (λ u. rw (t, u) (rw t (lists_at s merged))) (λ u. rw (t, u) (lists_at s merged)))

  pub events_interleave : {g : Geometry} {events : List SwitchEvent} {merged : List SwitchEpoch} → HasRoom g → AllMerged g events merged
      → Interleaves (given_at events) (pieces_at merged)
  events_interleave {g} {events} {merged} room h s = given_from s events ∙ sym (no_row_is_lost_lem g (events_at s events) key room)
      ∙ ap rows_joined (sym (closed-lists g (machine_at g s events) key (h.swept s)))
      ∙ ap (λ es. rows_joined (lists_of key es)) (sym (h.epochs s)) ∙ ap rows_joined (sym (lists_at s merged))

pub store_folds : (f : TypedFold) (state : List ℕ) (g : Geometry) (events : List SwitchEvent) (merged : List SwitchEpoch) (key : Key)
    → IsAdditiveFrom f state → HasRoom g → AllMerged g events merged →
    folded f state (rows_joined (lists_of key (all_epochs merged))) ≡ folded f state (rows_given key (all_events events))
store_folds f state g events merged key h room a = ap (λ ls. folded f state (rows_joined ls)) (sym (lists_all key merged))
    ∙ merged_any_order f state (given_at key events) (pieces_at key merged) (pieces_at key merged) h
    (events_interleave key room a) (IsPermutation-refl (pieces_at key merged)) ∙ ap (folded f state) (given_rows key events)
