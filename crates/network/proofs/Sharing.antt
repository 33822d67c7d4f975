-- What an event of one switch makes of the fronts of all, and of the store that they share.
use Rattle.std.proofs.Common.{◌≡◌, ◌≢◌, ℕ, zero, suc, true, false, ◌==◌, List, [], ◌∷◌, ◌++◌, length, filter, take, replicate, get_or, set}
use Rattle.std.proofs.{Common.{Option, Some, None, refl, sym, ap, subst, ◌∙◌, arith, append-nil, ◌⊎◌, inl, inr}, Math.Seq.take-length}
use Rattle.std.{proofs.lemmas.{Bool.Decides.nat_tests, List.{map-append, Elements.filter-append}}, specs.{List.list_all, Prelude.slice_get}}
use Rattle.epoch_model.specs.{Epochs.Geometry, Machine.{Epoch, Machine, Event, step, run, empty_machine}, Tables.Folding, Timeline.IsSwept}
use Rattle.epoch_model.proofs.{KeyLists.by_test, Turns.run-append}
use Rattle.backing_store.specs.{Store.Store, Merged.StoreHolds}
use Rattle.final_queries.specs.FinalLaws.{AreAlike}
use Rattle.switch_core.specs.{Closing.is_drained, FrontEvents.{Carries, merges_of, with_store}, FrontParts.{FrontOf, LaneOf, front_of}}
use Rattle.switch_core.{specs.Lanes.{Standing, FrontStands, geometry}, proofs.{Carrying.merged_after, Drained.drained_is_done}}
use Rattle.switch_core.proofs.{LaneFacts.{all_at, got_other, got_set}, SideBySide.{same_some, got_below}}
use Rattle.additive_laws.specs.Network.{SwitchEvent, SwitchEpoch, all_events, events_at, all_epochs, epochs_at, machine_at, AllMerged}
use Rattle.net_wide.specs.NetTables.{caches_of}
use Rattle.network.{specs.Shared.{FrontsStand, epochs_from, with_event}, proofs.SharedSteps.{alike_back, holds_alike}}

-- events and epochs, some after the others

events_more : (s : ℕ) (events : List SwitchEvent) (e : SwitchEvent)
    → events_at s (events ++ e ∷ []) ≡ events_at s events ++ events_at s (e ∷ [])
events_more s events e =
    ap all_events (filter-append (λ x. x.switch == s) events (e ∷ []))
    ∙ map-append (λ x. x.event) (filter (λ x. x.switch == s) events) (filter (λ x. x.switch == s) (e ∷ []))

epochs_more : (s : ℕ) (merged more : List SwitchEpoch) → epochs_at s (merged ++ more) ≡ epochs_at s merged ++ epochs_at s more
epochs_more s merged more =
    ap all_epochs (filter-append (λ x. x.switch == s) merged more)
    ∙ map-append (λ x. x.epoch) (filter (λ x. x.switch == s) merged) (filter (λ x. x.switch == s) more)

own_epochs : (k s : ℕ) (epochs : List Epoch) → (k == s) ≡ true → epochs_at s (epochs_from k epochs) ≡ epochs
own_epochs k s [] e = refl
own_epochs k s (x ∷ xs) e = rw e (ap (λ es. x ∷ es) (own_epochs k s xs e))

no_epochs : (k s : ℕ) (epochs : List Epoch) → (k == s) ≡ false → epochs_at s (epochs_from k epochs) ≡ []
no_epochs k s [] e = refl
no_epochs k s (x ∷ xs) e = rw e (no_epochs k s xs e)

all_from : (k : ℕ) (epochs : List Epoch) → all_epochs (epochs_from k epochs) ≡ epochs
all_from k [] = refl
all_from k (x ∷ xs) = ap (λ es. x ∷ es) (all_from k xs)

module _ (g : Geometry) (k : ℕ) (event : Event) (events : List SwitchEvent) (s : ℕ) where
  machine_next : (k == s) ≡ true → machine_at g s (with_event events k event) ≡ step g (machine_at g s events) event
  machine_next t =
      let one : events_at s (record { switch = k; event = event } ∷ []) ≡ event ∷ [] = rw t in
      ap (λ es. run g es (empty_machine g)) (events_more s events (record { switch = k; event = event })
      ∙ ap (λ l. events_at s events ++ l) one)
      ∙ run-append g (events_at s events) (event ∷ []) (empty_machine g)

  events_same : (k == s) ≡ false → events_at s (with_event events k event) ≡ events_at s events
  events_same t =
      let one : events_at s (record { switch = k; event = event } ∷ []) ≡ [] = rw t in
      events_more s events (record { switch = k; event = event })
      ∙ (ap (λ l. events_at s events ++ l) one ∙ append-nil (events_at s events))

  machine_same : (k == s) ≡ false → machine_at g s (with_event events k event) ≡ machine_at g s events
  machine_same t = ap (λ es. run g es (empty_machine g)) (events_same t)

module _ {K : Type 0} (means : K → Standing) (folding : K → Folding) (ways buckets k : ℕ) (event : Event) (fronts : List (FrontOf K))
    (was : FrontOf K) (store : Store) (now : LaneOf K)
    (here : slice_get fronts k ≡ Some was) (made : Carries means folding ways event (with_store was store) now)
    (events : List SwitchEvent) (merged : List SwitchEpoch)
    (stand : FrontsStand means ways buckets fronts events merged) where
  abbrev g : Geometry
  g = caches_of buckets ways

  abbrev m : Machine
  m = machine_at g k events

  abbrev more : List SwitchEpoch
  more = epochs_from k (merges_of event m)

  abbrev new : FrontOf K
  new = front_of now.kind now.cache now.pipe

  now_is : slice_get (set fronts k new) k ≡ Some new
  now_is = got_set fronts k new (got_below fronts k was here)

  same_place : (s : ℕ) → (k == s) ≡ true → k ≡ s
  same_place s t = grind (arith, nat_tests)

  apart : (s : ℕ) → (k == s) ≡ false → s ≢ k
  apart s t e = let yes : (k == s) ≡ true = grind (arith, nat_tests) in let wrong : true ≡ false = sym yes ∙ t in cc

  is_now : (s : ℕ) (front : FrontOf K) → (k == s) ≡ true → slice_get (set fronts k new) s ≡ Some front → front ≡ new
  is_now s front t e = same_some front new (sym e ∙ (ap (slice_get (set fronts k new)) (sym (same_place s t)) ∙ now_is))

  other : (s : ℕ) → (k == s) ≡ false → slice_get fronts s ≡ slice_get (set fronts k new) s
  other s t = sym (got_other fronts k s new (apart s t))

  stands_now : FrontStands (means now.kind) now.cache now.pipe (step g m event)
  stands_now =
      let size : length was.cache.lists ≡ buckets = stand.sizes k was here in
      subst (λ b. FrontStands (means now.kind) now.cache now.pipe (step (record { buckets = b; ways = ways; refresh = 0 }) m event)) size
      (made.stands m (stand.each k was here))

  sizes : (s : ℕ) (front : FrontOf K) → slice_get (set fronts k new) s ≡ Some front → length front.cache.lists ≡ buckets
  sizes s front e = by_test (k == s)
      (λ t. ap (λ (x : FrontOf K). length x.cache.lists) (is_now s front t e) ∙ (made.sizes.buckets ∙ stand.sizes k was here))
      (λ t. stand.sizes s front (other s t ∙ e))

  each : (s : ℕ) (front : FrontOf K) → slice_get (set fronts k new) s ≡ Some front
      → FrontStands (means front.kind) front.cache front.pipe (machine_at g s (with_event events k event))
  each s front e = by_test (k == s)
      (λ t. subst (λ (x : FrontOf K). FrontStands (means x.kind) x.cache x.pipe (machine_at g s (with_event events k event)))
      (sym (is_now s front t e))
      (subst (FrontStands (means now.kind) now.cache now.pipe)
      (sym (machine_next g k event events s t ∙ ap (λ n. step g (machine_at g n events) event) (sym (same_place s t)))) stands_now))
      (λ t. subst (FrontStands (means front.kind) front.cache front.pipe) (sym (machine_same g k event events s t))
      (stand.each s front (other s t ∙ e)))

  none : (s : ℕ) → slice_get (set fronts k new) s ≡ None → events_at s (with_event events k event) ≡ []
  none s e = by_test (k == s)
      (λ t. let wrong : Some new ≡ None = sym now_is ∙ (ap (slice_get (set fronts k new)) (same_place s t) ∙ e) in cc)
      (λ t. events_same g k event events s t ∙ stand.none s (other s t ∙ e))

  order : (s : ℕ) → epochs_at s (merged ++ more) ≡ take (machine_at g s (with_event events k event)).merged
      (machine_at g s (with_event events k event)).closed
  order s = epochs_more s merged more ∙ by_test (k == s)
      (λ t. let at = same_place s t in
      ap (λ es. epochs_at s merged ++ es) (own_epochs k s (merges_of event m) t)
      ∙ (ap (λ es. es ++ merges_of event m) (stand.order s)
      ∙ (ap (λ n. take (machine_at g n events).merged (machine_at g n events).closed ++ merges_of event m) (sym at)
      ∙ (sym (merged_after g m event (stand.each k was here).few)
      ∙ ap (λ (x : Machine). take x.merged x.closed) (ap (λ n. step g (machine_at g n events) event) at
      ∙ sym (machine_next g k event events s t))))))
      (λ t. ap (λ es. epochs_at s merged ++ es) (no_epochs k s (merges_of event m) t)
      ∙ (append-nil (epochs_at s merged) ∙ (stand.order s
      ∙ ap (λ (x : Machine). take x.merged x.closed) (sym (machine_same g k event events s t)))))

  -- the fronts after the event
  pub fronts_next : FrontsStand means ways buckets (set fronts k new) (with_event events k event) (merged ++ more)
  fronts_next = record { sizes = sizes; each = each; none = none; order = order }

  -- what a store holds after it, whose folding is alike
  pub held_next : (f : Folding) → AreAlike (folding was.kind) f → StoreHolds f store (all_epochs merged)
      → StoreHolds f now.store (all_epochs (merged ++ more))
  held_next f alike held =
      let all : all_epochs (merged ++ more) ≡ all_epochs merged ++ merges_of event m =
      map-append (λ (x : SwitchEpoch). x.epoch) merged more ∙ ap (λ es. all_epochs merged ++ es) (all_from k (merges_of event m)) in
      let still : AreAlike (folding now.kind) f = subst (λ kind. AreAlike (folding kind) f) (sym made.sizes.kind) alike in
      subst (StoreHolds f now.store) (sym all)
      (holds_alike (folding now.kind) f now.store (all_epochs merged ++ merges_of event m) still
      (made.held m (all_epochs merged) (stand.each k was here)
      (holds_alike f (folding was.kind) store (all_epochs merged) (alike_back (folding was.kind) f alike) held)))

-- the events of a switch without a front, which are none
no_machine : (g : Geometry) (s : ℕ) (events : List SwitchEvent) → events_at s events ≡ [] → machine_at g s events ≡ empty_machine g
no_machine g s events e = ap (λ es. run g es (empty_machine g)) e

none_at : {X : Type 0} (n i : ℕ) (d : X) → get_or (replicate n d) i d ≡ d
none_at zero i d = refl
none_at (suc n) zero d = refl
none_at (suc n) (suc i) d = none_at n i d

-- one front more

pub got_push : {X : Type 0} (xs : List X) (x y : X) (s : ℕ) → slice_get (xs ++ x ∷ []) s ≡ Some y
    → (slice_get xs s ≡ Some y) ⊎ ((slice_get xs s ≡ None) × (x ≡ y))
got_push [] x y zero e = inr (refl, same_some x y e)
got_push [] x y (suc s) e = cc
got_push (z ∷ xs) x y zero e = inl e
got_push (z ∷ xs) x y (suc s) e = got_push xs x y s e

none_push : {X : Type 0} (xs : List X) (x : X) (s : ℕ) → slice_get (xs ++ x ∷ []) s ≡ None → slice_get xs s ≡ None
none_push [] x s e = refl
none_push (z ∷ xs) x zero e = cc
none_push (z ∷ xs) x (suc s) e = none_push xs x s e

pub one_more_stands : {K : Type 0} (means : K → Standing) (ways buckets : ℕ) (fronts : List (FrontOf K)) (front : FrontOf K)
    (events : List SwitchEvent) (merged : List SwitchEpoch) → length front.cache.lists ≡ buckets
    → FrontStands (means front.kind) front.cache front.pipe (empty_machine (geometry ways front.cache))
    → FrontsStand means ways buckets fronts events merged → FrontsStand means ways buckets (fronts ++ front ∷ []) events merged
one_more_stands {K = K} means ways buckets fronts front events merged size stands old = record {
  sizes = λ s x e. elim (got_push fronts front x s e) [
    | inl there ↦ old.sizes s x there
    | inr new ↦ subst (λ (y : FrontOf K). length y.cache.lists ≡ buckets) new.1 size
  ];
  each = λ s x e. elim (got_push fronts front x s e) [
    | inl there ↦ old.each s x there
    | inr new ↦
        subst (λ (y : FrontOf K). FrontStands (means y.kind) y.cache y.pipe (machine_at (caches_of buckets ways) s events)) new.1
        (subst (FrontStands (means front.kind) front.cache front.pipe)
        (sym (no_machine (caches_of buckets ways) s events (old.none s new.0)))
        (subst (λ b. FrontStands (means front.kind) front.cache front.pipe
        (empty_machine (record { buckets = b; ways = ways; refresh = 0 }))) size stands))
  ];
  none = λ s e. old.none s (none_push fronts front s e);
  order = old.order;
}

-- when all is drained, each switch's epochs are closed and merged
pub all_done : {K : Type 0} (means : K → Standing) (ways buckets : ℕ) (fronts : List (FrontOf K)) (events : List SwitchEvent)
    (merged : List SwitchEpoch) → list_all (λ (front : FrontOf K). is_drained front.cache front.pipe) fronts ≡ true
    → FrontsStand means ways buckets fronts events merged → AllMerged (caches_of buckets ways) events merged
all_done {K = K} means ways buckets fronts events merged drained stand = record {
  swept = λ s. (done s (slice_get fronts s) refl).0;
  epochs = λ s. let m = machine_at (caches_of buckets ways) s events in stand.order s
      ∙ (ap (λ n. take n m.closed) (done s (slice_get fronts s) refl).1 ∙ take-length m.closed);
}
  where
    done : (s : ℕ) (o : Option (FrontOf K)) → slice_get fronts s ≡ o → IsSwept (machine_at (caches_of buckets ways) s events)
        × ((machine_at (caches_of buckets ways) s events).merged ≡ length (machine_at (caches_of buckets ways) s events).closed)
    done s None e =
        subst (λ m. IsSwept m × (m.merged ≡ length m.closed)) (sym (no_machine (caches_of buckets ways) s events (stand.none s e)))
        ((λ bucket. none_at buckets bucket [], refl))
    done s (Some front) e =
        drained_is_done (means front.kind) front.cache front.pipe
        (all_at (λ (x : FrontOf K). is_drained x.cache x.pipe) fronts s front drained e)
        (machine_at (caches_of buckets ways) s events) (stand.each s front e)
