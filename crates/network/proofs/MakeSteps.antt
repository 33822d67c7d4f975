-- What an event of one switch makes of a groupby, and of all groupbys side by side.
use Rattle.std.proofs.Common.{◌≡◌, ℕ, zero, suc, ◌<◌, ◌==◌, true, false, List, [], ◌∷◌, ◌++◌, length, replicate, get_or, set, Option, Some}
use Rattle.std.proofs.{Common.{Result, Ok, Err, OnOk, OnErr, refl, sym, ap, subst, ◌∙◌, arith, append-nil}, lemmas.Bool.lt-ltb}
use Rattle.std.{proofs.lemmas.Bool.Decides.nat_tests, specs.Prelude.slice_get}
use Rattle.epoch_model.specs.Machine.{Event, Evict, Merge}
use Rattle.additive_laws.specs.Network.{SwitchEpoch, SwitchEvent, all_epochs}
use Rattle.backing_store.specs.{Merged.StoreHolds, Store.Store}
use Rattle.epoch_entry.specs.{declared.any.AnyEpochs.AnyEpochs, contracts.any.AnyEpochsEpochKind.TheImpl.ghosts}
use Rattle.final_queries.specs.FinalLaws.{AreAlike}
use Rattle.stage_plan.specs.{Planned.wiring_at, Sound.PlanParts}
use Rattle.switch_core.specs.{FrontEvents.{Carries, CarriesFirst, with_store}, FrontParts.{FrontOf, front_of}, Pipelines.event_at}
use Rattle.switch_core.specs.{PlanLanes.LaneView, Rows.{Each, EachFrom}, Upkeeps.{IsKept, upkeep_events}, declared.upkeep.Upkeep.Upkeep}
use Rattle.switch_core.specs.declared.upkeep.Upkeep.TheVariants as due
use Rattle.switch_core.proofs.LaneFacts.{got_other, got_set, set_same}
use Rattle.switch_core.proofs.SideBySide.{each_map, each_set, got_below, got_here, same_some, untouched_start}
use Rattle.network.specs.Groups.{AreGroups, GroupKept, GroupStands, GroupView, folding_in, group_is_drained}
use Rattle.network.specs.Shared.{AllShare, FrontKept, merged_by}
use Rattle.network.specs.Events.{AreAllMerged, GroupBreaksOff, GroupMakes, GroupMakesAll, GroupsMake, IsLeft, LaneCarries, LeavesCache}
use Rattle.network.{specs.Events.{OthersStay, StaysBut, StoresStay, has_room, is_ready_at, with_lane}, proofs.GroupSteps.group_at}
use Rattle.network.proofs.SharedSteps.{each_on, fronts_same, kept_on, one_kept, set_set, store_on}
use Rattle.network.proofs.Sharing.{all_done, fronts_next, held_next}

-- events of a groupby, and of all groupbys, keep kinds and sizes

pub group_same : (a : GroupView) → GroupKept a a
group_same a = record { kind = refl; fronts = fronts_same 0 a.fronts; store = record { key_words = refl; state_words = refl } }

group_on : (a b c : GroupView) → GroupKept a b → GroupKept b c → GroupKept a c
group_on a b c one two = record {
  kind = two.kind ∙ one.kind;
  fronts = each_on _ _ _ 0 a.fronts b.fronts c.fronts (λ n x y z. kept_on x y z) one.fronts
      two.fronts;
  store = store_on _ _ _ one.store two.store;
}

one_made : (ways at : ℕ) (event : Event) (old new : GroupView) → GroupMakes ways at event old new → GroupKept old new
one_made _ at _ old _ m =
    let size = m.carries.sizes in
    let kept : FrontKept m.was (front_of m.now.kind m.now.cache m.now.pipe) = record {
      kind = size.kind;
      buckets = size.buckets;
      key_words = size.key_words;
      entry_words = size.entry_words;
      places = size.places;
    } in
    rw m.made (record {
      kind = refl;
      fronts = one_kept 0 at old.fronts m.was (front_of m.now.kind m.now.cache m.now.pipe) m.here kept;
      store = record { key_words = size.stored_key_words; state_words = size.state_words };
    })

pub makes_kept : (ways at : ℕ) (events : List Event) (old new : GroupView) → GroupMakesAll ways at events old new → GroupKept old new
makes_kept _ at [] old _ same = rw same (group_same old)
makes_kept ways at (event ∷ events) old new made =
    group_on _ _ _ (one_made ways at event old made.0 made.1) (makes_kept ways at events made.0 new made.2)

pub groups_kept : (ways at : ℕ) (events : ℕ → List Event) (olds news : List GroupView) → GroupsMake ways at events olds news
    → Each GroupKept olds news
groups_kept ways at events olds news made =
    each_map _ _ 0 olds news (λ j n a b q e f r. makes_kept ways at (events n) a b r)
    made

pub kept_after : (olds mids news : List GroupView) → Each GroupKept olds mids → Each GroupKept mids news → Each GroupKept olds news
kept_after olds mids news one two = each_on _ _ _ 0 olds mids news (λ n a b c. group_on a b c)
    one two

pub none_kept : (k : ℕ) (groups : List GroupView) → EachFrom (λ n. GroupKept) k groups groups
none_kept k [] = tt
none_kept k (x ∷ groups) = (group_same x, none_kept (suc k) groups)

-- the other switches' fronts

stays_but : (ways at : ℕ) (events : List Event) (old new : GroupView) → GroupMakesAll ways at events old new → StaysBut at old new
stays_but _ at [] _ _ same other _ = rw same
stays_but ways at (_ ∷ events) old new made other apart =
    let m = made.1 in
    stays_but ways at events made.0 new made.2 other apart
    ∙ (ap (λ (v : GroupView). slice_get v.fronts other) m.made
    ∙ got_other old.fronts at other (front_of m.now.kind m.now.cache m.now.pipe) apart)

pub others_stay : (ways at : ℕ) (events : ℕ → List Event) (olds news : List GroupView) → GroupsMake ways at events olds news
    → OthersStay at olds news
others_stay ways at events olds news made =
    each_map _ _ 0 olds news (λ j n a b q e f r. stays_but ways at (events n) a b r)
    made

pub none_changes : (at k : ℕ) (groups : List GroupView) → EachFrom (λ n. StaysBut at) k groups groups
none_changes at k [] = tt
none_changes at k (x ∷ groups) = (λ other apart. refl, none_changes at (suc k) groups)

-- what events of a front with the groupby's store make of the groupby

module _ (ways at : ℕ) where
  makes_with : (event : Event) (group : GroupView) (was : FrontOf AnyEpochs) (now : LaneView) → slice_get group.fronts at ≡ Some was
      → Carries ghosts.stands ghosts.folding ways event (with_store was group.store) now
      → ((buckets : ℕ) (events : List SwitchEvent) (merged : List SwitchEpoch) → GroupStands ways buckets group events merged
      → StoreHolds (folding_in group) now.store (all_epochs (merged ++ merged_by ways buckets at event events)))
      → GroupMakes ways at event group (with_lane at now group)
  makes_with event group was now here made held = record {
    was = was;
    here = here;
    now = now;
    carries = made;
    made = refl;
    stands = λ buckets events merged s. record {
      fronts = fronts_next ghosts.stands ghosts.folding ways buckets at event group.fronts was group.store now here made events merged
          s.fronts;
      store = held buckets events merged s;
    };
  }

  pub one_makes : (event : Event) (group : GroupView) (was : FrontOf AnyEpochs) (now : LaneView) → slice_get group.fronts at ≡ Some was
      → AreAlike (ghosts.folding was.kind) (folding_in group)
      → Carries ghosts.stands ghosts.folding ways event (with_store was group.store) now
      → GroupMakes ways at event group (with_lane at now group)
  one_makes event group was now here alike made = makes_with event group was now here made (λ buckets events merged s.
      held_next ghosts.stands ghosts.folding ways buckets at event group.fronts was group.store now here made events merged
      s.fronts (folding_in group) alike s.store)

  -- an eviction changes no store
  pub evict_makes : (bucket : ℕ) (group : GroupView) (was : FrontOf AnyEpochs) (now : LaneView) → slice_get group.fronts at ≡ Some was
      → Carries ghosts.stands ghosts.folding ways (Evict bucket) (with_store was group.store) now
      → GroupMakes ways at (Evict bucket) group (with_lane at now group)
  evict_makes bucket group was now here made = makes_with (Evict bucket) group was now here made
      (λ buckets events merged s. rw (append-nil merged, made.leaves.store) s.store)

  pub all_made : (events : List Event) (group : GroupView) (was : FrontOf AnyEpochs) (new : LaneView)
      → slice_get group.fronts at ≡ Some was → AreAlike (ghosts.folding was.kind) (folding_in group)
      → LaneCarries ways events (with_store was group.store) new → GroupMakesAll ways at events group (with_lane at new group)
  all_made [] group was _ here _ same =
      ap (λ (lane : LaneView). with_lane at lane group) same ∙ ap (λ xs. record group { fronts = xs }) (set_same group.fronts at was here)
  all_made (event ∷ events) group was new here alike made =
      let lane = made.0 in
      let middle = with_lane at lane group in
      let front = front_of lane.kind lane.cache lane.pipe in
      let there = got_set group.fronts at front (got_below group.fronts at was here) in
      let still : AreAlike (ghosts.folding lane.kind) (folding_in group) =
      subst (λ kind. AreAlike (ghosts.folding kind) (folding_in group)) (sym made.1.sizes.kind) alike in
      let last : with_lane at new middle ≡ with_lane at new group =
      ap (λ xs. record { kind = group.kind; fronts = xs; store = new.store })
      (set_set group.fronts at front (front_of new.kind new.cache new.pipe)) in (
        middle,
        one_makes event group was lane here alike made.1,
        subst (GroupMakesAll ways at events middle) last
            (all_made events middle front new there still made.2),
      )

  pub first_made : (events : List Event) (group : GroupView) (was : FrontOf AnyEpochs) (new : LaneView)
      → slice_get group.fronts at ≡ Some was → AreAlike (ghosts.folding was.kind) (folding_in group)
      → CarriesFirst ghosts.stands ghosts.folding ways events (with_store was group.store) new
      → GroupBreaksOff ways at events group (with_lane at new group)
  first_made _ group was new here alike broke = (broke.0, broke.1, all_made broke.0 group was new here alike broke.2)

-- the front that is found at a place is there
pub front_there : (view old : GroupView) (at : ℕ) (front : FrontOf AnyEpochs) → view ≡ old → at < length old.fronts
    → front ≡ get_or view.fronts at front → slice_get view.fronts at ≡ Some front
front_there view _ at front same within value =
    got_here view.fronts at front (rw same within)
    ∙ ap (λ (x : FrontOf AnyEpochs). Some x) (sym value)

-- a front and a store that are as they were
pub same_lane : (at : ℕ) (view : GroupView) (front new : FrontOf AnyEpochs) (store : Store) → slice_get view.fronts at ≡ Some front
    → new ≡ front → store ≡ view.store
    → with_lane at (with_store new store) view ≡ view
same_lane at view front _ store here same held =
    ap (λ x. with_lane at (with_store x store) view) same
    ∙ (ap (λ x. with_lane at (with_store front x) view) held ∙ ap (λ xs. record view { fronts = xs }) (set_same view.fronts at front here))

-- what an upkeep leaves
pub left_by : (ways : ℕ) (upkeep : Upkeep) (was : FrontOf AnyEpochs) (store : Store) (now : LaneView)
    → LaneCarries ways (upkeep_events upkeep was.cache was.pipe) (with_store was store) now
    → IsKept upkeep now.cache now.pipe → IsKept upkeep now.cache now.pipe × LeavesCache upkeep was.cache now.cache
left_by _ due.Room _ _ _ _ kept = (kept, tt)
left_by _ due.Lag _ _ _ _ kept = (kept, tt)
left_by _ due.Sweep _ _ _ _ kept = (kept, tt)
left_by ways due.Rest was store now made kept = (kept, merged (suc (length was.pipe.records)) (with_store was store) now made)
  where
    merged : (n : ℕ) (a b : LaneView) → LaneCarries ways (replicate n Merge) a b → b.cache ≡ a.cache
    merged zero a b same = rw same
    merged (suc n) a b m = merged n m.0 b m.2 ∙ m.1.leaves.cache

pub left_here : (upkeep : Upkeep) (o n : Option (FrontOf AnyEpochs)) (was now : FrontOf AnyEpochs) → o ≡ Some was → n ≡ Some now
    → IsLeft upkeep (Some was) (Some now) → IsLeft upkeep o n
left_here upkeep o n was _ e f left = rw (e, f) left

-- one groupby alone makes an event

pub make_one : (ways at lane : ℕ) (event : Event) (groups : List GroupView) (group new : GroupView) → slice_get groups lane ≡ Some group
    → GroupMakes ways at event group new
    → GroupsMake ways at (event_at lane event) groups (set groups lane new)
make_one ways at lane event groups group new here made =
    each_set _ _ 0 lane groups groups new
    (λ j n a b q apart r.
    let other : (n == lane) ≡ false = let d : n ≡ lane → ⊥ = λ z. apart (omega arith) in grind (arith, nat_tests) in
    rw (r (omega arith)) (rw other))
    (λ n x q e.
    let same : (n == lane) ≡ true = grind (arith, nat_tests) in
    rw same (rw (← same_some group x (sym here ∙ e)) (new, made, refl)))
    (untouched_start 0 0 groups)

pub stores_one : (lane : ℕ) (groups : List GroupView) (group new : GroupView) → slice_get groups lane ≡ Some group → new.store ≡ group.store
    → StoresStay groups (set groups lane new)
stores_one lane groups group new here same =
    each_set _ _ 0 lane groups groups new
    (λ j n a b q apart r. rw (r (omega arith)))
    (λ n x q e. rw (same, same_some group x (sym here ∙ e)))
    (untouched_start 0 0 groups)

-- whether a pipe has room, as a fact and as a test

pub room_at : (at : ℕ) (group : GroupView) (front : FrontOf AnyEpochs) → is_ready_at at group ≡ true
    → slice_get group.fronts at ≡ Some front → length front.pipe.records < front.pipe.places
room_at at group front ready e =
    let test = sym (ap has_room e) ∙ ready in
    grind (arith, nat_tests)

pub ready_at : (at : ℕ) (group : GroupView) (front : FrontOf AnyEpochs) → slice_get group.fronts at ≡ Some front
    → length front.pipe.records < front.pipe.places → is_ready_at at group ≡ true
ready_at at _ front here room = rw (here, lt-ltb (length front.pipe.records) front.pipe.places room)

-- what holds anyway holds after a refusal too
pub if_err : {X E : Type 0} (P : Type 0) (r : Result X E) → P → OnErr r P
if_err P (Ok x) p = tt
if_err P (Err e) p = p

pub if_ok : {X E : Type 0} (P : Type 0) (r : Result X E) → P → OnOk r P
if_ok P (Ok x) p = p
if_ok P (Err e) p = tt

-- a drained groupby has merged all that its switches closed
pub all_merged : (ways : ℕ) (group : GroupView) → group_is_drained group ≡ true → AreAllMerged ways group
all_merged ways group drained buckets events merged s = all_done ghosts.stands ways buckets group.fronts events merged drained s.fronts

-- a groupby of a network has a front for each switch
pub switch_within : (plan : PlanParts) (switches at n : ℕ) (groups : List GroupView) (group : GroupView) → at < switches
    → AreGroups plan switches groups → slice_get groups n ≡ Some group
    → at < length group.fronts
switch_within plan switches at n groups group within are here =
    let many = (group_at plan switches n groups _ are here).2.count in
    omega arith

-- and its fronts can share the store
pub shares_at : (plan : PlanParts) (switches n : ℕ) (groups : List GroupView) (group : GroupView) → AreGroups plan switches groups
    → slice_get groups n ≡ Some group
    → AllShare ghosts.sizes ghosts.folding (folding_in group) (length (wiring_at plan n).args) group.fronts group.store
shares_at plan switches n groups group are here = (group_at plan switches n groups _ are here).2.shares
