-- What events make of a front and the store that it is handed, one after another.
use Rattle.std.proofs.Common.{◌≡◌, ℕ, ◌+◌, ◌-◌, ◌≤◌, List, [], ◌∷◌, ◌++◌, length, take, drop, refl, sym, ap, ◌∙◌, subst, append-nil}
use Rattle.std.{proofs.Common.{append_assoc, if◌then◌else◌}, specs.Prelude.nat_lt}
use Rattle.epoch_model.specs.{Epochs.Geometry, Keys.{Key, ArgRow}, Machine.{Epoch, Machine, Event, Packet, Evict, Merge, step}}
use Rattle.epoch_model.specs.Tables.{Folding}
use Rattle.epoch_entry.specs.Kinds.{Sizes}
use Rattle.bucket_cache.specs.Caches.{list_at, with_list}
use Rattle.backing_store.specs.{Store.Store, Merged.StoreHolds}
use Rattle.switch_core.specs.{FrontParts.{FitsStore, FrontOf, LaneOf}, FrontEvents.{Carries, CarriesAll, CarriesFirst, CarriesUpTo}}
use Rattle.switch_core.specs.FrontEvents.{FrontMakes, KeepsSizes, LeavesParts, MergesNext, merges_of, with_store}
use Rattle.switch_core.specs.{LaneEvents.{Makes, MakesAll, parts}, Lanes.{Standing, FrontStands, geometry}}
use Rattle.switch_core.proofs.LaneSteps.{evict_merged_same, packet_merged_same}
use Rattle.switch_core.proofs.MergeSteps.{merge_none, merged_next, none_dropped, none_next, none_piped}

-- sizes

pub keeps_start : {K : Type 0} (a : LaneOf K) → KeepsSizes a a
keeps_start a = record {
  kind = refl;
  buckets = refl;
  key_words = refl;
  entry_words = refl;
  places = refl;
  stored_key_words = refl;
  state_words = refl;
}

-- a front and a store that are as they were
pub keeps_same : {K : Type 0} (old new : FrontOf K) (before after : Store) → (new ≡ old) × (after ≡ before)
    → KeepsSizes (with_store old before) (with_store new after)
keeps_same old new before after e = rw (e.0, e.1) (keeps_start _)

pub same_store : {K : Type 0} (old new : FrontOf K) (before after : Store) → (new ≡ old) × (after ≡ before)
    → with_store new after ≡ with_store old before
same_store old new before after e = ap (λ front. with_store front after) e.0 ∙ ap (with_store old) e.1

pub keeps_on : {K : Type 0} (a b c : LaneOf K) → KeepsSizes a b → KeepsSizes b c → KeepsSizes a c
keeps_on a b c x y = record {
  kind = y.kind ∙ x.kind;
  buckets = y.buckets ∙ x.buckets;
  key_words = y.key_words ∙ x.key_words;
  entry_words = y.entry_words ∙ x.entry_words;
  places = y.places ∙ x.places;
  stored_key_words = y.stored_key_words ∙ x.stored_key_words;
  state_words = y.state_words ∙ x.state_words;
}

-- a store still fits
pub fits_kept : {K : Type 0} (sizes : K → Sizes) (a b : LaneOf K) → KeepsSizes a b → FitsStore (sizes a.kind) a.cache a.store → FitsStore
    (sizes b.kind) b.cache b.store
fits_kept sizes a b kept fits = record {
  key = kept.stored_key_words ∙ (fits.key ∙ sym kept.key_words);
  state = kept.state_words ∙ (fits.state ∙ ap (λ k. (sizes k).state) (sym kept.kind));
}

-- a step of a machine and the epochs that it merges
pub merged_after : (g : Geometry) (m : Machine) (event : Event) → m.merged ≤ length m.closed
    → take (step g m event).merged (step g m event).closed ≡ take m.merged m.closed ++ merges_of event m
merged_after g m (Packet key row) few = (packet_merged_same g m key row few).0 ∙ sym (append-nil _)
merged_after g m (Evict bucket) few = (evict_merged_same m bucket few).0 ∙ sym (append-nil _)
merged_after g m Merge few = merged_next m few

-- what a front's own clauses come to, with the store that it is handed

carried : {K : Type 0} (means : K → Standing) (folding : K → Folding) (ways : ℕ) (event : Event) (old new : FrontOf K)
    (before after : Store) → FrontMakes (means old.kind) ways event old new
    → ((m : Machine) (epochs : List Epoch) → FrontStands (means old.kind) old.cache old.pipe m
    → StoreHolds (folding old.kind) before epochs → StoreHolds (folding old.kind) after (epochs ++ merges_of event m))
    → LeavesParts event (with_store old before) (with_store new after) → after.key_words ≡ before.key_words
    → after.state_words ≡ before.state_words → Carries means folding ways event (with_store old before) (with_store new after)
carried means folding ways event old new before after made held leaves key state = record {
  stands = λ m s. rw made.kind (made.stands m s);
  held = λ m epochs s h. rw made.kind (held m epochs s h);
  leaves = leaves;
  sizes = record {
    kind = made.kind;
    buckets = made.buckets;
    key_words = made.key_words;
    entry_words = made.entry_words;
    places = made.places;
    stored_key_words = key;
    state_words = state;
  };
}

same_held : (f : Folding) (store : Store) (epochs : List Epoch) → StoreHolds f store epochs → StoreHolds f store (epochs ++ [])
same_held f store epochs h = rw append-nil h

pub carries_packet : {K : Type 0} (means : K → Standing) (folding : K → Folding) (ways : ℕ) (key : Key) (row : ArgRow) (old new : FrontOf K)
    → FrontMakes (means old.kind) ways (Packet key row) old new
    → (store : Store) → Carries means folding ways (Packet key row) (with_store old store) (with_store new store)
carries_packet means folding ways key row old new made store =
    carried _ _ _ _ _ _ _ _ made (λ m epochs s. same_held _ _ _) refl refl refl

pub carries_evict : {K : Type 0} (means : K → Standing) (folding : K → Folding) (ways bucket : ℕ) (old new : FrontOf K)
    → FrontMakes (means old.kind) ways (Evict bucket) old new
    → new.cache ≡ with_list old.cache bucket (take (length (list_at old.cache bucket) - 1) (list_at old.cache bucket))
    → length new.pipe.records ≡ length old.pipe.records + (if nat_lt 0 (length (list_at old.cache bucket)) then 1 else 0)
    → (length (list_at old.cache bucket) ≡ 0 → new ≡ old)
    → (store : Store) → Carries means folding ways (Evict bucket) (with_store old store) (with_store new store)
carries_evict means folding ways bucket old new made cache records none store =
    carried _ _ _ _ _ _ _ _ made (λ m epochs s. same_held _ _ _)
    record { cache = cache; records = records; store = refl; none = λ h. ap (λ front. with_store front store) (none h) } refl refl

pub carries_merge : {K : Type 0} (sizes : K → Sizes) (means : K → Standing) (folding : K → Folding) (ways : ℕ) (old new : FrontOf K)
    (before after : Store)
    → FrontMakes (means old.kind) ways Merge old new → MergesNext (means old.kind) (folding old.kind) old before after
    → FitsStore (sizes old.kind) old.cache before → FitsStore (sizes new.kind) new.cache after
    → new.cache ≡ old.cache → new.pipe.records ≡ drop 1 old.pipe.records → (length old.pipe.records ≡ 0 → (new ≡ old) × (after ≡ before))
    → Carries means folding ways Merge (with_store old before) (with_store new after)
carries_merge sizes means folding ways old new before after made next fits fit cache records none =
    carried _ _ _ _ _ _ _ _ made next
    record { cache = cache; records = records; none = λ h. same_store _ new _ _ (none h) }
    (fit.key ∙ (made.key_words ∙ sym fits.key))
    (fit.state ∙ (ap (λ k. (sizes k).state) made.kind ∙ sym fits.state))

-- With no record in the pipe a merge changes nothing.
pub carries_none : {K : Type 0} (means : K → Standing) (folding : K → Folding) (ways : ℕ) (a : LaneOf K)
    → length a.pipe.records ≡ 0 → Carries means folding ways Merge a a
carries_none means folding ways a none = record {
  stands = λ m s. rw (merge_none m (none_piped (means a.kind) a.cache a.pipe m s none)) s;
  held = λ m epochs s h.
      rw (ap (λ es. epochs ++ es) (none_next m (none_piped (means a.kind) a.cache a.pipe m s none)) ∙ append-nil epochs) h;
  leaves = record { cache = refl; records = none_dropped _ none; none = λ h. refl };
  sizes = keeps_start a;
}

-- events in order
module _ {K : Type 0} (means : K → Standing) (folding : K → Folding) (ways : ℕ) where
  pub carries_on : (xs ys : List Event) (a b c : LaneOf K) → CarriesAll means folding ways xs a b → CarriesAll means folding ways ys b c
      → CarriesAll means folding ways (xs ++ ys) a c
  carries_on [] ys a b c e made = rw e at made
  carries_on (x ∷ xs) ys a b c m made = (m.0, m.1, carries_on xs ys m.0 b c m.2 made)

  pub sizes_kept : (events : List Event) (a b : LaneOf K) → CarriesAll means folding ways events a b → KeepsSizes a b
  sizes_kept [] a b e = rw e (keeps_start a)
  sizes_kept (x ∷ xs) a b m = keeps_on a _ b m.1.sizes (sizes_kept xs m.0 b m.2)

  -- on the way through events
  pub up_to_start : (all : List Event) (a : LaneOf K) → CarriesUpTo means folding ways all all a a
  up_to_start all a = ([], refl, refl)

  pub up_to_on : (all xs more : List Event) (a b c : LaneOf K) → CarriesUpTo means folding ways all (xs ++ more) a b
      → CarriesAll means folding ways xs b c → CarriesUpTo means folding ways all more a c
  up_to_on all xs more a b c u made = (u.0 ++ xs, append_assoc u.0 xs more ∙ u.1, carries_on _ _ a b c u.2 made)

  pub up_to_along : (all coming more : List Event) (a b c : LaneOf K) → CarriesUpTo means folding ways all coming a b
      → CarriesUpTo means folding ways coming more b c → CarriesUpTo means folding ways all more a c
  up_to_along all coming more a b c u v =
      (u.0 ++ v.0, append_assoc u.0 v.0 more ∙ (ap (λ l. u.0 ++ l) v.1 ∙ u.1), carries_on _ _ a b c u.2 v.2)

  pub up_to_first : (all coming : List Event) (a b : LaneOf K) → CarriesUpTo means folding ways all coming a b
      → CarriesFirst means folding ways all a b
  up_to_first all coming a b u = (u.0, (coming, u.1), u.2)

  -- a call that left a front and its store as they were
  pub up_to_first_as : (all coming : List Event) (a b c : LaneOf K) → CarriesUpTo means folding ways all coming a b → c ≡ b
      → CarriesFirst means folding ways all a c
  up_to_first_as all coming a b c u same = rw same (up_to_first all coming a b u)

  pub up_to_first_on : (all coming : List Event) (a b c : LaneOf K) → CarriesUpTo means folding ways all coming a b
      → CarriesFirst means folding ways coming b c → CarriesFirst means folding ways all a c
  up_to_first_on all coming a b c u f = (
    u.0 ++ f.0,
    (f.1.0, append_assoc u.0 f.0 f.1.0 ∙ (ap (λ l. u.0 ++ l) f.1.1 ∙ u.1)),
    carries_on _ _ a b c u.2 f.2,
  )

  pub up_to_whole : (all : List Event) (a b : LaneOf K) → CarriesUpTo means folding ways all [] a b → CarriesAll means folding ways all a b
  up_to_whole all a b u = rw (sym (append-nil u.0) ∙ u.1) at u.2

  -- none of the events was made
  pub first_none : (all : List Event) (a b : LaneOf K) → b ≡ a → CarriesFirst means folding ways all a b
  first_none all a b e = ([], (all, refl), e)

  -- events of a front and its store are those of a lane

  pub makes_one : (event : Event) (a b : LaneOf K) → Carries means folding ways event a b
      → Makes (means a.kind) (folding a.kind) ways event (parts a.cache a.pipe a.store) (parts b.cache b.pipe b.store)
  makes_one event a b c = record {
    stands = λ m s.
        let n = step (geometry ways a.cache) m event in
        record {
          front = rw c.sizes.kind at (c.stands m s.front);
          kept = rw c.sizes.kind at (subst (StoreHolds (folding b.kind) b.store)
              (sym (merged_after (geometry ways a.cache) m event s.front.few))
              (c.held m (take m.merged m.closed) s.front s.kept));
        };
    buckets = c.sizes.buckets;
    key_words = c.sizes.key_words;
    places = c.sizes.places;
  }

  pub makes_all : (events : List Event) (a b : LaneOf K) → CarriesAll means folding ways events a b
      → MakesAll (means a.kind) (folding a.kind) ways events (parts a.cache a.pipe a.store) (parts b.cache b.pipe b.store)
  makes_all [] a b e = ap (λ x. parts x.cache x.pipe x.store) e
  makes_all (x ∷ xs) a b m = (
    parts m.0.cache m.0.pipe m.0.store,
    makes_one x a _ m.1,
    rw m.1.sizes.kind at (makes_all xs m.0 b m.2),
  )
