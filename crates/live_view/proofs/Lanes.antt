-- The tables of lanes, in order.
use Rattle.std.proofs.Common.{◌≡◌, ◌+◌, ◌<◌, ◌≤◌, ℕ, zero, suc, List, [], ◌∷◌, ◌++◌, Some, length, map, take, refl, sym, ap, ◌∙◌, subst}
use Rattle.std.{proofs.{Common.arith, Math.Logic.{∥∥₁_elim}, Props.props}, specs.Prelude.slice_get}
use Rattle.epoch_model.specs.Machine.{Machine}
use Rattle.epoch_entry.specs.{declared.purpose.Entries.Entries, Purposes.EntriesAreSmall, contracts.any.AnyEpochsEpochKind.TheImpl.ghosts}
use Rattle.final_queries.specs.GroupTable.{closed_table}
use Rattle.stage_plan.specs.{declared.group.GroupPlan.GroupPlan, Planned.wiring_at, Sound.{PlanParts, IsSoundPlan}}
use Rattle.switch_core.specs.{Rows.EachFrom, Pipelines.{IsLaneOf, heading_of}, PlanLanes.{LaneView, AreLanesOf, folding_at}}
use Rattle.live_view.specs.Views.{all_epochs, tables_seen}

pub each_long : {X Y : Type 0} (R : ℕ → X → Y → Type 0) (k : ℕ) (xs : List X) (ys : List Y) → EachFrom R k xs ys → length xs ≡ length ys
each_long R k [] [] e = refl
each_long R k [] (y ∷ ys) e = absurd e
each_long R k (x ∷ xs) [] e = absurd e
each_long R k (x ∷ xs) (y ∷ ys) e = ap (λ n. suc n) (each_long R (suc k) xs ys e.1)

-- what is at the same place in both lists belongs together
pub each_at : {X Y : Type 0} (R : ℕ → X → Y → Type 0) (k i : ℕ) (xs : List X) (ys : List Y) (x : X) → EachFrom R k xs ys
    → slice_get xs i ≡ Some x
    → (y : Y) × (slice_get ys i ≡ Some y) × ((n : ℕ) → n ≡ k + i → R n x y)
each_at {X = X} R k i [] ys x e h = absurd (none i h)
  where
    none : (i : ℕ) → slice_get {X = X} [] i ≡ Some x → ⊥
    none i h = cc
each_at R k i (a ∷ xs) [] x e h = absurd e
each_at R k zero (a ∷ xs) (b ∷ ys) x e h = let same : a ≡ x = cc in (
  b,
  refl,
  λ n q. let is : k ≡ n =
      omega arith in subst (λ m. R m x b) is (subst (λ z. R k z b) same e.0),
)
each_at R k (suc i) (a ∷ xs) (b ∷ ys) x e h = let rest = each_at R (suc k) i xs ys x e.1 h
    in (rest.0, rest.1, λ n q. rest.2 n (omega arith))

got_some : {X : Type 0} (xs : List X) (i : ℕ) → i < length xs → (x : X) × (slice_get xs i ≡ Some x)
got_some [] i h = absurd (omega arith)
got_some (x ∷ xs) zero h = (x, refl)
got_some (x ∷ xs) (suc i) h = got_some xs i (omega arith)

got_below : {X : Type 0} (xs : List X) (i : ℕ) (x : X) → slice_get xs i ≡ Some x → i < length xs
got_below [] i x h = cc
got_below (y ∷ xs) zero x h = omega arith
got_below (y ∷ xs) (suc i) x h = let r = got_below xs i x h in omega arith

-- a lane has as many key words as its groupby has names of keys, and these are few and have room for an entry
pub record FitsGroup (group : GroupPlan) (lane : LaneView) : Type 0 where
  pub keys : lane.cache.key_words ≡ length group.key_names
  pub few_keys : length group.key_names ≤ 8
  pub small : lane.cache.key_words + (ghosts.sizes lane.kind).entry ≤ 512

pub lane_fits : (entries : Entries) (plan : PlanParts) (buckets i : ℕ) (lanes : List LaneView) (group : GroupPlan) (lane : LaneView)
    → EntriesAreSmall → IsSoundPlan plan → AreLanesOf entries plan buckets lanes → slice_get plan.groups i ≡ Some group
    → slice_get lanes i ≡ Some lane → FitsGroup group lane
lane_fits entries plan buckets i lanes group lane small sound are at here =
    let R = λ (n : ℕ) (l : LaneView) (g : GroupPlan). IsLaneOf entries buckets l.cache (ghosts.sizes l.kind) (ghosts.folding l.kind)
    (ghosts.open_bound l.kind) (ghosts.absorb_bound l.kind) g (wiring_at plan n) in
    let found = each_at R 0 i lanes plan.groups lane are here in
    let same : found.0 ≡ group = let q : Some found.0 ≡ Some group = sym found.1 ∙ at in cc in
    let own = subst (R i lane) same (found.2 i (omega arith)) in
    let below = got_below plan.groups i group at in
    let wired = got_some plan.wiring i (let w = sound.wired in omega arith) in
    let each = sound.each i group wired.0 at wired.1 in
    record {
      keys = own.keys;
      few_keys = each.most_keys;
      small = ∥∥₁_elim each.program (hlevel props) (λ h.
          let few = small entries h.0 (ghosts.sizes lane.kind) (ghosts.folding lane.kind) (ghosts.open_bound lane.kind)
          (ghosts.absorb_bound lane.kind) lane.cache.key_words h.1.valid (own.kind h.0 h.1)
          (let k = own.keys in let m = each.most_keys in omega arith) in
          omega arith);
    }

pub seen_next : (groups : List GroupPlan) (lanes : List LaneView) (ms : List Machine) (i : ℕ) (group : GroupPlan) (lane : LaneView)
    (m : Machine)
    → slice_get groups i ≡ Some group → slice_get lanes i ≡ Some lane → slice_get ms i ≡ Some m
    → take (i + 1) (tables_seen groups (map folding_at lanes) ms) ≡ take i (tables_seen groups (map folding_at lanes) ms)
    ++ closed_table (heading_of group) (folding_at lane) (all_epochs m) ∷ []
seen_next groups lanes ms i group lane m a b e =
    ap (λ n. take n (tables_seen groups (map folding_at lanes) ms)) (let q : i + 1 ≡ suc i = omega arith in q) ∙ at groups lanes ms i a b e
  where
    at : (groups : List GroupPlan) (lanes : List LaneView) (ms : List Machine) (i : ℕ) → slice_get groups i ≡ Some group
        → slice_get lanes i ≡ Some lane → slice_get ms i ≡ Some m
        → take (suc i) (tables_seen groups (map folding_at lanes) ms) ≡ take i (tables_seen groups (map folding_at lanes) ms)
        ++ closed_table (heading_of group) (folding_at lane) (all_epochs m) ∷ []
    at [] lanes ms i a b e = cc
    at (g ∷ groups) [] ms i a b e = cc
    at (g ∷ groups) (l ∷ lanes) [] i a b e = cc
    at (g ∷ groups) (l ∷ lanes) (n ∷ ms) zero a b e =
        let x : g ≡ group = cc in let y : l ≡ lane = cc in let z : n ≡ m = cc in rw (x, y, z) refl
    at (g ∷ groups) (l ∷ lanes) (n ∷ ms) (suc i) a b e =
        ap (λ ts. closed_table (heading_of g) (folding_at l) (all_epochs n) ∷ ts) (at groups lanes ms i a b e)

pub seen_whole : (groups : List GroupPlan) (lanes : List LaneView) (ms : List Machine) (i : ℕ) → length lanes ≤ i
    → take i (tables_seen groups (map folding_at lanes) ms) ≡ tables_seen groups (map folding_at lanes) ms
seen_whole [] lanes ms zero h = refl
seen_whole [] lanes ms (suc i) h = refl
seen_whole (g ∷ groups) [] ms zero h = refl
seen_whole (g ∷ groups) [] ms (suc i) h = refl
seen_whole (g ∷ groups) (l ∷ lanes) [] zero h = refl
seen_whole (g ∷ groups) (l ∷ lanes) [] (suc i) h = refl
seen_whole (g ∷ groups) (l ∷ lanes) (m ∷ ms) zero h = absurd (omega arith)
seen_whole (g ∷ groups) (l ∷ lanes) (m ∷ ms) (suc i) h = ap (λ ts. closed_table (heading_of g) (folding_at l) (all_epochs m) ∷ ts)
    (seen_whole groups lanes ms i (omega arith))
