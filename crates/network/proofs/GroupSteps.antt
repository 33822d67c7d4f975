-- Groupbys side by side.
use Rattle.std.proofs.Common.{◌≡◌, ℕ, zero, suc, ◌+◌, ◌<◌, ◌≤◌, nat_lt, List, [], ◌∷◌, ◌++◌, inl, inr, Some, length, take, refl, sym, ap}
use Rattle.std.proofs.{Common.{◌∙◌, subst, arith, length-append}, Math.{Logic.{∥∥₁_elim}, Seq.{take-append_seam, take-length}}, Props.props}
use Rattle.std.{proofs.lemmas.{Bool.Decides.nat_tests, List.take_all}, specs.Prelude.slice_get}
use Rattle.epoch_model.{proofs.KeyLists.by_test, specs.Machine.Epoch}
use Rattle.fold_class.specs.Program.{IsProgram, IsProgramOf}
use Rattle.query_lang.specs.declared.{fold.TypedFold.TypedFold, fault.TheConstants.{MAX_ARGS, MAX_KEYS}}
use Rattle.epoch_entry.specs.{declared.any.AnyEpochs.AnyEpochs, Foldings.IsKindOf, contracts.any.AnyEpochsEpochKind.TheImpl.ghosts}
use Rattle.final_queries.specs.{FinalLaws.AreAlike, GroupTable.closed_table}
use Rattle.stage_plan.specs.{declared.group.{GroupWiring.GroupWiring, GroupPlan.GroupPlan}, Planned.wiring_at}
use Rattle.stage_plan.specs.Sound.{PlanParts, IsSoundPlan, IsSoundGroup}
use Rattle.switch_core.{specs.{FrontParts.FrontOf, Pipelines.heading_of, Rows.{Each, EachFrom}}, proofs.LanesMade.group_sound}
use Rattle.switch_core.proofs.SideBySide.{each_at, each_long, each_map, got_below}
use Rattle.marple_base.specs.declared.field.TheConstants.{FIELDS}
use Rattle.network.specs.Groups.{GroupGrows, GroupKept, GroupView, IsGroup, AreGroups, folding_in, shared_tables, with_first}
use Rattle.network.{specs.Shared.{FrontKept, MayShare}, proofs.{SharedSteps.{each_back, each_flip, each_on, still_share}, Sharing.got_push}}
use Rattle.backing_store.specs.Store.{Store}

-- what is said of items and parts, and what is made of each item, says something of the new items and the parts
pub each_made : {A B : Type 0} (R : ℕ → A → B → Type 0) (S : ℕ → A → A → Type 0) (T : ℕ → A → B → Type 0) (k : ℕ) (olds news : List A)
    (parts : List B)
    → ((n : ℕ) (a b : A) (p : B) → R n a p → S n a b → T n b p) → EachFrom R k olds parts → EachFrom S k olds news → EachFrom T k news parts
each_made R S T k olds news parts h r s =
    each_on _ R T k news olds parts (λ n b a p q t. h n a b p t q) (each_flip S k olds news s) r

-- a groupby with its part of the plan
pub record HasPart (plan : PlanParts) (switches n : ℕ) (group : GroupView) : Type 0 where
  pub part : GroupPlan
  pub there : slice_get plan.groups n ≡ Some part
  pub within : n < length plan.groups
  pub is : IsGroup switches part (wiring_at plan n) group
  pub registers : ℕ
  pub sound : IsSoundGroup registers part (wiring_at plan n)
  pub keys : group.store.key_words ≡ length (wiring_at plan n).keys
  pub few_keys : length (wiring_at plan n).keys ≤ MAX_KEYS
  pub few_args : length (wiring_at plan n).args ≤ MAX_ARGS

-- the groupby of the plan with this number
pub group_at : (plan : PlanParts) (switches n : ℕ) (groups : List GroupView) (group : GroupView) → AreGroups plan switches groups
    → slice_get groups n ≡ Some group → (part : GroupPlan) × (slice_get plan.groups n ≡ Some part)
    × IsGroup switches part (wiring_at plan n) group
group_at plan switches n groups group are here =
    let found = each_at _ 0 n groups plan.groups group are here in
    (found.0, found.1, found.2 n (omega arith))

pub part_of : (plan : PlanParts) (switches n : ℕ) (groups : List GroupView) (group : GroupView) → IsSoundPlan plan
    → AreGroups plan switches groups → slice_get groups n ≡ Some group
    → HasPart plan switches n group
part_of plan switches n groups group sound are here =
    let found = group_at plan switches n groups _ are here in
    let own = found.2 in
    let wired = group_sound plan n found.0 sound found.1 in
    let good =
    subst (IsSoundGroup (FIELDS + length plan.ops) found.0) (sym wired.1) wired.2 in
    record {
      part = found.0;
      there = found.1;
      within = got_below plan.groups n _ found.1;
      is = own;
      registers = FIELDS + length plan.ops;
      sound = good;
      keys = rw (own.keys, good.keys);
      few_keys = let a = good.keys in let b = good.most_keys in omega arith;
      few_args = good.most_args;
    }

-- what keeps kinds and sizes keeps a groupby what it is
pub still_group : (switches : ℕ) (part : GroupPlan) (plan : PlanParts) (n : ℕ) (old new : GroupView) → GroupKept old new
    → IsGroup switches part (wiring_at plan n) old → IsGroup switches part (wiring_at plan n) new
still_group switches part plan n old new kept is = record {
  keys = kept.store.key_words ∙ is.keys;
  states = rw (kept.store.state_words, is.states, kept.kind);
  class = rw (kept.kind, is.class);
  kind = λ f program. rw kept.kind (is.kind f program);
  kinds = λ s front e.
      let was = each_back _ 0 old.fronts new.fronts s _ kept.fronts e in
      rw (← sym (was.2 s (omega arith)).kind) (is.kinds s was.0 was.1);
  count = sym (each_long _ 0 old.fronts new.fronts kept.fronts) ∙ is.count;
  shares = rw kept.kind (still_share ghosts.sizes ghosts.folding (folding_in old) (length (wiring_at plan n).args) old.fronts new.fronts
      old.store new.store kept.fronts kept.store is.shares);
}

pub still_groups : (switches : ℕ) (plan : PlanParts) (olds news : List GroupView) → Each GroupKept olds news → AreGroups plan switches olds
    → AreGroups plan switches news
still_groups switches plan olds news kept is =
    each_made _ _
    _ 0 olds news plan.groups
    (λ n a b p r s. still_group _ p plan n a b s r) is kept

-- tables in sequence

tables_next_at : (parts : List GroupPlan) (groups : List GroupView) (epochs : List (List Epoch)) (i : ℕ) (part : GroupPlan)
    (group : GroupView) (es : List Epoch)
    → slice_get parts i ≡ Some part → slice_get groups i ≡ Some group → slice_get epochs i ≡ Some es
    → take (suc i) (shared_tables parts groups epochs) ≡ take i (shared_tables parts groups epochs)
    ++ closed_table (heading_of part) (folding_in group) es ∷ []
tables_next_at [] groups epochs i part group es a b e = cc
tables_next_at (p ∷ parts) [] epochs i part group es a b e = cc
tables_next_at (p ∷ parts) (g ∷ groups) [] i part group es a b e = cc
tables_next_at (p ∷ parts) (g ∷ groups) (n ∷ epochs) zero part group es a b e =
    let x : p ≡ part = cc in let y : g ≡ group = cc in let z : n ≡ es = cc in rw (x, y, z)
tables_next_at (p ∷ parts) (g ∷ groups) (n ∷ epochs) (suc i) part group es a b e =
    rw (tables_next_at parts groups epochs i part group es a b e)

pub tables_next : (parts : List GroupPlan) (groups : List GroupView) (epochs : List (List Epoch)) (i : ℕ) (part : GroupPlan)
    (group : GroupView) (es : List Epoch)
    → slice_get parts i ≡ Some part → slice_get groups i ≡ Some group → slice_get epochs i ≡ Some es
    → take (i + 1) (shared_tables parts groups epochs) ≡ take i (shared_tables parts groups epochs)
    ++ closed_table (heading_of part) (folding_in group) es ∷ []
tables_next parts groups epochs i part group es a b e =
    ap (λ n. take n (shared_tables parts groups epochs)) (let q : i + 1 ≡ suc i = omega arith in q)
    ∙ tables_next_at parts groups epochs i _ _ es a b e

tables_few : (parts : List GroupPlan) (groups : List GroupView) (epochs : List (List Epoch))
    → length (shared_tables parts groups epochs) ≤ length groups
tables_few [] _ _ = omega arith
tables_few (_ ∷ _) [] _ = omega arith
tables_few (_ ∷ _) (_ ∷ _) [] = omega arith
tables_few (_ ∷ parts) (_ ∷ groups) (_ ∷ epochs) = let more = tables_few parts groups epochs in omega arith

pub tables_whole : (parts : List GroupPlan) (groups : List GroupView) (epochs : List (List Epoch)) (i : ℕ) → length groups ≤ i
    → take i (shared_tables parts groups epochs) ≡ shared_tables parts groups epochs
tables_whole parts groups epochs i h = take_all i _ (let few = tables_few parts groups epochs in omega arith)

-- a groupby has a front more
abbrev pub Grown : PlanParts → ℕ → GroupView → GroupView → Type 0
Grown plan n old new = (switches : ℕ) (part : GroupPlan) → slice_get plan.groups n ≡ Some part
    → IsGroup switches part (wiring_at plan n) old → IsGroup (switches + 1) part (wiring_at plan n) new

pub all_grown : (plan : PlanParts) (switches : ℕ) (olds news : List GroupView) → AreGroups plan switches olds
    → EachFrom (Grown plan) 0 olds news → AreGroups plan (switches + 1) news
all_grown plan switches olds news are grown =
    each_made (λ n group part. (slice_get plan.groups n ≡ Some part) × IsGroup switches part (wiring_at plan n) group) (Grown plan)
    (λ n group part. IsGroup (switches + 1) part (wiring_at plan n) group)
    0 olds news plan.groups (λ n a b p r s. s switches p r.0 r.1)
    (each_map (λ n group part. IsGroup switches part (wiring_at plan n) group)
    (λ n group part. (slice_get plan.groups n ≡ Some part) × IsGroup switches part (wiring_at plan n) group) 0 olds plan.groups
    (λ j n a p q f e r. (let same : n ≡ j = omega arith in ap (slice_get plan.groups) same ∙ e, r)) are) grown

-- A front with this kind of entries and these sizes comes after the others.
pub record AddsFront {K : Type 0} (kind : K) (buckets key_words places : ℕ) (old new : List (FrontOf K)) : Type 0 where
  pub front : FrontOf K
  pub added : new ≡ old ++ front ∷ []
  pub has_kind : front.kind ≡ kind
  pub has_buckets : length front.cache.lists ≡ buckets
  pub has_key_words : front.cache.key_words ≡ key_words
  pub has_places : front.pipe.places ≡ places

module _ (view : GroupView) (part : GroupPlan) (wiring : GroupWiring) (registers switches : ℕ) (kind : AnyEpochs)
    (buckets key_words places : ℕ) (news : List (FrontOf AnyEpochs))
    (adds : AddsFront kind buckets key_words places view.fronts news)
    (of_kind : (f : TypedFold) → IsProgramOf f part.program → IsKindOf f (ghosts.sizes kind) (ghosts.folding kind) (ghosts.open_bound kind)
    (ghosts.absorb_bound kind))
    (program : IsProgram part.program) (words : key_words ≡ length part.key_names) (sound : IsSoundGroup registers part wiring)
    (is : IsGroup switches part wiring view) where
  alike : AreAlike (ghosts.folding kind) (folding_in view)
  alike = ∥∥₁_elim program (hlevel props) (λ h.
      let a = of_kind h.0 h.1 in
      let b = is.kind h.0 h.1 in
      record { row_per_epoch = rw (a.row_per_epoch, b.row_per_epoch); states = λ rows. rw (a.folded rows, b.folded rows) })

  states : view.store.state_words ≡ (ghosts.sizes kind).state
  states = ∥∥₁_elim program (hlevel props) (λ h. rw (is.states, (is.kind h.0 h.1).state, sym (of_kind h.0 h.1).state))

  args : (ghosts.sizes kind).args ≡ length wiring.args
  args = ∥∥₁_elim program (hlevel props) (λ h. (of_kind h.0 h.1).args ∙ (sym h.1.layout.args ∙ sym sound.args))

  new_share : MayShare ghosts.sizes ghosts.folding (folding_in view) (length wiring.args) view.store adds.front
  new_share = record {
    alike = rw adds.has_kind alike;
    fits = record {
      key = is.keys ∙ (sym words ∙ sym adds.has_key_words);
      state = rw (states, adds.has_kind);
    };
    args = rw (adds.has_kind, args);
  }

  pub grown_group : IsGroup (switches + 1) part wiring (record { kind = view.kind; fronts = news; store = view.store })
  grown_group = record {
    keys = is.keys;
    states = is.states;
    class = is.class;
    kind = is.kind;
    kinds = λ s front e. elim (got_push view.fronts adds.front front s (ap (λ xs. slice_get xs s) (sym adds.added) ∙ e)) [
      | inl there ↦ is.kinds s front there
      | inr new ↦ rw (← new.1, adds.has_kind) of_kind
    ];
    count = rw (adds.added, length-append view.fronts (adds.front ∷ []), is.count);
    shares = λ s front e. elim (got_push view.fronts adds.front front s (ap (λ xs. slice_get xs s) (sym adds.added) ∙ e)) [
      | inl there ↦ is.shares s front there
      | inr new ↦ rw (← new.1) new_share
    ];
  }

pub others_push : (view : GroupView) (news : List (FrontOf AnyEpochs)) (new : FrontOf AnyEpochs) → news ≡ view.fronts ++ new ∷ []
    → with_first (length view.fronts) (record view { fronts = news }) ≡ view
others_push view _ new added =
    rw (added, take-append_seam view.fronts (new ∷ []))

-- a groupby with all its fronts
pub all_first : (group : GroupView) → with_first (length group.fronts) group ≡ group
all_first group = rw (take-length group.fronts)

-- the groupbys so far have their fronts and perhaps one more, and the others are unchanged
pub others_so_far : (i k : ℕ) (olds news : List GroupView) → EachFrom (λ n (a b : GroupView). n < i → with_first (length a.fronts) b ≡ a) k
    olds news
    → EachFrom (λ n (a b : GroupView). i ≤ n → b ≡ a) k olds news → EachFrom (λ n (a b : GroupView). with_first (length a.fronts) b ≡ a) k
    olds news
others_so_far i k [] [] _ _ = tt
others_so_far i k [] (b ∷ _) done _ = absurd done
others_so_far i k (a ∷ _) [] done _ = absurd done
others_so_far i k (a ∷ olds) (b ∷ news) done same = (
  by_test (nat_lt k i)
      (λ t. done.0 (let l : k < i = grind (arith, nat_tests) in l))
      (λ t. rw (same.0 (let l : i ≤ k = grind (arith, nat_tests) in l), all_first a)),
  others_so_far i (suc k) olds news done.1 same.1,
)

-- groupbys whose last front goes again are the old ones
pub kept_back : (plan : PlanParts) (switches k : ℕ) (olds mids news : List GroupView) (parts : List GroupPlan)
    → EachFrom (λ n group part. IsGroup switches part (wiring_at plan n) group) k olds parts
    → EachFrom (λ n (a b : GroupView). with_first (length a.fronts) b ≡ a) k olds mids
    → EachFrom (λ n (a b : GroupView). b ≡ with_first switches a) k mids news → news ≡ olds
kept_back _ _ k [] [] [] _ _ _ _ = refl
kept_back _ _ k [] [] (c ∷ _) _ _ _ kept = absurd kept
kept_back _ _ k [] (b ∷ _) _ _ _ others _ = absurd others
kept_back _ _ k (a ∷ _) [] _ _ _ others _ = absurd others
kept_back _ _ k (a ∷ _) (b ∷ _) [] _ _ _ kept = absurd kept
kept_back _ _ k (a ∷ _) (b ∷ _) (c ∷ _) [] are _ _ = absurd are
kept_back plan switches k (a ∷ olds) (b ∷ mids) (c ∷ news) (p ∷ parts) are others kept =
    let first = kept.0 ∙ (ap (λ n. with_first n b) (sym are.0.count) ∙ others.0) in
    rw (first, kept_back plan switches (suc k) olds mids news parts are.1 others.1 kept.1)

-- What each front of each groupby has of something, as the width of its cache or the places of its pipe, is kept.
module _ (of : FrontOf AnyEpochs → ℕ) (many : ℕ) where
  abbrev Have : GroupView → Type 0
  Have group = (s : ℕ) (front : FrontOf AnyEpochs) → slice_get group.fronts s ≡ Some front → of front ≡ many

  abbrev AllHave : List GroupView → Type 0
  AllHave groups = (n : ℕ) (group : GroupView) → slice_get groups n ≡ Some group → Have group

  pub have_kept : (olds news : List GroupView) → ((a b : FrontOf AnyEpochs) → FrontKept a b → of b ≡ of a) → Each GroupKept olds news
      → AllHave olds → AllHave news
  have_kept olds news same kept have n now e s front f =
      let group = each_back _ 0 olds news n _ kept e in
      let was = each_back _ 0 group.0.fronts now.fronts s _ (group.2 n (omega arith)).fronts f in
      same was.0 front (was.2 s (omega arith)) ∙ have n group.0 group.1 s was.0 was.1

  pub have_grown : (ways buckets places : ℕ) (olds news : List GroupView)
      → ((a b : GroupView) → GroupGrows ways buckets places a b → Have a → Have b) → Each (GroupGrows ways buckets places) olds news
      → AllHave olds → AllHave news
  have_grown ways buckets places olds news grows grown have n now e =
      let group = each_back _ 0 olds news n _ grown e in
      grows group.0 now (group.2 n (omega arith)) (have n group.0 group.1)

  -- without a switch there is no front
  pub have_start : (plan : PlanParts) (groups : List GroupView) → AreGroups plan 0 groups → AllHave groups
  have_start plan groups are n group e s front f =
      let none = (group_at plan 0 n groups _ are e).2.count in
      let some = got_below group.fronts s _ f in
      absurd (omega arith)

  pub have_push : (fronts news : List (FrontOf AnyEpochs)) (new : FrontOf AnyEpochs) (kind : AnyEpochs) (store : Store)
      → news ≡ fronts ++ new ∷ [] → of new ≡ many → Have (record { kind = kind; fronts = fronts; store = store })
      → Have (record { kind = kind; fronts = news; store = store })
  have_push fronts news new kind store added size have s front e = elim
      (got_push fronts new front s (ap (λ xs. slice_get xs s) (sym added) ∙ e)) [
        | inl there ↦ have s front there
        | inr same ↦ ap of (sym same.1) ∙ size
      ]

pub none_there : {X : Type 0} (s : ℕ) (x : X) → slice_get {X = X} [] s ≡ Some x → ⊥
none_there s x e = cc
