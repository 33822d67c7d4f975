-- Runs of a network, in sequence.
use Rattle.std.proofs.Common.{◌≡◌, ℕ, zero, suc, ◌+◌, ◌<◌, ◌≤◌, nat_lt, List, [], ◌∷◌, ◌++◌, length, refl, sym, ap, ◌∙◌, arith, append-nil}
use Rattle.std.{proofs.{Common.append_assoc, lemmas.Bool.Decides.nat_tests}, specs.Prelude.sum_by}
use Rattle.epoch_model.proofs.KeyLists.{by_test}
use Rattle.stage_plan.specs.Planned.{registers_of}
use Rattle.switch_core.specs.Rows.{AreFirst, Each}
use Rattle.switch_core.specs.declared.upkeep.Upkeep.TheVariants as due
use Rattle.switch_core.proofs.SideBySide.{each_long}
use Rattle.network.specs.{Groups.GroupKept, Costs.group_cost, Networks.{IsNetwork, KeepsNetwork, NetworkView, network_cost, upkeeps_cost}}
use Rattle.network.specs.Running.{Evicts, Merges, MergingBreaksOff, NetworkEvent, NetworkMakes, NetworkRuns, RunBreaksOff, RunsWithMerges}
use Rattle.network.{specs.Running.{Takes, gives, joined_below, switch_of, without_merges}, proofs.CostSteps.{costs_kept, merges_kept}}
use Rattle.network.proofs.{MakeSteps.{groups_kept, kept_after, none_kept}, NetworkSteps.{made_network, with_groups}}

-- ---- lists of events

pub first_on : (xs ys zs : List NetworkEvent) → AreFirst ys zs → AreFirst (xs ++ ys) (xs ++ zs)
first_on xs ys _ first = (first.0, rw (append_assoc xs ys first.0, first.1))

pub first_in : (xs ys zs : List NetworkEvent) → AreFirst xs ys → AreFirst ys zs → AreFirst xs zs
first_in xs _ _ one two = (one.0 ++ two.0, sym (append_assoc xs one.0 two.0) ∙ (ap (λ es. es ++ two.0) one.1 ∙ two.1))

pub first_of : (xs ys : List NetworkEvent) → AreFirst xs (xs ++ ys)
first_of _ ys = (ys, refl)

first_all : (xs : List NetworkEvent) → AreFirst xs xs
first_all xs = ([], append-nil xs)

pub first_below : (lists : ℕ → List NetworkEvent) (i n : ℕ) → i ≤ n → AreFirst (joined_below i lists) (joined_below n lists)
first_below lists i zero h = let none : i ≡ 0 = omega arith in rw none (first_all [])
first_below lists i (suc n) h = by_test (nat_lt n i)
    (λ t. let last : suc n ≡ i = grind (arith, nat_tests) in rw (← last) (first_all (joined_below (suc n) lists)))
    (λ t. let less : i ≤ n = grind (arith, nat_tests) in
    first_in (joined_below i lists) (joined_below n lists) (joined_below (suc n) lists) (first_below lists i n less)
    (first_of (joined_below n lists) (lists n)))

pub below_next : (lists : ℕ → List NetworkEvent) (n : ℕ) → joined_below (n + 1) lists ≡ joined_below n lists ++ lists n
below_next lists n = ap (λ k. joined_below k lists) (let q : n + 1 ≡ suc n = omega arith in q)

pub without_on : (xs ys : List NetworkEvent) → without_merges (xs ++ ys) ≡ without_merges xs ++ without_merges ys
without_on [] _ = refl
without_on (Takes at words ∷ xs) ys = rw (without_on xs ys)
without_on (Evicts at lane bucket ∷ xs) ys = rw (without_on xs ys)
without_on (Merges at _ ∷ xs) ys = without_on xs ys

-- lists that are the same number by number
pub below_same : (f h : ℕ → List NetworkEvent) (n : ℕ) → ((i : ℕ) → i < n → f i ≡ h i) → joined_below n f ≡ joined_below n h
below_same f h zero _ = refl
below_same f h (suc n) same = rw (below_same f h n (λ i less. same i (omega arith)), same n (omega arith))

-- ---- what events keep

as_made : (ways : ℕ) (e : NetworkEvent) (a b : NetworkView) → NetworkMakes ways e a b → b ≡ with_groups a b.groups
as_made _ e a b made =
    rw (made.keeps.plan, made.keeps.buckets, made.keeps.pipe_records, made.switches)

made_is : (ways : ℕ) (e : NetworkEvent) (a b : NetworkView) → NetworkMakes ways e a b → IsNetwork ways a → IsNetwork ways b
made_is ways e a b made is = rw (as_made ways e a b made) (made_network ways (switch_of e) (gives a.plan e) a b.groups made.groups is)

pub runs_is : (ways : ℕ) (events : List NetworkEvent) (a b : NetworkView) → NetworkRuns ways events a b → IsNetwork ways a
    → IsNetwork ways b
runs_is ways [] a b same is = rw same is
runs_is ways (e ∷ events) a b ran is = runs_is _ events _ b ran.2 (made_is _ e a _ ran.1 is)

-- the sizes of a network are unchanged
pub record NetworkKept (a b : NetworkView) : Type 0 where
  pub keeps : KeepsNetwork a b
  pub switches : b.switches ≡ a.switches
  pub groups : Each GroupKept a.groups b.groups

pub runs_kept : (ways : ℕ) (events : List NetworkEvent) (a b : NetworkView) → NetworkRuns ways events a b → NetworkKept a b
runs_kept _ [] a b same =
    rw same (record { keeps = record { plan = refl; buckets = refl; pipe_records = refl }; switches = refl; groups = none_kept 0 a.groups })
runs_kept ways (e ∷ events) a b ran =
    let first = ran.1 in
    let rest = runs_kept ways events ran.0 b ran.2 in
    record {
      keeps = record {
        plan = rest.keeps.plan ∙ first.keeps.plan;
        buckets = rest.keeps.buckets ∙ first.keeps.buckets;
        pipe_records = rest.keeps.pipe_records ∙ first.keeps.pipe_records;
      };
      switches = rest.switches ∙ first.switches;
      groups = kept_after a.groups (ran.0).groups b.groups (groups_kept ways (switch_of e) (gives a.plan e) a.groups (ran.0).groups
          first.groups) rest.groups;
    }

pub kept_long : (a b : NetworkView) → NetworkKept a b → length b.groups ≡ length a.groups
kept_long a b kept = sym (each_long _ 0 a.groups b.groups kept.groups)

pub packet_cost_kept : (ways at : ℕ) (a b : NetworkView) → NetworkKept a b → network_cost ways at b ≡ network_cost ways at a
packet_cost_kept ways at a b kept =
    ap (λ p. registers_of p + sum_by (group_cost ways at) b.groups) kept.keeps.plan
    ∙ ap (λ n. registers_of a.plan + n) (costs_kept ways at a.groups b.groups kept.groups)

pub merges_cost_kept : (at : ℕ) (a b : NetworkView) → NetworkKept a b → upkeeps_cost due.Lag at b ≡ upkeeps_cost due.Lag at a
merges_cost_kept at a b kept = merges_kept at a.groups b.groups kept.groups

-- ---- runs in sequence

pub runs_one : (ways : ℕ) (e : NetworkEvent) (a b : NetworkView) → NetworkMakes ways e a b → NetworkRuns ways (e ∷ []) a b
runs_one _ e a b made = (b, made, refl)

pub runs_on : (ways : ℕ) (xs ys : List NetworkEvent) (a b c : NetworkView) → NetworkRuns ways xs a b → NetworkRuns ways ys b c
    → NetworkRuns ways (xs ++ ys) a c
runs_on ways [] ys a b c same two = rw (← same) two
runs_on ways (e ∷ xs) ys a b c one two = (one.0, one.1, runs_on ways xs ys one.0 b c one.2 two)

pub runs_next : (ways : ℕ) (lists : ℕ → List NetworkEvent) (i : ℕ) (a b c : NetworkView) → NetworkRuns ways (joined_below i lists) a b
    → NetworkRuns ways (lists i) b c
    → NetworkRuns ways (joined_below (i + 1) lists) a c
runs_next ways lists i a b c one two = rw (below_next lists i) (runs_on ways (joined_below i lists) (lists i) a b c one two)

-- a run that breaks off, after one that did all of its events
module _ (Ran : List NetworkEvent → NetworkView → NetworkView → Type 0)
    (on : (xs ys : List NetworkEvent) (a b c : NetworkView) → Ran xs a b → Ran ys b c → Ran (xs ++ ys) a c) where
  abbrev BreaksOff : List NetworkEvent → NetworkView → NetworkView → Type 0
  BreaksOff events old new = (first : List NetworkEvent) × AreFirst first events × Ran first old new

  pub breaks_on : (xs ys : List NetworkEvent) (a b c : NetworkView) → Ran xs a b → BreaksOff ys b c → BreaksOff (xs ++ ys) a c
  breaks_on xs ys a b c one two = (xs ++ two.0, first_on xs two.0 ys two.1, on xs two.0 a b c one two.2)

  pub breaks_below : (lists : ℕ → List NetworkEvent) (i n : ℕ) (a b c : NetworkView) → i < n → Ran (joined_below i lists) a b
      → BreaksOff (lists i) b c → BreaksOff (joined_below n lists) a c
  breaks_below lists i n a b c within ran broke =
      let on = breaks_on (joined_below i lists) (lists i) a b c ran broke in
      (on.0, first_in on.0 (joined_below (suc i) lists) (joined_below n lists) on.1 (first_below lists (suc i) n (omega arith)), on.2)

pub run_breaks_in : (ways : ℕ) (xs ys : List NetworkEvent) (a b : NetworkView) → RunBreaksOff ways xs a b → RunBreaksOff ways (xs ++ ys) a b
run_breaks_in _ xs ys a b ran = (ran.0, first_in ran.0 xs (xs ++ ys) ran.1 (first_of xs ys), ran.2)

-- ---- with merges among the events

pub merging_none : (ways : ℕ) (a : NetworkView) → RunsWithMerges ways [] a a
merging_none _ a = ([], refl, refl)

-- a run, of which the merges are left out
pub merging_run : (ways : ℕ) (xs : List NetworkEvent) (a b : NetworkView) → NetworkRuns ways xs a b
    → RunsWithMerges ways (without_merges xs) a b
merging_run _ xs a b ran = (xs, refl, ran)

pub merging_first : (ways : ℕ) (xs : List NetworkEvent) (a b : NetworkView) → RunBreaksOff ways xs a b
    → MergingBreaksOff ways (without_merges xs) a b
merging_first ways _ a b broke = (
  without_merges broke.0,
  (without_merges broke.1.0, sym (without_on broke.0 broke.1.0) ∙ ap without_merges broke.1.1),
  merging_run ways broke.0 a b broke.2,
)

pub merging_on : (ways : ℕ) (xs ys : List NetworkEvent) (a b c : NetworkView) → RunsWithMerges ways xs a b → RunsWithMerges ways ys b c
    → RunsWithMerges ways (xs ++ ys) a c
merging_on ways xs _ a b c one two = (
  one.0 ++ two.0,
  rw (without_on one.0 two.0, one.1, two.1),
  runs_on ways one.0 two.0 a b c one.2 two.2,
)

-- merges after the events change none of them
pub merging_after : (ways : ℕ) (xs : List NetworkEvent) (a b c : NetworkView) → RunsWithMerges ways xs a b → RunsWithMerges ways [] b c
    → RunsWithMerges ways xs a c
merging_after ways xs a b c one two = rw (← append-nil xs) (merging_on ways xs [] a b c one two)

pub merging_next : (ways : ℕ) (lists : ℕ → List NetworkEvent) (i : ℕ) (a b c : NetworkView) → RunsWithMerges ways (joined_below i lists) a b
    → RunsWithMerges ways (lists i) b c
    → RunsWithMerges ways (joined_below (i + 1) lists) a c
merging_next ways lists i a b c one two = rw (below_next lists i) (merging_on ways (joined_below i lists) (lists i) a b c one two)

-- all of the events happened, and then some merges
pub merging_breaks_end : (ways : ℕ) (xs : List NetworkEvent) (a b c : NetworkView) → RunsWithMerges ways xs a b
    → MergingBreaksOff ways [] b c → MergingBreaksOff ways xs a c
merging_breaks_end ways xs a b c one two = rw (← append-nil xs) (breaks_on (RunsWithMerges ways) (merging_on ways) xs [] a b c one two)

pub merging_is : (ways : ℕ) (events : List NetworkEvent) (a b : NetworkView) → RunsWithMerges ways events a b → IsNetwork ways a
    → IsNetwork ways b
merging_is ways _ a b ran is = runs_is _ ran.0 a b ran.2 is

pub merging_kept : (ways : ℕ) (events : List NetworkEvent) (a b : NetworkView) → RunsWithMerges ways events a b → NetworkKept a b
merging_kept ways _ a b ran = runs_kept ways ran.0 a b ran.2
