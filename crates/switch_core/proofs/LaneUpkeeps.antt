-- Upkeeps of lanes in order.
use Rattle.std.proofs.Common.{◌≡◌, ℕ, ◌+◌, ◌<◌, ◌≤◌, ◌==◌, true, false, List, [], Some, inl, inr, length, set, refl, sym}
use Rattle.std.proofs.{Common.{ap, ◌∙◌, subst, arith}, lemmas.Bool.{cases_eq, lt-ltb, le-ltb, Decides.nat_tests}}
use Rattle.std.specs.Prelude.{nat_lt, slice_get, if◌then◌else◌}
use Rattle.epoch_model.specs.Machine.{Event}
use Rattle.epoch_entry.specs.contracts.any.AnyEpochsEpochKind.TheImpl.{ghosts}
use Rattle.switch_core.specs.FrontEvents.{CarriesAll, CarriesFirst}
use Rattle.switch_core.specs.PlanLanes.{AtLane, LaneMakes, LaneView, LanesBreakOff, upkeep_at, upkeeps_at, upkeeps_until}
use Rattle.switch_core.{specs.{Upkeeps.upkeep_events, declared.upkeep.Upkeep.Upkeep}, proofs.Carrying.{makes_all, sizes_kept}}
use Rattle.switch_core.proofs.SideBySide.{Done, Untouched, done_here, each_both, each_set, same_some}
use Rattle.switch_core.proofs.{LaneFacts.{got_other, got_set}, Standing.by_test}

-- what events make of a front and its store they make of the lane
pub lane_carries : (ways : ℕ) (events : List Event) (a b : LaneView) → CarriesAll ghosts.stands ghosts.folding ways events a b
    → LaneMakes ways events a b
lane_carries ways events a b made = record {
  kind = (sizes_kept _ _ _ events a b made).kind;
  made = makes_all _ _ _ events a b made;
}

-- what holds of the lanes below a number holds of one more
pub others_stay : (P : LaneView → Type 0) (lanes : List LaneView) (i : ℕ) (new : LaneView) → i < length lanes
    → ((n : ℕ) → n < i → AtLane P lanes n) → P new → (n : ℕ) → n < i + 1 → AtLane P (set lanes i new) n
others_stay P lanes i new within before here n below lane e = elim (cases_eq n i) [
  | inl same ↦
      subst P (same_some _ lane (sym (got_set lanes i _ within) ∙ (ap (slice_get (set lanes i _)) (sym same) ∙ e))) here
  | inr apart ↦ before n (omega arith) lane (sym (got_other lanes i n new apart) ∙ e)
]

-- one lane more makes the events of its upkeep
pub made_at : (ways : ℕ) (upkeep : Upkeep) (i : ℕ) (old now : List LaneView) (lane new : LaneView)
    → Done (λ n. LaneMakes ways (upkeeps_at upkeep old n)) i old now → slice_get old i ≡ Some lane
    → CarriesAll ghosts.stands ghosts.folding ways (upkeep_events upkeep lane.cache lane.pipe) lane new
    → Done (λ n. LaneMakes ways (upkeeps_at upkeep old n)) (i + 1) old (set now i new)
made_at ways upkeep i old now lane new done was carries =
    let made : LaneMakes ways (upkeeps_at upkeep old i) lane new =
    rw (ap (upkeep_at upkeep) (sym was)) at (lane_carries ways _ lane new carries) in
    done_here _ i _ _ lane new done was made

-- the events of the lanes up to one that broke off

until_below : (events first : List Event) (n at : ℕ) → n < at → (if nat_lt n at then events else (if n == at then first else [])) ≡ events
until_below events first n at below = let t = lt-ltb n at below in rw t

until_here : (events first : List Event) (n at : ℕ) → n ≡ at → (if nat_lt n at then events else (if n == at then first else [])) ≡ first
until_here events first n at here =
    let t = le-ltb n at (omega arith) in
    let same : (n == at) ≡ true = grind (arith, nat_tests) in rw (t, same)

until_above : (events first : List Event) (n at : ℕ) → at < n → (if nat_lt n at then events else (if n == at then first else [])) ≡ []
until_above events first n at above =
    let t = le-ltb n at (omega arith) in
    let apart : (n == at) ≡ false = grind (arith, nat_tests) in rw (t, apart)

pub breaks_off_at : (ways : ℕ) (upkeep : Upkeep) (i : ℕ) (old now : List LaneView) (lane new : LaneView)
    → Done (λ n. LaneMakes ways (upkeeps_at upkeep old n)) i old now → Untouched i old now → slice_get old i ≡ Some lane
    → CarriesFirst ghosts.stands ghosts.folding ways (upkeep_events upkeep lane.cache lane.pipe) lane new → LanesBreakOff ways upkeep old
    (set now i new)
breaks_off_at ways upkeep i old now lane new done same was broke =
    let first = broke.0 in
    let until = upkeeps_until upkeep old i first in (
      i,
      first,
      (broke.1.0, broke.1.1 ∙ ap (upkeep_at upkeep) (sym was)),
      each_set _
          _ 0 i _ _ _
          (λ j n a b q apart r. by_test (nat_lt n i)
          (λ t.
          let below : n < i = grind (arith, nat_tests) in
          rw (until_below (upkeeps_at upkeep old n) first n i below) (r.0 below))
          (λ t.
          let above : i ≤ n = grind (arith, nat_tests) in
          let past : i < n = let d : n ≡ i → ⊥ = λ z. apart (omega arith) in omega arith in
          rw (until_above (upkeeps_at upkeep old n) first n i past) (subst (LaneMakes ways [] a) (sym (r.1 above))
          (record { kind = refl; made = refl }))))
          (λ n x q e.
          rw (same_some lane x (sym was ∙ e)) at (subst (λ events. LaneMakes ways events lane new)
          (sym (until_here (upkeeps_at upkeep old n) first n i (omega arith)))
          (lane_carries ways first lane new broke.2)))
          (each_both _ _ 0 _ _ done same),
    )
