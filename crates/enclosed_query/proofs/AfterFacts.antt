-- What is shown of a drained pipeline for bounds, lane by lane.
use Rattle.std.proofs.Common.{◌≡◌, ℕ, zero, suc, ◌+◌, List, [], ◌∷◌, Some, length, map, sym, ap, ◌∙◌, subst, arith}
use Rattle.std.specs.Prelude.{slice_get}
use Rattle.query_lang.specs.declared.fold.TypedFold.{TypedFold}
use Rattle.epoch_model.specs.{Epochs.Geometry, Laws.HasRoom, Machine.{Event, Machine, empty_machine, run}, Timeline.IsSwept}
use Rattle.epoch_entry.specs.{declared.purpose.Entries.TheVariants.Bounds, contracts.any.AnyEpochsEpochKind.TheImpl.ghosts}
use Rattle.final_queries.specs.{declared.table.Table.Table, GroupTable.closed_table}
use Rattle.stage_plan.specs.{declared.group.GroupPlan.GroupPlan, Planned.wiring_at, Sound.{PlanParts, IsSoundPlan}}
use Rattle.switch_core.specs.{Pipelines.{IsLaneOf, after_events, empty_machines, heading_of, tables_of}, PlanLanes.{LaneView, folding_at}}
use Rattle.switch_core.{specs.Rows.EachFrom, proofs.LanesMade.group_sound}
use Rattle.enclosure_folds.specs.{declared.table.Enclosed.Enclosed, Closed.ClosedTablesHold, Holding.{HoldsAfter, TakesWords}}
use Rattle.enclosure_folds.specs.Shown.{IsHeadingOf, shown}
use Rattle.enclosed_query.{specs.AfterEvents.IsBoundedGroup, proofs.Groups.heading_is}

module _ (plan : PlanParts) (buckets : ℕ) (sound : IsSoundPlan plan) where
  abbrev IsLane : ℕ → LaneView → GroupPlan → Type 0
  IsLane n lane group = IsLaneOf Bounds buckets lane.cache (ghosts.sizes lane.kind) (ghosts.folding lane.kind) (ghosts.open_bound lane.kind)
      (ghosts.absorb_bound lane.kind) group (wiring_at plan n)

  -- no epoch is open, and all closed ones are merged
  abbrev IsDone : LaneView → Machine → Type 0
  IsDone lane m = IsSwept m × (m.merged ≡ length m.closed)

  abbrev table_of : GroupPlan → LaneView → Machine → Table
  table_of group lane m = closed_table (heading_of group) (folding_at lane) m.closed

  -- the groupby with a number, after its events
  module _ (law : ClosedTablesHold) (g : Geometry) (events : ℕ → List Event) (room : HasRoom g) (number : ℕ) (group : GroupPlan)
      (f : TypedFold) (at : slice_get plan.groups number ≡ Some group)
      (bounded : IsBoundedGroup f group) (given : TakesWords (events number)) where
    heading : IsHeadingOf f (heading_of group)
    heading = let known = group_sound _ _ _ sound at in heading_is _ _ _ f known.2 bounded.program

    one_holds : (n : ℕ) (lane : LaneView) → IsLane n lane group → IsSwept (run g (events number) (empty_machine g))
        → HoldsAfter f (events number) (shown (table_of group lane (run g (events number) (empty_machine g))))
    one_holds n lane of_lane swept =
        law (heading_of group) f (ghosts.sizes lane.kind) (folding_at lane) (ghosts.open_bound lane.kind) (ghosts.absorb_bound lane.kind) g
        (events number) room swept (of_lane.kind f bounded.program)
        heading bounded.program.valid bounded.bounded bounded.words given

    pub holds_from : (k j i : ℕ) (lanes : List LaneView) (groups : List GroupPlan) (t : Enclosed) → number ≡ k + i
        → EachFrom IsLane k lanes groups → EachFrom (λ n. IsDone) j lanes (after_events g events k (empty_machines g groups))
        → slice_get groups i ≡ Some group → slice_get (map shown (tables_of groups (map folding_at lanes)
        (after_events g events k (empty_machines g groups)))) i ≡ Some t → HoldsAfter f (events number) t
    holds_from k j i [] [] t e of_lanes done here found = absurd (none i here)
      where
        none : (i : ℕ) → slice_get {X = GroupPlan} [] i ≡ Some group → ⊥
        none i h = cc
    holds_from k j i [] (other ∷ groups) t e of_lanes done here found = absurd of_lanes
    holds_from k j i (lane ∷ lanes) [] t e of_lanes done here found = absurd of_lanes
    holds_from k j zero (lane ∷ lanes) (other ∷ groups) t e of_lanes done here found =
        let same : other ≡ group = cc in
        let first : k ≡ number = omega (arith, e) in
        let is : shown (table_of other lane (run g (events k) (empty_machine g))) ≡ t = cc in
        let swept : IsSwept (run g (events number) (empty_machine g)) =
        subst (λ n. IsSwept (run g (events n) (empty_machine g))) first done.0.0 in
        subst (HoldsAfter f (events number)) (sym (ap (λ n. shown (table_of group lane (run g (events n) (empty_machine g)))) first)
        ∙ (ap (λ x. shown (table_of x lane (run g (events k) (empty_machine g)))) (sym same) ∙ is))
        (one_holds k lane (subst (IsLane k lane) same of_lanes.0) swept)
    holds_from k j (suc i) (lane ∷ lanes) (other ∷ groups) t e of_lanes done here found =
        holds_from (suc k) (suc j) i lanes groups t (omega (arith, e)) of_lanes.1 done.1 here found
