-- Each turn adds the lane of one more groupby, which stands for an empty machine.
use Rattle.std.proofs.Common.{◌≡◌, ◌≤◌, ◌++◌, [], ◌∷◌, take, sym, ap, ◌∙◌, subst, le_of_lt, lit<, zero-add, ℕ}
use Rattle.std.proofs.lemmas.List.{length-take-le, take_all}
use Rattle.std.proofs.lemmas.List.Elements.{All-append, All-cons, All-nil}
use Rattle.epoch_model.{specs.Machine.empty_machine, proofs.Endings.no_value}
use Rattle.epoch_entry.specs.contracts.any.AnyEpochsEpochKind.TheImpl.{ghosts}
use Rattle.stage_plan.specs.{declared.group.GroupPlan.GroupPlan, Planned.wiring_at}
use Rattle.switch_core.specs.{Rows.{Each, EachFrom}, Pipelines.{IsLaneOf, empty_machines, geometry_without_refresh}}
use Rattle.switch_core.{specs.PlanLanes.{HavePlaces, LaneView, IsMadeFor, StandsFor}, proofs.SideBySide.{got_below, each_long}}
use Rattle.switch_core.proofs.LanesMade.{each_push, take_next, empties_push, group_sound, lane_made}
use Rattle.switch_core.proofs.making.made_lanes.Goals as goal

pub made_lane-requires : goal.made_lane-requires
made_lane-requires g c =
    let own = group_sound c.args.plan.now c.loop-i.i c.group.result.now c.invariant.ensures c.group.ensures in
    (lit< tt, (c.requires, (own.2.program, (own.2.some_keys, own.2.most_keys))))

pub loop-i-preserved : goal.loop-i-preserved
loop-i-preserved g c =
    let i = c.loop-i.i in
    let plan = c.args.plan.now in
    let group = c.group.result.now in
    let lanes = c.loop-i.lanes.items in
    let lane = c.in_ok-lane.lane in
    let made = c.in_ok-lane.ensures in
    let pushed = c.in_ok-push.ensures.items in
    let more = take_next _ i group c.group.ensures in
    let many = each_long _ 0 _ (take i _) c.loop-i.invariant.lanes ∙ length-take-le i plan.groups
    (le_of_lt (got_below _ i _ c.group.ensures)) in
    let own = lane_made c.entries_suit_folds.ensures _ _ _ i lane _ c.invariant.ensures c.group.ensures
    made.buckets made.keys made.kind in
    let R : ℕ → LaneView → GroupPlan → Type 0 = λ n l x. IsLaneOf c.args.entries c.args.buckets l.cache (ghosts.sizes l.kind)
    (ghosts.folding l.kind) (ghosts.open_bound l.kind) (ghosts.absorb_bound l.kind) x (wiring_at plan n) in
    let empties =
    ap (empty_machines (geometry_without_refresh g.row.WAYS c.args.buckets)) more
    ∙ empties_push (geometry_without_refresh g.row.WAYS c.args.buckets)
    (take i _) group in
    let has_places : LaneView → Type 0 = λ l. l.pipe.places ≡ c.args.pipe_records in
    record {
      lanes = rw pushed (subst (λ gs. EachFrom R 0 (lanes ++ lane ∷ []) gs) (sym more)
          (each_push R 0 lanes (take i plan.groups) lane group c.loop-i.invariant.lanes
          (λ n q. let is = sym (q ∙ (zero-add _ ∙ many)) in subst (λ k. R k lane group) is own)));
      made = rw pushed (subst (λ gs. Each IsMadeFor (lanes ++ lane ∷ []) gs) (sym more)
          (each_push (λ n. IsMadeFor) 0 lanes (take i plan.groups) lane group c.loop-i.invariant.made
          (λ n q. made.made)));
      pipe_places = rw pushed (All-append has_places lanes (lane ∷ []) c.loop-i.invariant.pipe_places
          (All-cons has_places lane [] made.pipe_places (All-nil has_places)));
      stands = rw pushed (subst (λ ms. Each StandsFor (lanes ++ lane ∷ []) ms) (sym empties)
          (each_push (λ n. StandsFor) 0 lanes (empty_machines (geometry_without_refresh g.row.WAYS c.args.buckets) (take i plan.groups))
          lane
          (empty_machine (geometry_without_refresh g.row.WAYS c.args.buckets)) c.loop-i.invariant.stands (λ n q. made.stands)));
    }

pub returns-in_err-lane : goal.returns-in_err-lane
returns-in_err-lane g c =
    let r = c.from_residual.result in
    let e = c.from_residual.ensures.0 in
    record { lanes = no_value r _ e; made = no_value r _ e; pipe_places = no_value r _ e; stands = no_value r _ e }

pub returns-in_err-push : goal.returns-in_err-push
returns-in_err-push g c =
    let r = c.from_residual-in_err-push.result in
    let e = c.from_residual-in_err-push.ensures.0 in
    record { lanes = no_value r _ e; made = no_value r _ e; pipe_places = no_value r _ e; stands = no_value r _ e }

pub loop-i-init : goal.loop-i-init
loop-i-init g c =
    let none = sym c.new-lanes.ensures.items in
    let R : ℕ → LaneView → GroupPlan → Type 0 = λ n l x. IsLaneOf c.args.entries c.args.buckets l.cache (ghosts.sizes l.kind)
    (ghosts.folding l.kind) (ghosts.open_bound l.kind) (ghosts.absorb_bound l.kind) x (wiring_at c.args.plan.now n) in
    record {
      lanes = subst (λ ls. EachFrom R 0 ls []) none tt;
      made = subst (λ ls. Each IsMadeFor ls []) none tt;
      pipe_places = subst (HavePlaces c.args.pipe_records) none (All-nil (λ l. l.pipe.places ≡ c.args.pipe_records));
      stands = subst (λ ls. Each StandsFor ls []) none tt;
    }

pub returns : goal.returns
returns g c =
    let groups = c.args.plan.now.groups in
    let lanes = c.loop-i.lanes.items in
    let R : ℕ → LaneView → GroupPlan → Type 0 = λ n l x. IsLaneOf c.args.entries c.args.buckets l.cache (ghosts.sizes l.kind)
    (ghosts.folding l.kind) (ghosts.open_bound l.kind) (ghosts.absorb_bound l.kind) x (wiring_at c.args.plan.now n) in
    let all = take_all c.loop-i.i groups (subst (λ n. n ≤ c.loop-i.i) c.groups-i-end.ensures c.loop-i-test.false) in
    record {
      lanes = rw all at c.loop-i.invariant.lanes;
      made = rw all at c.loop-i.invariant.made;
      pipe_places = c.loop-i.invariant.pipe_places;
      stands = rw all at c.loop-i.invariant.stands;
    }
