-- The lanes make the events of their upkeeps, and stay those of the plan.
use Rattle.std.proofs.Common.{length, drop, refl, ◌∙◌}
use Rattle.switch_core.{specs.PlanLanes.{LanesBreakOff, LanesMake, upkeeps_at}, proofs.FrontSizes.room_kept}
use Rattle.switch_core.proofs.{LaneFacts.{whole_written, either_way, on_ok, on_err}, PipelineSteps.given_back}
use Rattle.switch_core.proofs.pipeline.Pipeline.keep_up.Goals as goal

pub invariant_of-self : goal.invariant_of-self
invariant_of-self g c =
    let was = c.self.invariant in
    let value = c.deref_mut.ensures.value in
    let len = c.keep_lanes.auto.lanes ∙ c.deref_mut.ensures.len in
    let kept = either_way _ _ _ c.keep_lanes.result c.keep_lanes.ensures.makes c.keep_lanes.ensures.breaks_off
    (λ made. (given_back _ _ _ c.self.inside.plan _ _ _ _ _ value len made was.lanes was.made).kept)
    (λ broke. (given_back _ _ _ c.self.inside.plan _ _ _ _ _ value len broke.3 was.lanes was.made).kept) in
    record {
      lanes = kept.lanes;
      made = kept.made;
      rooms = record {
        for_row = was.rooms.for_row;
        for_key = was.rooms.for_key;
        for_args = room_kept _ _ _ _ _ c.keep_lanes.auto.room c.deref_mut-2.ensures.value c.deref_mut-2.ensures.len was.rooms.for_args;
      };
      few_ways = was.few_ways;
    }

pub returns : goal.returns
returns g c =
    let items = c.self.inside.lanes.items in
    let first = c.deref_mut.result.now in
    let value = c.deref_mut.ensures.value in
    let new = c.keep_lanes.new.lanes in
    let len = c.keep_lanes.auto.lanes ∙ c.deref_mut.ensures.len in
    let was = c.self.invariant in
    record {
      makes = on_ok (LanesMake g.row.WAYS (upkeeps_at c.args.upkeep first) first new) _ c.keep_lanes.result
          (λ made. rw (← c.self.view_is)
          (given_back _ _ _ c.self.inside.plan _ _ items items new refl len (rw value at made) was.lanes was.made).makes)
          c.keep_lanes.ensures.makes;
      breaks_off = on_err (LanesBreakOff g.row.WAYS c.args.upkeep first new) _ c.keep_lanes.result
          (λ broke. let b = rw value at broke in rw (← c.self.view_is)
          (b.0, b.1, b.2, (given_back _ _ _ c.self.inside.plan _ _ items items new refl len b.3 was.lanes was.made).makes))
          c.keep_lanes.ensures.breaks_off;
      left = rw (whole_written new (drop (length new) items) c.self.inside.lanes.len len) c.keep_lanes.ensures.left;
      steps = c.keep_lanes.ensures.steps;
      cost = rw (← c.self.view_is) (rw value at c.keep_lanes.ensures.cost);
    }
