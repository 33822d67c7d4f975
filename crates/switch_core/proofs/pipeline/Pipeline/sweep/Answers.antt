-- What a sweep's events make of the machines: their buckets are emptied.
use Rattle.switch_core.specs.PlanLanes.{AreKept, PipelineIsSwept, PipelineMakes, upkeeps_at}
use Rattle.switch_core.specs.declared.upkeep.Upkeep.TheVariants as due
use Rattle.switch_core.proofs.{LaneFacts.on_both, PipelineSteps.pipeline_is_swept}
use Rattle.switch_core.proofs.pipeline.Pipeline.sweep.Goals as goal

pub returns-clause-swept : goal.returns-clause-swept
returns-clause-swept g c =
    let old = c.args.self.now in
    let new = c.keep_up.new.self in
    on_both (PipelineMakes g.row.WAYS (upkeeps_at due.Sweep old.lanes) old new) (AreKept due.Sweep new.lanes)
    (PipelineIsSwept old new) c.keep_up.result
    (pipeline_is_swept c.events_keep_alike.ensures c.buckets_empty_by_evictions.ensures g.row.WAYS old new c.invariant.ensures)
    c.keep_up.ensures.makes c.keep_up.ensures.left
