use Rattle.std.proofs.Common.{◌≡◌, ◌≤◌, ◌*◌, length, subst}
use Rattle.switch_core.proofs.PipelineSteps.{lanes_many}
use Rattle.switch_core.proofs.pipeline.Pipeline.held.Goals as goal

pub returns-clause-bound : goal.returns-clause-bound
returns-clause-bound g c =
    let p = c.args.self.now in
    let many : length c.lane-lane.result.now.cache.lists
    ≡ p.buckets = lanes_many p.entries p.plan p.buckets 0 p.lanes p.plan.groups c.invariant.ensures c.args.lane c.lane-lane.result.now
    c.lane-lane.ensures.lane in
    subst (λ n. c.held.result ≤ n * g.row.WAYS) many c.held.ensures.bound
