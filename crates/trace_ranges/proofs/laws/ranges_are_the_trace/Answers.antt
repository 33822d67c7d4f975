use Rattle.trace_ranges.proofs.TraceFacts.{ranges_are_the_trace_lem}
use Rattle.trace_ranges.proofs.laws.ranges_are_the_trace.Goals as goal

pub returns : goal.returns
returns c = ranges_are_the_trace_lem
