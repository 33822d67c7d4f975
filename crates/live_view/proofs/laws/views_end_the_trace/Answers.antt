use Rattle.live_view.proofs.Prefixes.{views_end}
use Rattle.live_view.proofs.laws.views_end_the_trace.Goals as goal

pub returns : goal.returns
returns c = views_end c.taken_uses_are_in_trace.ensures c.packets_follow_the_trace.ensures c.sweeps_reach_the_end.ensures
