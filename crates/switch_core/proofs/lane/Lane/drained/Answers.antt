use Rattle.switch_core.proofs.lane.Lane.drained.Goals as goal

pub returns-clause-done : goal.returns-clause-done
returns-clause-done g c t m s = c.drained.ensures.done t m (rw (← c.self.view_is) at s.front)
