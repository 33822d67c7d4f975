use Rattle.stage_plan.proofs.Wirings.{sound_group}
use Rattle.stage_plan.proofs.plans.Plan.bound.Goals as goal

pub most_of_groups-requires-clause-keys : goal.most_of_groups-requires-clause-keys
most_of_groups-requires-clause-keys c = λ i group found. (sound_group _ _ i _ c.self.invariant.0 c.as_slice.ensures found).1.most_keys

pub most_of_groups-requires-clause-states : goal.most_of_groups-requires-clause-states
most_of_groups-requires-clause-states c = λ i group found. (sound_group _ _ i _ c.self.invariant.0 c.as_slice.ensures found).1.most_states
