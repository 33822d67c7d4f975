use Rattle.switch_core.specs.Lanes.{geometry}
use Rattle.marple_laws.proofs.BucketKeys.{keys_in_buckets}
use Rattle.marple_laws.proofs.lanes.lanes_keep_keys_in_buckets.Goals as goal

pub returns : goal.returns
returns c = λ ways lane events room stands.
    let g = geometry ways lane.cache in
    keys_in_buckets _ _ _ _ stands.front.cached
    (c.machines_are_well_formed.ensures g events room)
