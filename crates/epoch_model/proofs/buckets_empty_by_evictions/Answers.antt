use Rattle.epoch_model.proofs.Driving.{buckets_empty_by_evictions_lem}
use Rattle.epoch_model.proofs.buckets_empty_by_evictions.Goals as goal

pub returns : goal.returns
returns c = buckets_empty_by_evictions_lem
