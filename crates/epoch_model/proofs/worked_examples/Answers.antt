-- The worked examples hold by computing their epochs and tables.
use Rattle.std.proofs.Common.{refl}
use Rattle.epoch_model.specs.{Keys.{key_eq, key_cmp, bucket_of}, Epochs.epochs, Machine.{after_packets, end_of}, Examples.AreWorkedExamples}
use Rattle.epoch_model.proofs.worked_examples.Goals as goal

computed : AreWorkedExamples
unfolding key_eq key_cmp bucket_of epochs after_packets end_of
computed = record {
  buckets = refl;
  one_way = refl;
  two_ways = refl;
  two_others = refl;
  four_ways = refl;
  often = refl;
  consecutive = refl;
  two_buckets = refl;
  refreshed = refl;
  refreshed_other = refl;
  never_refreshed = refl;
  refreshed_always = refl;
  closed = refl;
  counted = refl;
  counted_epochs = refl;
  nothing_counted = refl;
  no_epochs = refl;
  summed = refl;
  never_cut = refl;
}

pub returns : goal.returns
returns c = computed
