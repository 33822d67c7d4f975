use Rattle.std.proofs.Common.{◌≡◌, ◌+◌, take, map, slice_index}
use Rattle.epoch_entry.proofs.words.gather.Given as goal

abbrev pub invariant-loop-at : goal.invariant-loop-at
invariant-loop-at g l = record {
  words : take l.at l.to ≡ map (slice_index l.state) (take l.at l.places);
  steps : l.steps ≡ l.initial.steps + l.at;
}
