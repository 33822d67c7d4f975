use Rattle.std.proofs.Common.{◌≡◌, drop}
use Rattle.split_fields.specs.Splits.{all_keyed}
use Rattle.split_fields.proofs.choice.all_keyed.Given as goal

abbrev pub invariant-loop-one : goal.invariant-loop-one
invariant-loop-one l = all_keyed l.field l.names (drop l.one-index l.streams) ≡ all_keyed l.field l.names l.streams
