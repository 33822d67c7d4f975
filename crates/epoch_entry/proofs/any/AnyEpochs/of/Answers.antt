use Rattle.epoch_entry.proofs.KindFacts.{writes_sums, writes_maxima}
use Rattle.epoch_entry.proofs.any.AnyEpochs.of.Goals as goal

pub of-requires-clause-writes : goal.of-requires-clause-writes
of-requires-clause-writes c = writes_sums _ c.requires c.in-Linear.is c.in-Sums.is

pub of-requires-in-Maxima-clause-writes : goal.of-requires-in-Maxima-clause-writes
of-requires-in-Maxima-clause-writes c = writes_maxima _ c.requires c.in-Linear.is c.in-Maxima.is
