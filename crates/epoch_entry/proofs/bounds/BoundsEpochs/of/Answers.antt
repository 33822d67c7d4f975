use Rattle.epoch_entry.proofs.{TripleLemmas.{bounds_kind, bounds_merged}, ShapeLemmas.program_shaped}
use Rattle.epoch_entry.proofs.bounds.BoundsEpochs.of.Goals as goal

pub invariant_of-result-clause-shape : goal.invariant_of-result-clause-shape
invariant_of-result-clause-shape c = program_shaped _ c.requires

pub returns-clause-kind : goal.returns-clause-kind
returns-clause-kind c f h = bounds_kind f _ h

pub returns-clause-merge : goal.returns-clause-merge
returns-clause-merge c f h = bounds_merged f _ h
