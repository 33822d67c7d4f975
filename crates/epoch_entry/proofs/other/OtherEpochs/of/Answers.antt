use Rattle.epoch_entry.proofs.{KindFacts.{other_kind, other_merged}, ShapeLemmas.program_shaped}
use Rattle.epoch_entry.proofs.other.OtherEpochs.of.Goals as goal

pub invariant_of-result-clause-shape : goal.invariant_of-result-clause-shape
invariant_of-result-clause-shape c = program_shaped _ c.requires

pub returns-clause-kind : goal.returns-clause-kind
returns-clause-kind c f h e = other_kind f _ h e

pub returns-clause-merge : goal.returns-clause-merge
returns-clause-merge c f h = other_merged f _ h
