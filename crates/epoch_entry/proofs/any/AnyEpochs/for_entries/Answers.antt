-- A linear fold has its own entries for either purpose, and another for bounds has those of its bounds.
use Rattle.epoch_entry.proofs.PurposeFacts.{for_bounds}
use Rattle.epoch_entry.proofs.any.AnyEpochs.for_entries.Goals as goal

pub returns-in-Linear : goal.returns-in-Linear
returns-in-Linear c = record {
  program = c.of-in-Linear.ensures.program;
  kind = λ f is.
      let k = c.of-in-Linear.result in
      for_bounds f _ _ _ _ _ _ _ is
      c.in-Bounds.is c.in-Linear.is (c.of-in-Linear.ensures.kind f is);
  merge = c.of-in-Linear.ensures.merge;
}

pub returns-in-Other : goal.returns-in-Other
returns-in-Other c = record {
  program = c.of-in-Other.ensures.program;
  kind = λ f is.
      let p = c.of-in-Other.result.program in
      for_bounds f _ _ _ _ _ _ _ is
      c.in-Bounds.is c.in-Other.is (c.of-in-Other.ensures.kind f is);
  merge = c.of-in-Other.ensures.merge;
}

pub returns-in-Folds-clause-kind : goal.returns-in-Folds-clause-kind
returns-in-Folds-clause-kind c = λ f is. rw c.in-Folds.is (c.of.ensures.kind f is)
