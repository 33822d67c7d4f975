-- The history after the code is that of the step, whatever the linear variables were.
use Rattle.std.proofs.Common.{ap, ◌∙◌}
use Rattle.fold_class.specs.Step.{words_at}
use Rattle.epoch_entry.proofs.StepWords.{history_written}
use Rattle.epoch_entry.proofs.step.step_history.Goals as goal

pub returns-clause-remembers : goal.returns-clause-remembers
returns-clause-remembers g c =
    let p = c.args.program.now in
    let state = c.scatter.new.state in
    let eh = c.as_slice-places.ensures in (
      state,
      history_written p _ _ c.requires.history (c.scatter.auto.state ∙ c.requires.state)
          (rw eh at c.scatter.ensures.written),
      c.gather.ensures.words ∙ ap (words_at c.exec.new.state) eh ∙ ap (λ s. words_at s p.layout.history) c.exec.ensures.step,
    )
