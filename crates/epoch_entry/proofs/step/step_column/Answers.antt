-- Code that runs on the history and the last column leaves what the row's step makes of both.
use Rattle.std.proofs.Common.{length, ap, ◌∙◌, sym}
use Rattle.fold_class.specs.Step.{words_at}
use Rattle.epoch_entry.proofs.{Insides.inside_of, StepWords.column_moved, StepSums.{five_rise, run_cost}}
use Rattle.epoch_entry.proofs.step.step_column.Goals as goal

pub scatter-requires-clause-inside : goal.scatter-requires-clause-inside
scatter-requires-clause-inside g c =
    inside_of _ _ _ _ c.as_slice-places.ensures (c.split_at_mut-state.ensures.front_len ∙ c.len.ensures) c.requires.shape.history_inside

pub scatter-requires-clause-ascending : goal.scatter-requires-clause-ascending
scatter-requires-clause-ascending g c = rw c.as_slice-places.ensures c.requires.shape.history_ascends

pub column_to_state-requires-clause-map : goal.column_to_state-requires-clause-map
column_to_state-requires-clause-map g c =
    rw c.as_slice-linear.ensures c.requires.map

pub column_to_state-requires-clause-inside : goal.column_to_state-requires-clause-inside
column_to_state-requires-clause-inside g c =
    inside_of _ _ _ _ c.as_slice-linear.ensures (c.scatter.auto.state ∙ (c.split_at_mut-state.ensures.front_len ∙ c.len.ensures))
    c.requires.shape.linear_inside

pub column_to_state-requires-clause-ascending : goal.column_to_state-requires-clause-ascending
column_to_state-requires-clause-ascending g c = rw c.as_slice-linear.ensures c.requires.shape.linear_ascends

pub exec-requires-clause-arguments : goal.exec-requires-clause-arguments
exec-requires-clause-arguments g c = c.requires.args ∙ sym c.requires.shape.code_args

pub state_to_column-requires-clause-map : goal.state_to_column-requires-clause-map
state_to_column-requires-clause-map g c =
    rw c.as_slice-linear.ensures c.requires.map

pub returns-clause-moves : goal.returns-clause-moves
returns-clause-moves g c =
    let m = g.C.Coeff in
    let p = c.args.program.now in
    let first = c.scatter.new.state in
    let state = c.column_to_state.new.state in
    let after = c.exec.new.state in
    let map' = c.args.map.now in
    let map'' = c.state_to_column.new.map in
    let el = c.as_slice-linear.ensures in
    let eh = c.as_slice-places.ensures in (
      state,
      column_moved g.met.C.Coeff.algebra _ _ g.met.C.Coeff.storage p c.requires.shape _ _
          _ _ _ _ _ _
          c.requires.history
          (c.column_to_state.auto.state ∙ c.scatter.auto.state ∙ (c.split_at_mut-state.ensures.front_len ∙ c.len.ensures))
          (rw eh at c.scatter.ensures.written)
          (rw el at c.column_to_state.ensures.written)
          (rw el at c.column_to_state.ensures.others)
          c.exec.ensures.step
          (c.gather.ensures.words ∙ ap (words_at after) eh)
          (rw el at c.state_to_column.ensures.written)
          (rw el at c.state_to_column.ensures.others),
    )

pub returns-clause-steps : goal.returns-clause-steps
returns-clause-steps g c =
    five_rise _ _ _ _ _ _ _ _ _ _ _ c.scatter.ensures.steps c.column_to_state.ensures.steps c.exec.ensures.steps c.gather.ensures.steps
    c.state_to_column.ensures.steps

pub returns-clause-cost : goal.returns-clause-cost
returns-clause-cost g c =
    run_cost _ _ _ _ _ _ _ _ _ _ _ _ _ (ap length c.as_slice-places.ensures)
    (ap length c.as_slice-linear.ensures) c.scatter.ensures.steps c.column_to_state.ensures.steps
    c.exec.ensures.steps c.gather.ensures.steps c.state_to_column.ensures.steps
