use Rattle.std.{proofs.Common.{◌≡◌, ◌+◌, ◌*◌, ◌≤◌}, specs.Prelude.fold}
use Rattle.fold_code.specs.Meaning.{code_step, code_steps}
use Rattle.epoch_entry.specs.Entries.{logged_rows}
use Rattle.epoch_entry.proofs.log.replay.Given as goal

abbrev pub invariant-loop-row : goal.invariant-loop-row
invariant-loop-row g l = record {
  state : l.state ≡ fold (code_step l.code) l.initial.state (logged_rows l.code.args l.row l.log);
  steps : l.initial.steps ≤ l.steps;
  cost : l.steps ≡ l.initial.steps + l.row * code_steps l.code;
}
