-- Some packets were taken, each with its turn, and the fault ahead and what the pipeline keeps are the same.
use Rattle.std.proofs.Common.{◌≡◌, ◌≤◌, ℕ, length}
use Rattle.trace_drive.specs.{Drives.coming, Follows.Keeps, Replays.{Advances, MakesTheirTurns, replay_fault, replay_pipeline}}
use Rattle.trace_drive.proofs.replay.Replay.finish.Given as goal

-- some packets were taken, each with its turn
abbrev pub invariant-packets : goal.invariant-packets
invariant-packets g l = record {
  taken : (number : ℕ) × Advances number l.initial.self l.self × MakesTheirTurns number l.initial.self l.self;
  fault : replay_fault l.self ≡ replay_fault l.initial.self;
  keeps : Keeps (replay_pipeline l.initial.self) (replay_pipeline l.self);
  later : l.initial.steps ≤ l.steps;
}

abbrev pub decreases-packets : goal.decreases-packets
decreases-packets g l = length (coming l.self.packets)
