use Rattle.std.proofs.Common.{◌≡◌, ◌≤◌}
use Rattle.trace_drive.specs.{Follows.Keeps, Replays.{Advances, MakesTheirTurns, replay_fault, replay_pipeline}}
use Rattle.trace_drive.proofs.replay.Replay.advance.Given as goal

-- this many packets were taken
abbrev pub invariant-packets : goal.invariant-packets
invariant-packets g l = record {
  taken : Advances l._taken l.initial.self l.self;
  turns : MakesTheirTurns l._taken l.initial.self l.self;
  fault : replay_fault l.self ≡ replay_fault l.initial.self;
  keeps : Keeps (replay_pipeline l.initial.self) (replay_pipeline l.self);
  later : l.initial.steps ≤ l.steps;
}
