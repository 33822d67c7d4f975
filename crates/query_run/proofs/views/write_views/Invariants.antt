-- The views up to this packet are written, and the replay is under way after as many packets.
use Rattle.std.{proofs.Common.{◌≡◌, ◌≤◌, ◌-◌, ◌%◌, ℕ, List, length, take}, specs.Io.KnownBytes.Appends}
use Rattle.trace_drive.specs.{Drives.{coming, fault_of, geometry_for, words_of}, Follows.Keeps}
use Rattle.trace_drive.specs.{Replays.{IsUnderWay, replay_fault, replay_pipeline}, Turns.MakesTurns}
use Rattle.epoch_model.specs.Epochs.{Geometry}
use Rattle.query_run.specs.{Reports.Prints, Views.views_up_to}
use Rattle.query_run.proofs.views.write_views.Given as goal

-- the views up to this number, which is a multiple of `every`, were written, and as many packets were taken
abbrev pub invariant-views : goal.invariant-views
invariant-views g l = record {
  way : IsUnderWay l.fn.schedule (coming l.fn.packets) l.number l.replay;
  turns : MakesTurns g.row.WAYS l.fn.schedule.refresh l.fn.schedule.lag 1 (words_of (take l.number (coming l.fn.packets))) l.fn.pipeline
      (replay_pipeline l.replay);
  multiple : l.number % l.every ≡ 0;
  fault : replay_fault l.replay ≡ fault_of l.fn.packets;
  keeps : Keeps l.fn.pipeline (replay_pipeline l.replay);
  written : (text : Geometry → List (List ℕ) → List ℕ) → Prints l.report l.fn.pipeline.plan text
      → Appends (g.O.Sink.taken l.fn.out) (g.O.Sink.taken l.out) (views_up_to (text (geometry_for g.row.WAYS l.fn.schedule)) l.every
      (words_of (coming l.fn.packets)) l.number);
  out_later : g.O.Sink.faults l.fn.out ≤ g.O.Sink.faults l.out;
  later : l.fn.steps ≤ l.steps;
}

abbrev pub decreases-views : goal.decreases-views
decreases-views g l = length (coming l.fn.packets) - l.number
