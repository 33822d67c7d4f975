-- A fresh pipeline stands for the machines after no packet, with both clocks at none counted.
use Rattle.std.proofs.Common.{refl, arith}
use Rattle.trace_drive.{specs.Drives.coming, proofs.Replaying.start_way}
use Rattle.trace_drive.proofs.replay.Replay.new.Goals as goal

pub returns-clause-under_way : goal.returns-clause-under_way
returns-clause-under_way g c = record {
  within = omega arith;
  rest = refl;
  buckets = c.requires.buckets;
  follows = start_way c.events_keep_alike.ensures c.packets_follow_the_trace.ensures g.row.WAYS c.args.schedule (coming c.args.packets)
      c.args.pipeline c.requires.fresh c.requires.buckets;
  refreshes = c.new-refreshes.ensures.counted;
  lags = c.new-lags.ensures.counted;
  refresh = c.new-refreshes.ensures.every;
  lag = c.new-lags.ensures.every;
}
