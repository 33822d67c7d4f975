-- A packet and its turn, or the end of the packets.
use Rattle.std.proofs.Common.{ℕ, Ok, ap}
use Rattle.epoch_model.specs.Machine.{after_packets}
use Rattle.switch_core.specs.Ends.{uses_by}
use Rattle.trace_drive.{specs.Drives.{geometry_for, words_of}, proofs.{Replaying.{none_more, one_more}, ReplayTurns.one_turn}}
use Rattle.trace_drive.proofs.replay.Replay.step.Goals as goal

pub returns-in-Ok-clause-next : goal.returns-in-Ok-clause-next
returns-in-Ok-clause-next g c is schedule all count way =
    let old = c.args.self.now in
    let turned = c.in-Ok.ensures in
    one_more c.packets_follow_the_trace.ensures c.taken_uses_are_in_trace.ensures schedule all count c.next_into.new.packet old
    (record { pipeline = c.turn.new.pipeline; packets = c.next_into.new.self; refreshes = c.turn.new.refreshes; lags = c.turn.new.lags })
    way
    (c.in_ok-next_into.ensures.packet (ap Ok c.if-not-branch.false)) turned.keeps
    (turned.follows count (λ (i : ℕ). after_packets (geometry_for g.row.WAYS schedule) (uses_by old.pipeline.plan i (words_of all)) count)
    way.refreshes way.follows)
    (c.turn.ensures.refreshes count way.refreshes) (c.turn.ensures.lags count way.lags) c.turn.ensures.every.0 c.turn.ensures.every.1

pub returns-then-not-branch-clause-end : goal.returns-then-not-branch-clause-end
returns-then-not-branch-clause-end g c is schedule all count way =
    let ended = c.in_ok-next_into.ensures.end (ap Ok c.if-not-branch.true) in
    none_more schedule all count c.args.self.now c.next_into.new.self way ended.0 ended.1

pub returns-in-Ok-clause-turn : goal.returns-in-Ok-clause-turn
returns-in-Ok-clause-turn g c is schedule all count way =
    one_turn schedule all count c.next_into.new.packet c.args.self.now c.turn.new.pipeline c.next_into.new.self way
    (c.in_ok-next_into.ensures.packet (ap Ok c.if-not-branch.false)) (c.in-Ok.ensures.turns count count way.refreshes way.lags)
