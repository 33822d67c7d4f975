-- The packets taken and then the sweep and the merges at the end reach the machines of the whole trace.
use Rattle.std.proofs.Common.{◌+◌, Ok, ap, ◌∙◌, arith, refl, lit<}
use Rattle.trace_drive.proofs.{Ending.places_kept, Following.keeps_along}
use Rattle.trace_drive.proofs.Replaying.{at_the_end, keeps_itself, less_left, none_taken, taken_next}
use Rattle.trace_drive.proofs.ReplayTurns.{no_turns, turns_next, turns_of_all}
use Rattle.trace_drive.proofs.replay.Replay.finish.Goals as goal

pub packets-init : goal.packets-init
packets-init g c = record {
  taken = (0, none_taken c.args.self, no_turns c.args.self);
  fault = refl;
  keeps =
      keeps_itself c.args.self.pipeline;
  later = omega arith;
}

pub step-requires : goal.step-requires
step-requires g c =
    let r = c.requires in
    let now = c.packets.invariant.taken in
    (lit< tt, (r.0, r.1, r.2 + now.0, now.1 r.0 r.1 r.2 r.3))

pub packets-smaller : goal.packets-smaller
packets-smaller g c =
    let r = c.requires in
    let now = c.packets.invariant.taken in
    let way = now.1 r.0 r.1 r.2 r.3 in
    less_left r.0 r.1 (r.2 + now.0) c.packets.self c.step.new.self way
    (c.in_ok-step.ensures.next (ap Ok c.if-branch.true) r.0 r.1 (r.2 + now.0) way)

pub packets-preserved : goal.packets-preserved
packets-preserved g c =
    let was = c.packets.invariant in
    let now = was.taken in
    let done = c.in_ok-step.ensures in
    record {
      taken = (
        now.0 + 1,
        taken_next now.0 c.args.self c.packets.self c.step.new.self now.1 (done.next (ap Ok c.if-branch.true)),
        turns_next now.0 c.args.self c.packets.self c.step.new.self now.1 now.2 (done.turn (ap Ok c.if-branch.true)),
      );
      fault = done.fault ∙ was.fault;
      keeps = keeps_along c.args.self.pipeline c.packets.self.pipeline c.step.new.self.pipeline was.keeps done.keeps;
      later = let a = was.later in let b = c.step.ensures.steps in omega arith;
    }

pub returns-in-Ok-clause-machines : goal.returns-in-Ok-clause-machines
returns-in-Ok-clause-machines g c schedule all count way =
    let now = c.packets.invariant.taken in
    (at_the_end c.sweeps_reach_the_end.ensures schedule all c.step.new.self c.drain.new.pipeline
    (c.in_ok-step.ensures.end (ap Ok c.if-branch.false) schedule all (count + now.0) (now.1 schedule all count way)).1
    c.in-Ok.ensures.keeps c.invariant.ensures c.in-Ok.ensures.follows c.in-Ok.ensures.empty).0

pub returns-in-Ok-clause-turns : goal.returns-in-Ok-clause-turns
returns-in-Ok-clause-turns g c =
    let now = c.packets.invariant.taken in
    let ended = c.in_ok-step.ensures in (
      c.step.new.self.pipeline,
      turns_of_all now.0 c.args.self c.packets.self c.step.new.self now.1 now.2
          (ended.end (ap Ok c.if-branch.false)) (ended.still (ap Ok c.if-branch.false)),
      c.in-Ok.ensures.drains,
    )

pub returns-in-Ok-clause-drained : goal.returns-in-Ok-clause-drained
returns-in-Ok-clause-drained g c =
    let r = c.requires in
    let now = c.packets.invariant.taken in
    (at_the_end c.sweeps_reach_the_end.ensures r.0 r.1 c.step.new.self c.drain.new.pipeline
    (c.in_ok-step.ensures.end (ap Ok c.if-branch.false) r.0 r.1 (r.2 + now.0) (now.1 r.0 r.1 r.2 r.3)).1
    c.in-Ok.ensures.keeps c.invariant.ensures c.in-Ok.ensures.follows c.in-Ok.ensures.empty).1

pub returns-in-Ok-clause-keeps : goal.returns-in-Ok-clause-keeps
returns-in-Ok-clause-keeps g c =
    let taken = keeps_along c.args.self.pipeline c.packets.self.pipeline c.step.new.self.pipeline c.packets.invariant.keeps
    c.in_ok-step.ensures.keeps in
    keeps_along c.args.self.pipeline c.step.new.self.pipeline c.drain.new.pipeline taken c.in-Ok.ensures.keeps

pub returns-in-Ok-clause-pipe_places : goal.returns-in-Ok-clause-pipe_places
returns-in-Ok-clause-pipe_places g c places have =
    let taken = keeps_along c.args.self.pipeline c.packets.self.pipeline c.step.new.self.pipeline c.packets.invariant.keeps
    c.in_ok-step.ensures.keeps in
    places_kept places c.args.self.pipeline.lanes c.drain.new.pipeline.lanes
    (c.in-Ok.ensures.keeps.places ∙ taken.places) have
