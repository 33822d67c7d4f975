-- The packets are taken one by one, each with its turn.
use Rattle.std.proofs.Common.{◌+◌, Ok, ap, ◌∙◌, arith, refl, subst, le_antisymm, lit<}
use Rattle.trace_drive.{specs.Replays.{Advances, MakesTheirTurns}, proofs.Following.keeps_along}
use Rattle.trace_drive.proofs.{Replaying.{keeps_itself, none_taken, taken_next}, ReplayTurns.{no_turns, turns_next, turns_of_all}}
use Rattle.trace_drive.proofs.replay.Replay.advance.Goals as goal

pub packets-init : goal.packets-init
packets-init g c = record {
  taken = none_taken c.args.self.now;
  turns = no_turns c.args.self.now;
  fault = refl;
  keeps =
      keeps_itself c.args.self.now.pipeline;
  later = omega arith;
}

pub step-requires : goal.step-requires
step-requires g c =
    let r = c.requires in
    (lit< tt, (r.0, r.1, r.2 + c.packets._taken, c.packets.invariant.taken r.0 r.1 r.2 r.3))

pub packets-preserved : goal.packets-preserved
packets-preserved g c =
    let was = c.packets.invariant in
    let done = c.in_ok-step.ensures in
    record {
      taken = taken_next c.packets._taken c.args.self.now c.packets.self c.step.new.self was.taken
          (done.next (ap Ok c.if-not-branch.false));
      turns = turns_next c.packets._taken c.args.self.now c.packets.self c.step.new.self was.taken was.turns
          (done.turn (ap Ok c.if-not-branch.false));
      fault = done.fault ∙ was.fault;
      keeps = keeps_along c.args.self.now.pipeline c.packets.self.pipeline c.step.new.self.pipeline was.keeps done.keeps;
      later = let a = was.later in let b = c.step.ensures.steps in omega arith;
    }

pub returns-then-not-branch-clause-end : goal.returns-then-not-branch-clause-end
returns-then-not-branch-clause-end g c is schedule all count way =
    let ended = c.in_ok-step.ensures.end (ap Ok c.if-not-branch.true) schedule all (count + c.packets._taken)
    (c.packets.invariant.taken schedule all count way) in
    (let few = ended.0 in let below = c.packets-test.true in omega arith, ended.1)

pub returns-then-not-branch-clause-all_turns : goal.returns-then-not-branch-clause-all_turns
returns-then-not-branch-clause-all_turns g c is =
    let ended = c.in_ok-step.ensures in
    turns_of_all c.packets._taken c.args.self.now c.packets.self c.step.new.self c.packets.invariant.taken c.packets.invariant.turns
    (ended.end (ap Ok c.if-not-branch.true)) (ended.still (ap Ok c.if-not-branch.true))

pub returns-clause-all : goal.returns-clause-all
returns-clause-all g c is =
    let all = le_antisymm c.packets.auto._taken-end c.packets-test.false in
    subst (λ n. Advances n c.args.self.now c.packets.self) all c.packets.invariant.taken

pub returns-clause-turns : goal.returns-clause-turns
returns-clause-turns g c is =
    let all = le_antisymm c.packets.auto._taken-end c.packets-test.false in
    subst (λ n. MakesTheirTurns n c.args.self.now c.packets.self) all c.packets.invariant.turns
