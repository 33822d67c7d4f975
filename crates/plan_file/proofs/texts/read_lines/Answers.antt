-- The lines so far are valid one after another, and the first that isn't is where the text is refused.
use Rattle.std.proofs.Common.{◌+◌}
use Rattle.plan_file.proofs.{ReadFacts.reached_more, WithinFacts.line_within}
use Rattle.plan_file.proofs.texts.read_lines.Goals as goal

pub lines-preserved : goal.lines-preserved
lines-preserved c =
    let text = c.args.text.now in
    let made = c.lines.made in
    let after = c.one_more.new.made in
    let is = rw c.if-not-branch.false at c.in_ok-one_more.ensures in
    let i = c.lines.invariant.reached.0 in
    let r = c.lines.invariant.reached.1 in
    let step = c.in-Some.ensures.line i r.start in
    record {
      within = c.in-Some.ensures.later.1;
      small = c.lines.invariant.small;
      limits = line_within made c.in-Some.line.now after is c.lines.invariant.limits;
      reached = (i + 1, reached_more text i c.lines.at c.in-Some.next made after c.in-Some.line.now r step.0 step.1 is);
    }
