use Rattle.std.{proofs.Common.{◌≡◌, ◌++◌, take}, specs.Prelude.flat_map}
use Rattle.plan_writer.specs.PlanText.{print_line}
use Rattle.plan_writer.proofs.lines.push_prints.Given as goal

abbrev pub invariant-loop-print : goal.invariant-loop-print
invariant-loop-print l = l.text ≡ l.initial.text ++ flat_map print_line (take l.print-index l.prints)
