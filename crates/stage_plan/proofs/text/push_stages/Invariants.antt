use Rattle.std.{proofs.Common.{◌≡◌, ◌++◌}, specs.Prelude.map}
use Rattle.stage_plan.specs.Shape.{stage_lines, sizes_of}
use Rattle.stage_plan.proofs.text.push_stages.Given as goal

abbrev pub invariant-loop-before : goal.invariant-loop-before
invariant-loop-before l = l.text ≡ l.initial.text ++ stage_lines 1 (sizes_of l.before (map (λ one. one.stage) l.ops))
