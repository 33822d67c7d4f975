use Rattle.std.{proofs.Common.{◌≡◌, ◌++◌, take, None}, specs.Prelude.map}
use Rattle.stage_plan.proofs.fields.push_made.Given as goal

abbrev pub invariant-loop-value : goal.invariant-loop-value
invariant-loop-value l = l.into ≡ l.initial.into ++ map (λ _. None) (take l._value-index l.values)
