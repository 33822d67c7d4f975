use Rattle.std.{proofs.Common.{◌≡◌, ◌++◌, take}, specs.Prelude.map}
use Rattle.query_lang.specs.declared.typing.Origin.TheVariants as origin
use Rattle.query_facts.proofs.columns.push_made.Given as goal

abbrev pub invariant-loop-value : goal.invariant-loop-value
invariant-loop-value l = l.into ≡ l.initial.into ++ map (λ _. origin.Map l.number) (take l._value-index l.values)
