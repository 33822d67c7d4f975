use Rattle.std.{proofs.Common.{◌≡◌, ◌∷◌, [], ◌++◌, take}, specs.Prelude.{flat_map, codes}}
use Rattle.plan_writer.specs.Words.{line, operand_word}
use Rattle.plan_writer.proofs.groups.push_args.Given as goal

abbrev pub invariant-loop-value : goal.invariant-loop-value
invariant-loop-value l = l.text ≡ l.initial.text ++ flat_map (λ a. line (codes "arg") (operand_word a ∷ [])) (take l.value-index l.values)
