use Rattle.std.{proofs.Common.{◌≡◌, ◌++◌, drop}, specs.Prelude.map}
use Rattle.query_lang.specs.Streams.{takings}
use Rattle.plan_writer.proofs.groups.fold_numbers.Given as goal

abbrev pub invariant-loop-one : goal.invariant-loop-one
invariant-loop-one l = l.all ++ map (λ t. t.fold_number) (takings (drop l.one-index l.streams)) ≡ map (λ t. t.fold_number)
    (takings l.streams)
