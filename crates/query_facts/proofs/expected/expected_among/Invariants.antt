use Rattle.std.{proofs.Common.{◌≡◌, ◌++◌, drop}, specs.Prelude.filter}
use Rattle.query_facts.specs.Expected.{goes_on}
use Rattle.query_facts.proofs.expected.expected_among.Given as goal

abbrev pub invariant-loop-kind : goal.invariant-loop-kind
invariant-loop-kind l = l.found ++ filter (goes_on l.front) (drop l.kind-index l.kinds) ≡ filter (goes_on l.front) l.kinds
