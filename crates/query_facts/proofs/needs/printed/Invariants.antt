use Rattle.std.proofs.Common.{◌≡◌, ◌++◌, map, drop}
use Rattle.query_facts.specs.Needs.{table_of}
use Rattle.query_facts.proofs.needs.printed.Given as goal

abbrev pub invariant-loop-place : goal.invariant-loop-place
invariant-loop-place l = l.tables ++ map (table_of l.groups) (drop l.place-index l.prints) ≡ map (table_of l.groups) l.prints
