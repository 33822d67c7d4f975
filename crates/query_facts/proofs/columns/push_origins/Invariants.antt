use Rattle.std.{proofs.Common.{◌≡◌, ◌++◌, take}, specs.Prelude.map}
use Rattle.query_facts.specs.Columns.{origin_at}
use Rattle.query_facts.proofs.columns.push_origins.Given as goal

abbrev pub invariant-loop-slot : goal.invariant-loop-slot
invariant-loop-slot l = l.into ≡ l.initial.into ++ map (origin_at l.columns) (take l.slot-index l.slots)
