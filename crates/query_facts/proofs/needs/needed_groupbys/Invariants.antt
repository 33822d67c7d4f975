use Rattle.std.proofs.Common.{◌≡◌, ◌≤◌, ◌++◌, drop}
use Rattle.query_facts.specs.Needs.{needed_from}
use Rattle.query_facts.proofs.needs.needed_groupbys.Given as goal

abbrev pub invariant-loop-one : goal.invariant-loop-one
invariant-loop-one l = record {
  found : l.places ++ needed_from l.needs l.place l.group (drop l.one-index l.streams) ≡ needed_from l.needs 0 0 l.streams;
  place : l.place ≤ l.one-index;
  group : l.group ≤ l.one-index;
}
