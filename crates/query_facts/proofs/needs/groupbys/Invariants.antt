use Rattle.std.proofs.Common.{◌≡◌, ◌≤◌, ◌+◌, drop}
use Rattle.query_facts.specs.Needs.{groupbys}
use Rattle.query_facts.proofs.needs.groupbys.Given as goal

abbrev pub invariant-loop-one : goal.invariant-loop-one
invariant-loop-one l = record {
  counted : l.count + groupbys (drop l.one-index l.streams) ≡ groupbys l.streams;
  most : l.count ≤ l.one-index;
}
