use Rattle.std.proofs.Common.{◌≡◌, drop}
use Rattle.query_lang.specs.Streams.{takings}
use Rattle.enclosure_folds.specs.Check.{first_fault, enclose_fault}
use Rattle.enclosure_folds.proofs.check.enclose_check.Given as goal

-- no groupby so far has a fault, and those that are left are those of the plan from this number on
abbrev pub invariant-loop-one : goal.invariant-loop-one
invariant-loop-one l = record {
  fault : first_fault l.q.folds (drop l.one-index l.one-items) ≡ enclose_fault l.q;
  groups : drop l.group (takings l.q.streams) ≡ takings (drop l.one-index l.one-items);
}
