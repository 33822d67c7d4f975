use Rattle.std.proofs.Common.{◌≡◌, ◌+◌, ◌++◌, map, drop}
use Rattle.fold_class.specs.{Step.list_of, Stored.part_at, Rows.first_part}
use Rattle.fold_class.proofs.rows.start_column.Given as goal

abbrev pub invariant-loop-v : goal.invariant-loop-v
invariant-loop-v g l = let m = g.C.Coeff in record {
  vars : list_of l.v (part_at m.from_words m.WORDS l.scratch) ++ map (first_part m.elements l.column l.history) (drop l.v l.origins) ≡ map
      (first_part m.elements l.column l.history) l.origins;
  steps : l.steps ≡ l.initial.steps + l.v;
}
