-- The instructions left, run from the parts of variables and values so far, leave what all of them leave.
use Rattle.std.proofs.Common.{◌≡◌, ◌+◌, [], length, drop, map}
use Rattle.fold_code.specs.Machine.{AllFit, run_code, steps_of}
use Rattle.fold_class.specs.{declared.part.Part.TheVariants.Fixed, Parts.{parts, column_shares}, Step.list_of, Stored.part_at}
use Rattle.fold_class.proofs.column.run_column.Given as goal

abbrev pub invariant-loop-number : goal.invariant-loop-number
invariant-loop-number g l =
    let m = g.C.Coeff in
    let dom = parts (column_shares m.elements l.dimension l.column) l.algebra in
    let args = map (λ w. Fixed w) l.args in record {
      vars : run_code dom (drop l.number l.instrs) args (list_of l.states (part_at m.from_words m.WORDS l.scratch))
          (list_of l.number (λ i. part_at m.from_words m.WORDS l.scratch (l.states + i))) ≡ run_code dom l.instrs args
          (list_of l.states (part_at m.from_words m.WORDS l.initial.scratch)) [];
      fits : AllFit l.states (length l.args) l.number (drop l.number l.instrs);
      steps : l.steps + steps_of (drop l.number l.instrs) ≡ l.initial.steps + steps_of l.instrs;
    }
