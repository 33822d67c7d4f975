use Rattle.std.{proofs.Common.{◌≡◌, drop}, specs.Prelude.fold}
use Rattle.marple_base.specs.Field.{no_fields}
use Rattle.stage_plan.specs.Marking.{marked_op}
use Rattle.stage_plan.proofs.fields.mark_all.Given as goal

abbrev pub invariant-loop-one : goal.invariant-loop-one
invariant-loop-one l = fold (λ all one. marked_op l.columns all one.op) l.all (drop l.one-index l.streams)
    ≡ fold (λ all one. marked_op l.columns all one.op) no_fields l.streams
