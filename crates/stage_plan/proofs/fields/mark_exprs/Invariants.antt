use Rattle.std.{proofs.Common.{◌≡◌, drop}, specs.Prelude.fold}
use Rattle.query_lang.specs.Terms.{term_of}
use Rattle.stage_plan.specs.Marking.{marked_term}
use Rattle.stage_plan.proofs.fields.mark_exprs.Given as goal

abbrev pub invariant-loop-e : goal.invariant-loop-e
invariant-loop-e l = fold (λ all e. marked_term l.columns all (term_of e)) l.all (drop l.e-index l.values)
    ≡ fold (λ all e. marked_term l.columns all (term_of e)) l.initial.all l.values
