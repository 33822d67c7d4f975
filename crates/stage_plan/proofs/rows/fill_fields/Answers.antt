use Rattle.std.proofs.{Common.{arith, ◌∙◌, ap, take, drop, ◌++◌}, lemmas.List.{take-append-le, take_all}}
use Rattle.marple_base.specs.declared.field.TheConstants.{FIELDS}
use Rattle.stage_plan.proofs.rows.fill_fields.Goals as goal

pub returns-clause-fields : goal.returns-clause-fields
returns-clause-fields g c =
    let words = c.args.words.now in
    ap (λ front. take FIELDS (front ++ drop FIELDS c.args.registers.now)) c.copy_from_slice.ensures.after
    ∙ take-append-le FIELDS words (drop FIELDS c.args.registers.now) (omega (arith, c.requires.words))
    ∙ take_all FIELDS words (omega (arith, c.requires.words))
