use Rattle.std.proofs.{Common.{false, replicate, arith, ◌∙◌}, lemmas.List.get_or-replicate}
use Rattle.query_lang.specs.declared.fault.TheConstants.{MAX_STATES}
use Rattle.fold_class.{specs.Walk.flag_in, proofs.LinearLemmas.same_fixed}
use Rattle.enclosure_folds.specs.Kinds.{role, none_fixed}
use Rattle.enclosure_folds.proofs.monotone.is_monotone.Goals as goal

pub returns : goal.returns
returns c =
    c.has_no_other.ensures
    ∙ same_fixed role c.args.f.now (flag_in (replicate MAX_STATES false)) none_fixed
    (λ v lt. get_or-replicate MAX_STATES v false false (omega (arith, lt, c.requires.states)))
