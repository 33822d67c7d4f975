use Rattle.std.proofs.Common.{true, ap, ◌∙◌}
use Rattle.query_lang.specs.Folds.{fold_states, fold_block}
use Rattle.fold_class.{specs.Translations.is_moving, proofs.PlacedLemmas.listed}
use Rattle.fold_class.proofs.translation.is_translation.Goals as goal

pub returns : goal.returns
returns c =
    let f = c.args.f.now in
    c.body_passes.ensures ∙ ap (λ known. is_moving c.args.algebra (fold_states f) known true (fold_block f))
    (listed f c.args.history.now c.requires.history)
