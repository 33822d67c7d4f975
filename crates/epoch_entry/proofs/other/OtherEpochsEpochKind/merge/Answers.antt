use Rattle.std.{proofs.{Common.{refl, sym, ap, ◌∙◌}, Math.Logic.{∥∥₁_elim}, Props.props}, specs.Prelude.fold}
use Rattle.fold_code.specs.Meaning.{code_step}
use Rattle.epoch_entry.proofs.FoldLemmas.{code_folds}
use Rattle.epoch_entry.proofs.other.OtherEpochsEpochKind.merge.Goals as goal

pub returns-clause-merged : goal.returns-clause-merged
returns-clause-merged g c rows st may =
    let p = c.args.self.now.program in
    ∥∥₁_elim c.args.self.now.sound (hlevel props) (λ (f, h).
    c.copy_words.ensures.words ∙ st f h ∙ sym (code_folds f _ h.code _ rows h.valid.starts)
    ∙ ap (λ s. fold (code_step p.code) s rows) (sym (may refl ∙ h.layout.initial)))
