use Rattle.std.proofs.{Common.{◌++◌, ◌∷◌, [], take, append_assoc, append-nil, sym, ap, ap₂, ◌∙◌}, lemmas.List.{take_all, take_more}}
use Rattle.switch_core.proofs.tables.push_texts.Goals as goal

pub loop-text-init : goal.loop-text-init
loop-text-init c = sym (append-nil _)

pub loop-text-preserved : goal.loop-text-preserved
loop-text-preserved c =
    let first = c.args.into.now in
    let before = take c.loop-text.text-index c.args.texts.now in
    c.in_ok-push.ensures.ok
    ∙ (ap₂ (λ all text. all ++ text ∷ []) c.loop-text.invariant (c.in_ok-from_slice.ensures ∙ (c.as_slice.ensures ∙ c.text-item.is))
    ∙ (append_assoc first before _
    ∙ ap (λ more. first ++ more) (sym (take_more c.args.texts.now c.loop-text.text-index c.text-item.result c.loop-text-test.true))))

pub returns : goal.returns
returns c = c.loop-text.invariant ∙ ap (λ all. c.args.into.now ++ all) (take_all _ _ c.loop-text-test.false)
