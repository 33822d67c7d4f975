use Rattle.std.proofs.{Common.{◌++◌, ◌∷◌, [], ◌∙◌, ap, subst, sym, List, ℕ}, lemmas.Result.IfOk-weaker}
use Rattle.stage_plan.{specs.Sound.EndsAt, proofs.Chains.chain_first}
use Rattle.stage_plan.proofs.chain.+push_chain.Goals as goal

pub returns : goal.returns
returns t c =
    let P : List ℕ → Type 0 = λ l. EndsAt c.args.ops.now l c.args.at in
    IfOk-weaker c.push-2.result _ _ (λ _ is. subst P (sym (is ∙ ap (λ l. l ++ c.args.at ∷ []) c.requires.empty))
    (chain_first _ c.args.at _ c.requires.sound c.requires.there c.if-ops-at-gt1.false)) c.push-2.ensures.ok
