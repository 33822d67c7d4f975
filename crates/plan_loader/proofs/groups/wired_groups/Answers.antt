use Rattle.std.proofs.{Common.{ap, sym, ◌∙◌, subst, map, ◌++◌, ◌∷◌, []}, lemmas.List.map-append}
use Rattle.plan_loader.{specs.{Meaning.wiring_in, Parts.{AreGroupsFrom, IsGroupFrom}}, proofs.SoundPlan.zip_push}
use Rattle.plan_loader.proofs.groups.wired_groups.Goals as goal

pub loop-one-preserved : goal.loop-one-preserved
loop-one-preserved c =
    let done = c.loop-one.yielded in
    let one = c.in-Some.one in
    record {
      groups = subst (AreGroupsFrom (done ++ one ∷ [])) (sym c.in_ok-push.ensures.ok)
          (zip_push IsGroupFrom done c.loop-one.plans one c.in_ok-plan.plan c.loop-one.invariant.groups c.in_ok-plan.ensures.group);
      wiring = c.in_ok-push-2.ensures.ok ∙ ap (λ ws. ws ++ c.in_ok-plan.wiring ∷ []) c.loop-one.invariant.wiring
          ∙ ap (λ w. map wiring_in done ++ w ∷ []) c.in_ok-plan.ensures.wiring ∙ sym (map-append wiring_in done (one ∷ []));
    }
