-- The groupbys so far are those of the first parts of the plan, without a switch and without an event.
use Rattle.std.proofs.{Common.{ℕ, ◌+◌, ◌++◌, [], ◌∷◌, take, sym, subst, lit<}, lemmas.List.Elements.{All-append, All-cons, All-nil}}
use Rattle.std.specs.List.{All}
use Rattle.stage_plan.specs.{declared.group.GroupPlan.GroupPlan, Planned.wiring_at}
use Rattle.switch_core.{specs.Rows.EachFrom, proofs.LanesMade.{each_push, take_next, group_sound}}
use Rattle.network.specs.Groups.{GroupStands, GroupView, IsGroup}
use Rattle.network.proofs.groups.made_groups.Goals as goal

pub new-requires : goal.new-requires
new-requires g c = (lit< tt, (group_sound c.args.plan.now c.loop-i.i c.group.result.now c.invariant.ensures c.group.ensures).2.program)

pub loop-i-preserved : goal.loop-i-preserved
loop-i-preserved g c =
    let i = c.loop-i.i in
    let plan = c.args.plan.now in
    let part = c.group.result.now in
    let groups = c.loop-i.groups.items in
    let group = c.in_ok-group.group in
    let pushed = c.in_ok-push.ensures.items in
    let more = take_next plan.groups i part c.group.ensures in
    let R : ℕ → GroupView → GroupPlan → Type 0 = λ n x p. IsGroup 0 p (wiring_at plan n) x in
    record {
      are = subst (λ gs. EachFrom R 0 gs (take (i + 1) plan.groups)) (sym pushed)
          (subst (λ ps. EachFrom R 0 (groups ++ group ∷ []) ps) (sym more)
          (each_push R 0 groups (take i plan.groups) group part c.loop-i.invariant.are
          (λ n q. c.in_ok-group.ensures.is (wiring_at plan n))));
      stand = λ buckets. subst (All (λ x. GroupStands g.row.WAYS buckets x [] [])) (sym pushed)
          (All-append (λ x. GroupStands g.row.WAYS buckets x [] []) groups (group ∷ []) (c.loop-i.invariant.stand buckets)
          (All-cons (λ x. GroupStands g.row.WAYS buckets x [] []) group [] (c.in_ok-group.ensures.stands buckets)
          (All-nil _)));
    }
