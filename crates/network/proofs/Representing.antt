-- What a network represents after the events that it makes.
use Rattle.std.{proofs.Common.{◌≡◌, ℕ, List, [], ◌∷◌, ◌++◌, refl, sym, ap, subst, ◌∙◌, arith, append-nil, append_assoc}, specs.List.All}
use Rattle.epoch_model.specs.Machine.{Event}
use Rattle.stage_plan.specs.Sound.{PlanParts}
use Rattle.additive_laws.specs.{Network.SwitchEvent, Traces.from_switch}
use Rattle.net_wide.proofs.SameTexts.{at_place}
use Rattle.network.specs.{Groups.{GroupStands, GroupView}, Events.GroupMakesAll, Networks.{NetworkGrows, NetworkView}}
use Rattle.network.specs.Running.{NetworkEvent, NetworkMakes, NetworkStands, RunsFollowEvents, all_given, gives, merged_after, switch_of}
use Rattle.network.{specs.Shared.{merged_by, with_event}, proofs.SharedSteps.each_back}

pub given_on : (plan : PlanParts) (n : ℕ) (xs ys : List NetworkEvent) → all_given plan n (xs ++ ys) ≡ all_given plan n xs
    ++ all_given plan n ys
given_on _ n [] _ = refl
given_on plan n (e ∷ xs) ys =
    let first = from_switch (switch_of e) (gives plan e n) in
    rw (given_on plan n xs ys, append_assoc first (all_given plan n xs) (all_given plan n ys))

merged_last : (ways buckets : ℕ) (before events : List SwitchEvent) (e : SwitchEvent)
    → merged_after ways buckets before (events ++ e ∷ []) ≡ merged_after ways buckets before events
    ++ merged_by ways buckets e.switch e.event (before ++ events)
merged_last ways buckets before [] e =
    rw (append-nil (merged_by ways buckets e.switch e.event before), append-nil before)
merged_last ways buckets before (x ∷ events) e =
    let first = merged_by ways buckets x.switch x.event before in
    rw (
      merged_last ways buckets (before ++ x ∷ []) events e,
      append_assoc before (x ∷ []) events,
      append_assoc first
          (merged_after ways buckets (before ++ x ∷ []) events) (merged_by ways buckets e.switch e.event (before ++ x ∷ events)),
    )

-- the groupby represents what it is given, and its store holds what that merges
abbrev Stands : ℕ → ℕ → GroupView → List SwitchEvent → Type 0
Stands ways buckets group given = GroupStands ways buckets group given (merged_after ways buckets [] given)

group_stands : (ways buckets at : ℕ) (events : List Event) (old new : GroupView) (before : List SwitchEvent)
    → GroupMakesAll ways at events old new → Stands ways buckets old before
    → Stands ways buckets new (before ++ from_switch at events)
group_stands ways buckets at [] old _ before same s =
    rw (same, append-nil before) s
group_stands ways buckets at (event ∷ events) _ new before made s =
    let e : SwitchEvent = record { switch = at; event = event } in
    let one = made.1.stands buckets before (merged_after ways buckets [] before) s in
    let next = subst (GroupStands ways buckets made.0 (with_event before at event)) (sym (merged_last ways buckets [] before e)) one in
    rw (← append_assoc before (e ∷ []) (from_switch at events)) (group_stands ways buckets at events made.0 new (with_event before at event)
    made.2 next)

makes_stand : (ways : ℕ) (e : NetworkEvent) (a b : NetworkView) (events : List NetworkEvent) → NetworkMakes ways e a b
    → NetworkStands ways a events → NetworkStands ways b (events ++ e ∷ [])
makes_stand ways e a b events made stand n group here =
    let back = each_back _ 0 a.groups b.groups n _ made.groups here in
    let on = group_stands ways a.buckets (switch_of e) (gives a.plan e n) back.0 group (all_given a.plan n events) (back.2 n (omega arith))
    (stand n back.0 back.1) in
    let last = from_switch (switch_of e) (gives a.plan e n) in
    let all =
    given_on a.plan n events (e ∷ []) ∙ ap (λ es. all_given a.plan n events ++ es) (append-nil last) in
    rw (made.keeps.buckets, made.keeps.plan, all) on

pub runs_stand : RunsFollowEvents
runs_stand ways [] before a b same stand = rw (same, append-nil before) stand
runs_stand ways (e ∷ events) before a b ran stand =
    rw (← append_assoc before (e ∷ []) events) (runs_stand ways events (before ++ e ∷ []) ran.0 b ran.2
    (makes_stand ways e a ran.0 before ran.1 stand))

pub fresh_stands : (ways : ℕ) (net : NetworkView) → All (λ group. GroupStands ways net.buckets group [] []) net.groups
    → NetworkStands ways net []
fresh_stands ways net fresh n group here = at_place (λ x. GroupStands ways net.buckets x [] []) net.groups n group fresh here

pub grown_stands : (ways : ℕ) (a b : NetworkView) (events : List NetworkEvent) → NetworkGrows ways a b → NetworkStands ways a events
    → NetworkStands ways b events
grown_stands ways a b events grown stand n group here =
    let back = each_back _ 0 a.groups b.groups n _ grown.groups here in
    let given = all_given a.plan n events in
    rw (grown.keeps.buckets, grown.keeps.plan) ((back.2 n (omega arith)).stands given (merged_after ways a.buckets [] given)
    (stand n back.0 back.1))
