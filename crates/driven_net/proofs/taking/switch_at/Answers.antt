-- A switch whose number is how many are known is new and is added, and any other is one of those known.
use Rattle.std.proofs.Common.{◌≡◌, ◌≢◌, ◌+◌, ◌≤◌, [], ◌∷◌, length, refl, sym, ap, ◌∙◌, subst, arith, length-append}
use Rattle.std.proofs.lemmas.Bool.Decides.{nat_tests}
use Rattle.net_wide.specs.Numbering.{place_among}
use Rattle.driven_net.{specs.Follows.NetFollows, proofs.{Known.{number_is, known_same, known_more}, Following.follows_more}}
use Rattle.driven_net.proofs.taking.switch_at.Goals as goal
use Rattle.driven_net.proofs.taking.switch_at.Goals.{Then-at-before, Else-at-before}

pub number_switch-requires : goal.number_switch-requires
number_switch-requires g c = subst (λ n. n ≤ 64) c.requires.switches c.invariant.ensures.few

-- the switch has its number, which is that of the next new one or of one before it
last : (g : _) (c : Then-at-before g) → place_among c.args.known.now c.args.switch ≡ length c.args.known.now
last g c =
    let place = (number_is c.args.known.now c.args.switch c.in-Some.at (sym c.in-Ok.ensures.number ∙ c.in-Some.is)).0 in
    let long = c.len-before.ensures in
    let test = c.if-at-before.true in
    let end : c.in-Some.at ≡ length c.args.known.now = grind (arith, nat_tests) in
    place ∙ end

not_last : (g : _) (c : Else-at-before g) → place_among c.args.known.now c.args.switch ≢ length c.args.known.now
not_last g c e =
    let place = (number_is c.args.known.now c.args.switch c.in-Some.at (sym c.in-Ok.ensures.number ∙ c.in-Some.is)).0 in
    let long = c.len-before.ensures in
    let test = c.if-at-before.false in
    let apart : c.in-Some.at ≢ length c.args.known.now = grind (arith, nat_tests) in
    apart (sym place ∙ e)

pub returns-in-Ok-add_switch-clause-follows : goal.returns-in-Ok-add_switch-clause-follows
returns-in-Ok-add_switch-clause-follows g c packets f =
    let known = c.args.known.now in
    let s = c.args.switch in
    let new = c.add_switch.new.self in
    let few = (number_is known s c.in-Some.at (sym c.in-Ok.ensures.number ∙ c.in-Some.is)).1 in
    let at_end = last g (goal.at.returns-in-Ok-add_switch-clause-follows g c).Then-at-before in
    let after = c.in-Ok.ensures.known ∙ known_more known s at_end (omega arith) in
    subst (λ ks. (n : NetFollows g.row.WAYS ks packets new) × (n.events ≡ f.events)) (sym after)
    (follows_more g.row.WAYS known s packets c.args.network.now new c.in-Ok-add_switch.ensures.grows c.in-Ok-add_switch.ensures.stands f)

pub returns-else-at-before-clause-switches : goal.returns-else-at-before-clause-switches
returns-else-at-before-clause-switches g c =
    let same = known_same c.args.known.now c.args.switch (not_last g (goal.at.returns-else-at-before-clause-switches g c).Else-at-before) in
    c.requires.switches ∙ ap length (sym (c.in-Ok.ensures.known ∙ same))

pub returns-else-at-before-clause-follows : goal.returns-else-at-before-clause-follows
returns-else-at-before-clause-follows g c packets f =
    let same = known_same c.args.known.now c.args.switch (not_last g (goal.at.returns-else-at-before-clause-follows g c).Else-at-before) in
    subst (λ ks. (n : NetFollows g.row.WAYS ks packets c.args.network.now) × (n.events ≡ f.events)) (sym (c.in-Ok.ensures.known ∙ same))
    (f, refl)

pub returns-in-Ok-add_switch-clause-switches : goal.returns-in-Ok-add_switch-clause-switches
returns-in-Ok-add_switch-clause-switches g c =
    let known = c.args.known.now in
    let s = c.args.switch in
    let few = (number_is known s c.in-Some.at (sym c.in-Ok.ensures.number ∙ c.in-Some.is)).1 in
    let at_end = last g (goal.at.returns-in-Ok-add_switch-clause-switches g c).Then-at-before in
    let after = c.in-Ok.ensures.known ∙ known_more known s at_end (omega arith) in
    c.in-Ok-add_switch.ensures.grows.switches ∙ (ap (λ n. n + 1) c.requires.switches
    ∙ (sym (length-append known (s ∷ [])) ∙ ap length (sym after)))

pub returns-in-Ok-add_switch-clause-meets : goal.returns-in-Ok-add_switch-clause-meets
returns-in-Ok-add_switch-clause-meets g c =
    let at_end = last g (goal.at.returns-in-Ok-add_switch-clause-meets g c).Then-at-before in
    record { old_switch = λ less. absurd (omega arith); new_switch = λ _. c.in-Ok-add_switch.ensures.grows }

pub returns-else-at-before-clause-meets : goal.returns-else-at-before-clause-meets
returns-else-at-before-clause-meets g c = record {
  old_switch = λ less. refl;
  new_switch = λ end. absurd (not_last g (goal.at.returns-else-at-before-clause-meets g c).Else-at-before end);
}
