-- The parts that the lines made are those of a sound plan, with each group wired as its lines say.
use Rattle.std.proofs.Common.{◌≡◌, ◌∙◌, List, All, map, sym, ap, subst}
use Rattle.stage_plan.specs.declared.group.{GroupPlan.GroupPlan, GroupWiring.GroupWiring}
use Rattle.plan_file.specs.declared.made.Made.{Made}
use Rattle.plan_loader.specs.{Meaning.{reads_in, wiring_in}, Parts.{AreGroupsFrom, IsPlanFrom, IsWhole}, declared.load.Parts.Parts}
use Rattle.plan_loader.proofs.SoundPlan.{all_whole, shape_is, sound_plan}
use Rattle.plan_loader.proofs.load.plan_of.Goals as goal

-- the parts that are taken of what the lines made
abbrev parts_in : Made → Parts
parts_in made = record { reads = reads_in made; ops = made.ops; groups = made.groups; prints = made.prints }

-- a plan of these parts
plan_from : (made : Made) (parts : Parts) (plans : List GroupPlan) (wirings : List GroupWiring) → parts ≡ parts_in made
    → AreGroupsFrom parts.groups plans → wirings ≡ map wiring_in parts.groups
    → IsPlanFrom made (record { reads = parts.reads; ops = parts.ops; groups = plans; wiring = wirings })
plan_from made parts plans wirings is groups wiring = record {
  reads = ap (λ (p : Parts). p.reads) is;
  ops = ap (λ (p : Parts). p.ops) is;
  groups = subst (λ (p : Parts). AreGroupsFrom p.groups plans) is groups;
  wiring = wiring ∙ ap (λ (p : Parts). map wiring_in p.groups) is;
}

pub wired_groups-requires : goal.wired_groups-requires
wired_groups-requires c = subst (λ (p : Parts). All IsWhole p.groups) (sym c.parts_of-ops.ensures) (all_whole c.args.made c.requires)

pub of_parts-requires : goal.of_parts-requires
of_parts-requires c = sound_plan c.args.made _ c.requires
    (plan_from c.args.made c.parts_of-ops.result c.in_ok-plans.plans c.in_ok-plans.wirings c.parts_of-ops.ensures
    c.in_ok-plans.ensures.groups c.in_ok-plans.ensures.wiring)

pub returns : goal.returns
returns c =
    let from = subst (IsPlanFrom c.args.made) (sym c.in_ok-plan.ensures)
    (plan_from c.args.made c.parts_of-ops.result c.in_ok-plans.plans c.in_ok-plans.wirings c.parts_of-ops.ensures
    c.in_ok-plans.ensures.groups c.in_ok-plans.ensures.wiring) in
    record {
      sound = c.requires;
      plan = from;
      shape = shape_is c.args.made c.in_ok-plan.plan c.requires from;
      prints = ap (λ (p : Parts). p.prints) c.parts_of-ops.ensures;
    }
