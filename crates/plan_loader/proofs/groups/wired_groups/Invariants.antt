use Rattle.std.proofs.Common.{◌≡◌, map}
use Rattle.plan_loader.specs.{Meaning.wiring_in, Parts.AreGroupsFrom}
use Rattle.plan_loader.proofs.groups.wired_groups.Given as goal

-- what is made of the groups so far
abbrev pub invariant-loop-one : goal.invariant-loop-one
invariant-loop-one l = record {
  groups : AreGroupsFrom l.yielded l.plans;
  wiring : l.wirings ≡ map wiring_in l.yielded;
}
