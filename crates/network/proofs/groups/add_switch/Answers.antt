-- Each groupby gets a front more; out of memory, those that have one lose it again.
use Rattle.std.proofs.{Common.{◌+◌, ◌<◌, length, get_or, set, sym, ap, ◌∙◌, subst, lit<, le_of_lt, le_trans}, Math.Facts.Fits-below}
use Rattle.query_lang.specs.declared.fault.TheConstants.{MAX_KEYS}
use Rattle.stage_plan.specs.{Planned.wiring_at, Sound.IsSoundGroup}
use Rattle.switch_core.proofs.SideBySide.{same_some, each_long, done_start, untouched_start, done_here, untouched_next, was_there}
use Rattle.switch_core.proofs.SideBySide.{done_end}
use Rattle.network.specs.Groups.{IsGroup, with_first}
use Rattle.network.proofs.GroupSteps.{Grown, all_first, all_grown, kept_back, others_so_far, part_of}
use Rattle.network.proofs.groups.add_switch.Goals as goal

pub loop-i-init : goal.loop-i-init
loop-i-init g c = record {
  are = done_start _ 0 c.args.groups.now;
  grow = done_start _ 0 c.args.groups.now;
  others = done_start _ 0 c.args.groups.now;
  same = untouched_start 0 0 c.args.groups.now;
}

pub overflow_cast-i : goal.overflow_cast-i
overflow_cast-i g c =
    let long = each_long _ 0 c.args.groups.now c.args.plan.now.groups c.requires.groups in
    Fits-below {n = MAX_KEYS} tt
    (le_trans (le_of_lt (subst (λ n. c.loop-i.i < n) long c.loop-i-test.true)) c.invariant.ensures.most_groups)

pub group-requires : goal.group-requires
group-requires g c =
    let long = each_long _ 0 c.args.groups.now c.args.plan.now.groups c.requires.groups in
    subst (λ n. c.loop-i.i < n) long c.loop-i-test.true

pub add_switch-requires : goal.add_switch-requires
add_switch-requires g c =
    let i = c.loop-i.i in
    let first = c.args.groups.now in
    let group = get_or c.loop-i.groups i c.index-groups-i.result in
    let was = was_there i first c.loop-i.groups c.index-groups-i.result c.loop-i.invariant.same c.loop-i-test.true c.loop-i.auto.groups in
    let own = part_of c.args.plan.now c.args.switches i first group c.invariant.ensures c.requires.groups was in
    let same = same_some own.part c.group.result.now (sym own.there ∙ c.group.ensures) in
    let sound = subst (λ p. IsSoundGroup own.registers p (wiring_at c.args.plan.now i)) same own.sound in
    (lit< tt, (c.requires.sizes, (sound.program, (sound.some_keys, sound.most_keys))))

pub loop-i-preserved : goal.loop-i-preserved
loop-i-preserved g c =
    let i = c.loop-i.i in
    let plan = c.args.plan.now in
    let first = c.args.groups.now in
    let groups = c.loop-i.groups in
    let group = get_or groups i c.index-groups-i.result in
    let new = c.add_switch.new.self in
    let was = was_there i first c.loop-i.groups c.index-groups-i.result c.loop-i.invariant.same c.loop-i-test.true c.loop-i.auto.groups in
    let own = part_of plan c.args.switches i first group c.invariant.ensures c.requires.groups was in
    let grown : Grown plan i group new =
    λ switches part there is.
    let one = same_some own.part part (sym own.there ∙ there) in
    let other = same_some c.group.result.now part (sym c.group.ensures ∙ there) in
    subst (λ p. IsGroup (switches + 1) p (wiring_at plan i) new) other
    (c.in-Ok.ensures.is switches own.registers (wiring_at plan i)
    (subst (λ p. IsSoundGroup own.registers p (wiring_at plan i)) (one ∙ sym other) own.sound)
    (subst (λ p. IsGroup switches p (wiring_at plan i) group) (sym other) is)) in
    record {
      are = done_here _ i first groups group new c.loop-i.invariant.are was grown;
      grow = done_here _ i first groups group new c.loop-i.invariant.grow was c.in-Ok.ensures.grows;
      others = done_here _ i first groups group new c.loop-i.invariant.others was c.in-Ok.ensures.grows.others;
      same = untouched_next i first groups new c.loop-i.invariant.same;
    }

pub returns-clause-are : goal.returns-clause-are
returns-clause-are g c switches are =
    all_grown c.args.plan.now switches c.args.groups.now c.loop-i.groups are
    (done_end _ c.loop-i.i c.args.groups.now c.loop-i.groups c.loop-i.invariant.are c.loop-i-test.false)

pub returns-clause-grow : goal.returns-clause-grow
returns-clause-grow g c =
    done_end _ c.loop-i.i c.args.groups.now c.loop-i.groups c.loop-i.invariant.grow c.loop-i-test.false

-- Out of memory, each groupby up to this one is but for its last front as it was.
pub returns-in-Err-clause-err : goal.returns-in-Err-clause-err
returns-in-Err-clause-err g c =
    let i = c.loop-i.i in
    let first = c.args.groups.now in
    let groups = c.loop-i.groups in
    let group = get_or groups i c.index-groups-i.result in
    let new = c.add_switch.new.self in
    let was = was_there i first groups c.index-groups-i.result c.loop-i.invariant.same c.loop-i-test.true c.loop-i.auto.groups in
    let same = ap (with_first (length group.fronts)) c.in-Err.ensures.err
    ∙ all_first group in
    let others = others_so_far (i + 1) 0 first (set groups i new)
    (done_here _ i first groups group new c.loop-i.invariant.others was same)
    (untouched_next i first groups new c.loop-i.invariant.same) in
    kept_back c.args.plan.now c.args.switches 0 first _ c.keep_switches.new.groups c.args.plan.now.groups c.requires.groups others
    c.keep_switches.ensures
