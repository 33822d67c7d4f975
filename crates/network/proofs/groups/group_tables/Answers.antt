-- Each turn adds the table of one more groupby, with the heading that the plan has for it.
use Rattle.std.proofs.Common.{◌<◌, ◌≤◌, ◌++◌, [], ◌∷◌, Some, length, take, sym, ap, ◌∙◌, subst, le_of_lt, le_trans, lit<, zero-add}
use Rattle.std.proofs.Math.Facts.{Fits-below}
use Rattle.stage_plan.specs.declared.group.GroupPlan.{GroupPlan}
use Rattle.query_lang.specs.declared.fault.TheConstants.{MAX_KEYS}
use Rattle.switch_core.proofs.SideBySide.{same_some, each_long, each_at, got_here}
use Rattle.network.{specs.Groups.shared_tables, proofs.GroupSteps.{part_of, tables_next, tables_whole}}
use Rattle.network.proofs.groups.group_tables.Goals as goal

pub overflow_cast-i : goal.overflow_cast-i
overflow_cast-i g c =
    let long = each_long _ 0 c.args.groups.now c.args.plan.now.groups c.requires.groups.1 in
    Fits-below {n = MAX_KEYS} tt
    (le_trans (le_of_lt (subst (λ n. c.loop-i.i < n) long c.loop-i-test.true)) c.invariant.ensures.most_groups)

pub group-requires : goal.group-requires
group-requires g c =
    subst (λ n. c.loop-i.i < n) (each_long _ 0 c.args.groups.now c.args.plan.now.groups c.requires.groups.1) c.loop-i-test.true

pub table-requires : goal.table-requires
table-requires g c =
    let i = c.loop-i.i in
    let groups = c.args.groups.now in
    let group = c.index-groups-i.result in
    let here = got_here groups i group c.loop-i-test.true ∙ ap (λ x. Some x) (sym c.index-groups-i.is) in
    let own = part_of c.args.plan.now c.requires.groups.0 i groups group c.invariant.ensures c.requires.groups.1 here in
    let same = same_some own.part c.group.result.now (sym own.there ∙ c.group.ensures) in
    (lit< tt, subst (λ (x : GroupPlan). length x.key_names ≤ MAX_KEYS) same own.sound.most_keys)

pub loop-i-preserved : goal.loop-i-preserved
loop-i-preserved g c epochs hold =
    let i = c.loop-i.i in
    let groups = c.args.groups.now in
    let parts = c.args.plan.now.groups in
    let group = c.index-groups-i.result in
    let here = got_here groups i group c.loop-i-test.true ∙ ap (λ x. Some x) (sym c.index-groups-i.is) in
    let found = each_at _ 0 i groups epochs group hold here in
    let table = c.in_ok-table.ensures found.0 (found.2 i (sym (zero-add i))) in
    c.in_ok-push.ensures.ok ∙ (ap (λ ts. ts ++ c.in_ok-table.field-0 ∷ []) (c.loop-i.invariant epochs hold)
    ∙ (ap (λ t. take i (shared_tables parts groups epochs) ++ t ∷ []) table
    ∙ sym (tables_next parts groups epochs i _ _ _ c.group.ensures here found.1)))

pub returns : goal.returns
returns g c epochs hold =
    c.loop-i.invariant epochs hold ∙ tables_whole c.args.plan.now.groups c.args.groups.now epochs c.loop-i.i c.loop-i-test.false
