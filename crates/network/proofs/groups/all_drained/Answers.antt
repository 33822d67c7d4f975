-- The first groupby that isn't drained tells the answer, and where there is none, all epochs are merged.
use Rattle.std.{proofs.{Common.{◌≡◌, Some, length, take, sym, ap, ◌∙◌, le_antisymm}, Math.Seq.take-length}, specs.List.list_all}
use Rattle.switch_core.proofs.{LaneFacts.{all_at, all_fails, all_next}, SideBySide.got_here}
use Rattle.network.{specs.Groups.group_is_drained, proofs.MakeSteps.all_merged}
use Rattle.network.proofs.groups.all_drained.Goals as goal

pub returns-then-not-drained-clause-value : goal.returns-then-not-drained-clause-value
returns-then-not-drained-clause-value g c =
    let groups = c.args.groups.now in
    let i = c.loop-group.group-index in
    let below = c.loop-group-test.true in
    sym (all_fails group_is_drained groups i c.group-item.result (got_here groups i c.group-item.result below
    ∙ ap (λ x. Some x) (sym c.group-item.is))
    (sym c.drained.ensures.value ∙ c.if-not-drained.true))

pub loop-group-preserved : goal.loop-group-preserved
loop-group-preserved g c =
    let groups = c.args.groups.now in
    let i = c.loop-group.group-index in
    let below = c.loop-group-test.true in
    all_next group_is_drained groups i c.group-item.result c.loop-group.invariant
    (got_here groups i c.group-item.result below ∙ ap (λ x. Some x) (sym c.group-item.is))
    (sym c.drained.ensures.value ∙ c.if-not-drained.false)

pub returns-clause-done : goal.returns-clause-done
returns-clause-done g c t n group e =
    let groups = c.args.groups.now in
    let i = c.loop-group.group-index in
    let end : i ≡ length groups = le_antisymm c.loop-group.auto.group-index-end c.loop-group-test.false in
    let all = ap (list_all group_is_drained)
    (sym (ap (λ k. take k groups) end ∙ take-length groups)) ∙ c.loop-group.invariant in
    all_merged g.row.WAYS group (all_at group_is_drained groups n group all e)
