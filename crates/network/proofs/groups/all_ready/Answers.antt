-- The first groupby whose pipe at the switch has no room tells the answer, and where there is none, all are ready.
use Rattle.std.proofs.Common.{Some, sym, ap, ◌∙◌, lit<}
use Rattle.switch_core.proofs.{LaneFacts.{all_fails, all_next}, SideBySide.got_here}
use Rattle.network.{specs.Events.is_ready_at, proofs.MakeSteps.switch_within}
use Rattle.network.proofs.groups.all_ready.Goals as goal

pub ready-requires : goal.ready-requires
ready-requires g c =
    let groups = c.args.groups.now in
    let i = c.loop-group.group-index in
    let r = c.requires in
    let below = c.loop-group-test.true in
    let here = got_here groups i c.group-item.result below
    ∙ ap (λ x. Some x) (sym c.group-item.is) in
    (lit< tt, switch_within r.0 r.1 c.args.at i groups c.group-item.result r.2 r.3 here)

pub returns-then-not-ready : goal.returns-then-not-ready
returns-then-not-ready g c =
    let groups = c.args.groups.now in
    let i = c.loop-group.group-index in
    let below = c.loop-group-test.true in
    sym (all_fails (is_ready_at c.args.at) groups i c.group-item.result
    (got_here groups i c.group-item.result below ∙ ap (λ x. Some x) (sym c.group-item.is))
    (sym c.ready.ensures ∙ c.if-not-ready.true))

pub loop-group-preserved : goal.loop-group-preserved
loop-group-preserved g c =
    let groups = c.args.groups.now in
    let i = c.loop-group.group-index in
    let below = c.loop-group-test.true in
    all_next (is_ready_at c.args.at) groups i c.group-item.result c.loop-group.invariant
    (got_here groups i c.group-item.result below ∙ ap (λ x. Some x) (sym c.group-item.is))
    (sym c.ready.ensures ∙ c.if-not-ready.false)
