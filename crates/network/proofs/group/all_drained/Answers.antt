use Rattle.std.proofs.Common.{Some, sym, ap, ◌∙◌}
use Rattle.switch_core.{specs.Closing.is_drained, proofs.{LaneFacts.all_next, SideBySide.got_here}}
use Rattle.network.proofs.group.all_drained.Goals as goal

pub loop-front-preserved : goal.loop-front-preserved
loop-front-preserved g c =
    let fronts = c.args.fronts.now in
    let i = c.loop-front.front-index in
    let below = c.loop-front-test.true in
    all_next (λ front. is_drained front.cache front.pipe) fronts i c.front-item.result c.loop-front.invariant
    (got_here fronts i c.front-item.result below ∙ ap (λ l. Some l) (sym c.front-item.is)) (sym c.drained.ensures.value
    ∙ c.if-not-drained.false)
