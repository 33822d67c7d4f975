use Rattle.std.proofs.Common.{◌≢◌, ap, ◌∙◌, arith, below_more}
use Rattle.epoch_entry.proofs.identity.zeros_into.Goals as goal

pub loop-place-preserved : goal.loop-place-preserved
loop-place-preserved g c = below_more _ _
    (λ p h. let ne : p ≢ c.loop-place.place = omega arith in c.store_at.ensures.others p ne ∙ c.loop-place.invariant p h)
    (c.store_at.ensures.here ∙ ap g.C.Coeff.words c.zero.ensures)
