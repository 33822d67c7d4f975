use Rattle.fold_class.proofs.DepthLemmas.{round_step}
use Rattle.fold_class.proofs.depth.history_of.Goals as goal

pub loop-round-preserved : goal.loop-round-preserved
loop-round-preserved c = round_step c.args.f.now c.loop-round._round c.loop-round.within c.advance.new.within c.loop-round.invariant
    c.advance.ensures
