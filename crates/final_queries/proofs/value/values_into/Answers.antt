use Rattle.std.proofs.{Common.arith, lemmas.Grind.common_steps}
use Rattle.final_queries.proofs.value.values_into.Goals as goal

pub loop-slot-preserved : goal.loop-slot-preserved
loop-slot-preserved g c = grind (arith, common_steps)
