use Rattle.std.proofs.{Common.arith, lemmas.Grind.common_steps}
use Rattle.final_queries.proofs.rows.mapped_values_into.Goals as goal

pub loop-e-preserved : goal.loop-e-preserved
loop-e-preserved g c = grind (arith, common_steps)
