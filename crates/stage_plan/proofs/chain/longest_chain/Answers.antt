use Rattle.std.proofs.{Common.arith, lemmas.Bool.Decides.nat_tests}
use Rattle.stage_plan.proofs.Chains.{chain_is}
use Rattle.stage_plan.proofs.chain.longest_chain.Goals as goal

pub returns : goal.returns
returns c = chain_is _ _ _ c.requires (grind (arith, nat_tests)) c.in_ok-push_chain.ensures
