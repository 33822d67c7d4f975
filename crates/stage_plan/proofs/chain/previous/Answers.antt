use Rattle.stage_plan.proofs.Chains.{none_previous}
use Rattle.stage_plan.proofs.chain.previous.Goals as goal

pub returns-in-None-number_in : goal.returns-in-None-number_in
returns-in-None-number_in c = none_previous _ c.args.at _ _ c.requires.sound c.requires.there c.requires.late c.in-None.ensures.found
    c.in-None-number_in.ensures.found
