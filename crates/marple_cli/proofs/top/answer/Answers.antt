-- what a command loses of its operands is what the words lose of them, which ask for that command
use Rattle.std.proofs.Common.{subst}
use Rattle.marple_cli.specs.Call.{LosesWhatIsRead}
use Rattle.marple_cli.proofs.top.answer.Goals as goal

pub returns-in-Ok-clause-lost : goal.returns-in-Ok-clause-lost
returns-in-Ok-clause-lost g c =
    subst (λ asked. LosesWhatIsRead asked (g.I.Inputs.input c.args.inputs.now) (g.I.Inputs.input c.perform.new.inputs))
    c.in-Some.ensures.asked c.perform.ensures.lost

pub returns-in-Err-clause-lost : goal.returns-in-Err-clause-lost
returns-in-Err-clause-lost g c =
    subst (λ asked. LosesWhatIsRead asked (g.I.Inputs.input c.args.inputs.now) (g.I.Inputs.input c.perform.new.inputs))
    c.in-Some.ensures.asked c.perform.ensures.lost
