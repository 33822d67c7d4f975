use Rattle.plan_file.proofs.lines.print.Goals as goal

pub returns-in_default : goal.returns-in_default
returns-in_default c after is = c.in_default.ensures is.group is.valid
