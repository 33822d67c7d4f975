use Rattle.plan_file.proofs.group_lines.group_line.Goals as goal

pub returns-in_default : goal.returns-in_default
returns-in_default c after is = c.in_default.ensures after.name after.present is.valid
