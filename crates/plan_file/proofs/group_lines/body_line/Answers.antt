use Rattle.plan_file.proofs.group_lines.body_line.Goals as goal

pub returns-in-None : goal.returns-in-None
returns-in-None c =
    let none = rw c.in-None.is at c.in_ok-words.ensures in
    λ after is. none is.words (rw (c.len-states.ensures, c.len-args.ensures) is.valid)
