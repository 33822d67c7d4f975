-- Where the line says nothing of the group whose lines are being read, nothing is made with it.
use Rattle.std.proofs.Common.{◌≡◌, subst}
use Rattle.plan_file.specs.FoldLines.{IsFoldLine}
use Rattle.plan_file.proofs.lines.fold.Goals as goal

pub returns-in-None-found : goal.returns-in-None-found
returns-in-None-found c after is =
    let none = rw c.in-None-found.is at c.in_ok-found-in-Some.ensures in
    let same : is.group ≡ c.in-Some.group = cc in
    none is.folded (subst (λ g. IsFoldLine g c.args.line.now is.folded) same is.valid)
