use Rattle.std.proofs.Common.{◌≡◌, ◌∷◌, suc, ◌+◌, drop, ap, ◌∙◌, arith}
use Rattle.trace_drive.proofs.Taking.{made_next}
use Rattle.trace_drive.proofs.packets.made_into.Goals as goal

pub returns-clause-packet : goal.returns-clause-packet
returns-clause-packet c is =
    let made = c.args.made.now in
    let at = c.args.at.now in
    made_next made at c.get.result.now (omega arith) c.get.ensures ∙ ap (λ n. c.get.result.now ∷ drop n made)
    (let e : suc at ≡ at + 1 = omega arith in e)
