use Rattle.std.proofs.Common.{◌≡◌, ◌∷◌, suc, ◌+◌, drop, ap, ◌∙◌, arith}
use Rattle.trace_drive.proofs.Taking.{made_next}
use Rattle.trace_drive.proofs.packets.kept_into.Goals as goal

pub returns-clause-packet : goal.returns-clause-packet
returns-clause-packet c is =
    let kept = c.args.kept.now.packets in
    let at = c.args.at.now in
    let packet = c.packet_into.new.packet in
    made_next kept at packet (omega arith) c.packet_into.ensures ∙ ap (λ n. packet ∷ drop n kept)
    (let e : suc at ≡ at + 1 = omega arith in e)
