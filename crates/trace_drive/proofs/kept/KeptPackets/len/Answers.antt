use Rattle.std.proofs.Common.{length, sym, ap, ◌∙◌}
use Rattle.trace_drive.proofs.KeptFacts.{packets_long}
use Rattle.trace_drive.proofs.kept.KeptPackets.len.Goals as goal

pub returns : goal.returns
returns c =
    let kept = c.self.inside in
    sym (packets_long kept.fields.items kept.count kept.words) ∙ ap (λ k. length k.packets) c.self.view_is
