use Rattle.std.proofs.Common.{◌*◌, length, sym, ap, ap₂, ◌∙◌}
use Rattle.trace_drive.{specs.Kept.kept_words, proofs.KeptFacts.packets_long}
use Rattle.trace_drive.proofs.kept.KeptPackets.word_count.Goals as goal

pub returns : goal.returns
returns c =
    let kept = c.self.inside in
    c.len.ensures
    ∙ (c.self.invariant.words
    ∙ (ap₂ (λ n fields. n * length fields) (sym (packets_long kept.fields.items kept.count kept.words)) c.self.invariant.fields
    ∙ ap kept_words c.self.view_is))
