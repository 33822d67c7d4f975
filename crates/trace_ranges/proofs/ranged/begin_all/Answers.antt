use Rattle.std.proofs.{Common.{ap, set, sym, ◌∙◌}, lemmas.List.Edits.map_over_more}
use Rattle.trace_ranges.specs.Ranges.{windowed}
use Rattle.trace_ranges.proofs.ranged.begin_all.Goals as goal

pub loop-i-preserved : goal.loop-i-preserved
loop-i-preserved g c =
    ap (set c.loop-i.traces c.loop-i.i) c.begin.ensures
    ∙ (ap (λ one. set c.loop-i.traces c.loop-i.i (windowed c.args.range one)) (sym c.index-traces-i.is)
    ∙ map_over_more (windowed c.args.range) c.args.traces.now c.loop-i.traces c.loop-i.i c.index-traces-i.result c.loop-i-test.true
    c.loop-i.invariant c.index-traces-i.is)
