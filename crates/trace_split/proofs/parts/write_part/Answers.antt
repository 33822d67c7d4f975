use Rattle.std.proofs.Common.{◌∙◌, arith}
use Rattle.marple_base.proofs.Bytes.{Appends-more}
use Rattle.trace_split.proofs.parts.write_part.Goals as goal

pub loop-done-preserved : goal.loop-done-preserved
loop-done-preserved g c =
    let wrote = c.in_ok-done.ensures in
    record {
      within = omega arith;
      taken = Appends-more _ _ _ c.loop-done.done c.in_ok-done.field-0 c.args.piece.now (omega arith) c.loop-done.invariant.taken
          wrote.bytes;
      others = λ n differs. c.write.ensures.others n differs ∙ c.loop-done.invariant.others n differs;
      later = omega arith;
    }
