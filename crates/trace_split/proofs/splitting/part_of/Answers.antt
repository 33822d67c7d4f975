-- The key so far is the salt and the words of the fields so far, and its bucket is the part.
use Rattle.std.proofs.{Common.{◌∙◌, ap, arith, slice_index}, Math.ListN.length-set}
use Rattle.trace_split.proofs.ListFacts.{key_more}
use Rattle.trace_split.proofs.splitting.part_of.Goals as goal

pub loop-field-preserved : goal.loop-field-preserved
loop-field-preserved g c =
    let by = c.args.by.now in
    let words = c.args.packet.now.words in
    let i = c.loop-field.field-index in
    let before = c.loop-field.invariant in
    let word = slice_index words c.number.result in
    record {
      size = omega (arith, before.size);
      room = length-set c.loop-field.key c.loop-field.size word ∙ before.room;
      key = key_more c.loop-field.key c.loop-field.size c.args.salt word by i words
          (omega (arith, before.size, before.room, c.loop-field-test.true, c.requires.few))
          c.loop-field-test.true (ap (slice_index words) c.number.ensures.number) before.key;
    }
