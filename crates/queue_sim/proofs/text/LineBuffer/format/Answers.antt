-- Written from the end, the words of the fields from this one on, with a comma between each two, end the line.
use Rattle.std.proofs.Common.{◌≡◌, ◌+◌, ◌-◌, ◌∷◌, ◌++◌, ◌∙◌, ap, rules, get_or, length, slice_index, sym, take, drop, arith}
use Rattle.std.proofs.lemmas.List.{drop_all}
use Rattle.marple_base.{specs.declared.field.Field.TheVariants.Switch, proofs.Bytes.range_from}
use Rattle.queue_sim.{specs.TraceText.word_text, proofs.TextFacts.{none_left, one_before, text_from, whole_line, word_at}}
use Rattle.queue_sim.proofs.text.LineBuffer.format.Goals as goal

pub loop-i-init : goal.loop-i-init
loop-i-init c =
    let fields = c.args.fields.now in
    let words = c.args.packet.now.words in
    record {
      written =
          c.put_byte-start.ensures.written ∙ ap (λ rest. 10 ∷ rest) (drop_all 294 c.args.self.now.bytes (omega arith))
          ∙ sym (none_left fields words (length fields) (omega arith));
      from = omega (arith, c.requires.some);
      within = omega (arith, c.put_byte-start.ensures.place);
      room = omega (arith, c.put_byte-start.ensures.place);
    }

pub loop-i-preserved : goal.loop-i-preserved
loop-i-preserved c =
    let fields = c.args.fields.now in
    let words = c.args.packet.now.words in
    let i = c.loop-i.i - 1 in
    let field = get_or fields i Switch in
    let text = word_at words field in
    let back : c.loop-i.i ≡ i + 1 = omega (arith, c.loop-i-test.true) in
    let later = c.loop-i.invariant.written ∙ ap (λ k. text_from fields k words) back in
    let word =
    c.put_word-start.ensures.written
    ∙ ap (λ n. word_text field (slice_index words n) ++ drop c.loop-i.start c.loop-i.self.bytes) c.number.ensures.number
    ∙ ap (λ rest. text ++ rest) later in
    record {
      written =
          c.put_byte-start-in-loop-i.ensures.written ∙ ap (λ rest. 44 ∷ rest) word
          ∙ sym (one_before fields words i (omega (arith, c.loop-i.auto.i, c.loop-i-test.true)));
      from = omega (arith, c.loop-i-test.true);
      within = omega (arith, c.put_byte-start-in-loop-i.ensures.place, c.put_word-start.ensures.place.0, c.loop-i.invariant.within);
      room = omega (
        arith,
        c.put_byte-start-in-loop-i.ensures.place,
        c.put_word-start.ensures.place.1,
        c.loop-i.invariant.room,
        c.loop-i.auto.i,
        c.loop-i-test.true,
      );
    }

pub returns : goal.returns
returns c =
    let fields = c.args.fields.now in
    let words = c.args.packet.now.words in
    let bytes = c.put_word-start-2.new.bytes in
    let start = c.put_word-start-2.result in
    let field = get_or fields 0 Switch in
    let size : length bytes ≡ 294 = search rules in
    let first : c.loop-i.i ≡ 1 = omega (arith, c.loop-i-test.false, c.loop-i.invariant.from) in
    ap (λ n. take (n - start) (drop start bytes)) (sym size)
    ∙ range_from start bytes (omega (arith, size, c.put_word-start-2.ensures.place.0, c.loop-i.invariant.within))
    ∙ c.put_word-start-2.ensures.written
    ∙ ap (λ n. word_text field (slice_index words n) ++ drop c.loop-i.start c.loop-i.self.bytes) c.number-2.ensures.number
    ∙ ap (λ rest. word_at words field ++ rest) (c.loop-i.invariant.written ∙ ap (λ k. text_from fields k words) first)
    ∙ whole_line fields words c.requires.some
