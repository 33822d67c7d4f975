-- The bytes passed eight at a time end no field, and the rest is searched byte by byte.
use Rattle.std.proofs.Common.{◌≡◌, ◌+◌, arith, false, get_or, rules}
use Rattle.trace_reader.{specs.Plain.ends_field, proofs.PlainFacts.{above_goes, end_later, goes_on_more, joined}}
use Rattle.trace_reader.proofs.plain.end_from.Goals as goal

pub words-init : goal.words-init
words-init c = record { within = omega arith; later = omega arith; goes = λ k low high. absurd (omega arith) }

pub returns-then-ends_field : goal.returns-then-ends_field
returns-then-ends_field c =
    let text = c.args.text.now in
    let at = c.words.at in
    let stop = at + c.going.result in
    record {
      ordered = omega (arith, c.words.invariant.later);
      within = omega (arith, c.going.ensures.few);
      goes_on = joined text c.args.from at stop c.words.invariant.goes (above_goes text at stop c.going.ensures.above);
      ends = search rules;
    }

pub words-preserved : goal.words-preserved
words-preserved c =
    let text = c.args.text.now in
    let at = c.words.at in
    let stop = at + c.going.result in
    let here : ends_field (get_or text stop 0) ≡ false = search rules in
    record {
      within = omega (arith, c.going.ensures.few);
      later = omega (arith, c.words.invariant.later);
      goes = goes_on_more text c.args.from stop
          (joined text c.args.from at stop c.words.invariant.goes (above_goes text at stop c.going.ensures.above)) here;
    }

pub returns : goal.returns
returns c =
    end_later c.args.text.now c.args.from c.words.at c.end_by_bytes.result c.words.invariant.later c.words.invariant.goes
    c.end_by_bytes.ensures
