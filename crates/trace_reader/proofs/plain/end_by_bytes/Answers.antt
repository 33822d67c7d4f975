-- No byte before this one ends a field, and the first that does is where it ends.
use Rattle.std.proofs.Common.{◌≡◌, arith, false, get_or, rules}
use Rattle.trace_reader.{specs.Plain.ends_field, proofs.PlainFacts.goes_on_more}
use Rattle.trace_reader.proofs.plain.end_by_bytes.Goals as goal

pub loop-at-init : goal.loop-at-init
loop-at-init c k low high = absurd (omega arith)

pub loop-at-preserved : goal.loop-at-preserved
loop-at-preserved c =
    let text = c.args.text.now in
    let here : ends_field (get_or text c.loop-at.at 0) ≡ false = search rules in
    goes_on_more text c.args.from c.loop-at.at c.loop-at.invariant here

pub returns-then-ends_field : goal.returns-then-ends_field
returns-then-ends_field c = record {
  ordered = omega arith;
  within = c.loop-at-test.true;
  goes_on = c.loop-at.invariant;
  ends = search rules;
}
