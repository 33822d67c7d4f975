-- A field that ends with a comma goes on with the record, and one that ends otherwise ends it.
use Rattle.std.{specs.Prelude.{◌==◌}, proofs.{Common.{◌≡◌, ◌+◌, ◌<◌, arith, false, get_or, length, true}, lemmas.Bool.Decides.nat_tests}}
use Rattle.trace_reader.proofs.PlainFacts.{field_more, inside_more, none_inside, none_yet, record_ends, short_field}
use Rattle.trace_reader.proofs.plain.plain_record.Goals as goal

pub fields-init : goal.fields-init
fields-init c = record {
  within = c.after_line_ends-start.ensures.within;
  same = λ within.
      none_yet c.args.text.now c.args.from c.after_line_ends-start.result c.clear.new.self.items c.clear.ensures.items within
      (c.after_line_ends-start.ensures.begins within) c.after_line_ends-start.ensures.same;
  inside = none_inside c.args.text.now c.clear.new.self.items c.clear.ensures.items;
}

pub returns-then-text-end-ne44 : goal.returns-then-text-end-ne44
returns-then-text-end-ne44 c =
    let text = c.args.text.now in
    let none : (get_or text c.in-Some.end 0 == 44) ≡ false = grind (arith, nat_tests) in
    record_ends text c.args.from c.fields.spans.items c.push-in-fields.new.self.items c.fields.start c.in-Some.end c.in-Some.ensures none
    c.in_ok-push-2.ensures.items c.fields.invariant.inside (c.fields.invariant.same c.fields-test.true)

pub fields-preserved-then-text-stop-eq44 : goal.fields-preserved-then-text-stop-eq44
fields-preserved-then-text-stop-eq44 c =
    let text = c.args.text.now in
    let start = c.fields.start in
    let stop = start + c.going.result in
    let within : stop < length text = omega (arith, c.going.ensures.few) in
    let comma = c.if-text-stop-eq44.true in
    let is : (get_or text stop 0 == 44) ≡ true = rw comma in
    let field = short_field text start stop (omega arith) within c.going.ensures.above comma in
    record {
      within = omega (arith, within);
      same = λ _. field_more text _ c.fields.spans.items c.push.new.self.items start stop field is c.in_ok-push.ensures.items
          (c.fields.invariant.same c.fields-test.true);
      inside = inside_more text c.fields.spans.items c.push.new.self.items start stop field c.in_ok-push.ensures.items
          c.fields.invariant.inside;
    }

pub fields-preserved : goal.fields-preserved
fields-preserved c =
    let text = c.args.text.now in
    let is : (get_or text c.in-Some.end 0 == 44) ≡ true = grind (arith, nat_tests) in
    record {
      within = omega (arith, c.in-Some.ensures.ended.within);
      same = λ _. field_more text _ c.fields.spans.items c.push-in-fields.new.self.items c.fields.start c.in-Some.end c.in-Some.ensures is
          c.in_ok-push-2.ensures.items (c.fields.invariant.same c.fields-test.true);
      inside = inside_more text c.fields.spans.items c.push-in-fields.new.self.items c.fields.start c.in-Some.end c.in-Some.ensures
          c.in_ok-push-2.ensures.items c.fields.invariant.inside;
    }
