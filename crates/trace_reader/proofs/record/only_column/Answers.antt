-- What was found is the only column so far with the field's name, and another is a fault.
use Rattle.std.{proofs.Common.{◌≡◌, ◌∙◌, ◌++◌, ap, rules, true, false}, specs.{Option.{option_to_list, is_some}, Str.bytes_eq}}
use Rattle.marple_base.specs.Field.{field_name}
use Rattle.trace_reader.specs.{Numbers.without_blanks, Traces.field_text_at}
use Rattle.trace_reader.proofs.ColumnFacts.{found_first, found_twice, named_here, named_later}
use Rattle.trace_reader.proofs.record.only_column.Goals as goal
use Rattle.trace_reader.proofs.record.only_column.Goals.{then-eq+else-is_some, else-eq}

pub returns-then-is_some-clause-value : goal.returns-then-is_some-clause-value
returns-then-is_some-clause-value c =
    let fields = c.args.header.now.fields in
    let here : bytes_eq (without_blanks (field_text_at fields c.loop-i.i)) (field_name c.args.field) ≡ true = search rules in
    let some : is_some c.loop-i.found ≡ true = search rules in
    found_twice c.args.field c.loop-i.found _ _ _ c.loop-i.i some c.loop-i.invariant.named
    (named_here (field_name c.args.field) fields c.loop-i.i (search rules) here)

pub loop-i-preserved : goal.loop-i-preserved
loop-i-preserved c =
    let fields = c.args.header.now.fields in
    elim c.if-eq.branch [
      | then-eq+else-is_some w ↦
          let here : bytes_eq (without_blanks (field_text_at fields c.loop-i.i)) (field_name c.args.field) ≡ true = search rules in
          let none : is_some c.loop-i.found ≡ false = search rules in
          rw w.found-is (record {
            named = found_first c.loop-i.found _ _ _ c.loop-i.i none c.loop-i.invariant.named
                (named_here (field_name c.args.field) fields c.loop-i.i (search rules) here);
            within = search rules;
          })
      | else-eq w ↦
          let other : bytes_eq (without_blanks (field_text_at fields c.loop-i.i)) (field_name c.args.field) ≡ false = search rules in
          rw w.found-is (record {
            named = c.loop-i.invariant.named ∙ ap (λ rest. option_to_list c.loop-i.found ++ rest)
                (named_later (field_name c.args.field) fields c.loop-i.i (search rules) other);
            within = c.loop-i.invariant.within;
          })
    ]
