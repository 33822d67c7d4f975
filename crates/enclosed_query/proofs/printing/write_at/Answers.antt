-- A number that has a table of bounds gives the text of that, and any other that of its own table.
use Rattle.std.proofs.Common.{◌≡◌, None, Some, ◌∙◌, ap, arith, option_and_then, sym}
use Rattle.std.proofs.lemmas.Option.{slice_get_past}
use Rattle.final_queries.specs.Finals.{IsTable}
use Rattle.switch_core.proofs.SideBySide.{all_got}
use Rattle.enclosed_query.{specs.Parts.{IsWholeIfThere, bounds_at}, proofs.TextParts.{bounds_text_at, of_same, table_text_at}}
use Rattle.enclosed_query.proofs.printing.write_at.Goals as goal
use Rattle.enclosed_query.proofs.printing.write_at.Goals.{then-number-len+in_default, else-number-len}

pub get-requires-2 : goal.get-requires-2
get-requires-2 g c = c.requires.number

pub write_bounds-requires : goal.write_bounds-requires
write_bounds-requires g c = all_got IsWholeIfThere _ _ _ c.requires.bounds (c.get.ensures ∙ ap Some c.in-Some.is)

pub write_table-requires : goal.write_table-requires
write_table-requires g c = record { keys = (all_got IsTable _ _ _ c.requires.tables c.get-2.ensures).keys }

pub returns-in-Some : goal.returns-in-Some
returns-in-Some g c =
    let same = sym (bounds_text_at _ _ _ _ c.requires.number (c.get.ensures ∙ ap Some c.in-Some.is)) in
    let done = of_same c.write_bounds.result (g.O.Sink.taken c.args.out.now) (g.O.Sink.taken c.write_bounds.new.out)
    c.write_bounds.new.text c.args.text.now _ _ same (c.write_bounds.ensures.ok, c.write_bounds.ensures.err) in
    record {
      ok = done.0;
      err = done.1;
      failed = c.write_bounds.ensures.failed;
      out_later = c.write_bounds.ensures.out_later;
    }

pub returns : goal.returns
returns g c =
    let bounds = c.args.bounds.now in
    let number = c.args.number in
    let none : bounds_at bounds number ≡ None = elim c.if-number-len.branch [
      | then-number-len+in_default w ↦ ap (option_and_then (λ one. one)) (w.get.ensures ∙ ap Some w.in_default.is)
      | else-number-len w ↦ ap (option_and_then (λ one. one)) (slice_get_past bounds number
          (omega (arith, w.if-number-len.false, c.len.ensures)))
    ] in
    let same = sym (table_text_at bounds _ _ _ c.get-2.ensures none) in
    let done = of_same c.write_table.result (g.O.Sink.taken c.args.out.now) (g.O.Sink.taken c.write_table.new.out)
    c.write_table.new.text c.args.text.now _ _ same (c.write_table.ensures.ok, c.write_table.ensures.err) in
    record {
      ok = done.0;
      err = done.1;
      failed = c.write_table.ensures.failed;
      out_later = c.write_table.ensures.out_later;
    }
