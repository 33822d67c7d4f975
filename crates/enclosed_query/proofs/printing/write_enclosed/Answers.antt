-- The texts of the parts that bounds and tables fall into are those that the query prints of what is enclosed.
use Rattle.std.{proofs.Common.{◌++◌, rules, sym, subst}, specs.List.All}
use Rattle.marple_base.proofs.Pieces.{none_taken, on_err}
use Rattle.enclosed_query.{specs.{EnclosedTables.enclosed_print, Parts.IsWholeIfThere}, proofs.TextParts.{of_same, texts_are, whole_parts}}
use Rattle.enclosed_query.proofs.printing.write_enclosed.Goals as goal

pub returns-in_err-bounds-clause-err : goal.returns-in_err-bounds-clause-err
returns-in_err-bounds-clause-err g c =
    on_err _ _ (none_taken _ (c.args.text.now ++ enclosed_print c.args.q.now c.args.groups))

pub returns-in_err-tables-clause-err : goal.returns-in_err-tables-clause-err
returns-in_err-tables-clause-err g c =
    on_err _ _ (none_taken _ (c.args.text.now ++ enclosed_print c.args.q.now c.args.groups))

pub write_printed-requires-clause-bounds : goal.write_printed-requires-clause-bounds
write_printed-requires-clause-bounds g c = subst (All IsWholeIfThere) (sym c.in_ok-bounds.ensures.bounds) (whole_parts _ c.requires.whole)

pub returns : goal.returns
returns g c =
    let same = texts_are c.args.q.now _ _ _ _
    c.in_ok-tables.tables _ c.len-count.ensures c.requires.shapes
    c.in_ok-bounds.ensures.bounds c.in_ok-bounds.ensures.tables c.in_ok-tables.ensures.tables c.as_slice.ensures in
    let done = of_same c.write_printed.result (g.O.Sink.taken c.args.out.now) (g.O.Sink.taken c.write_printed.new.out)
    c.write_printed.new.text c.args.text.now _ _ same (c.write_printed.ensures.ok, c.write_printed.ensures.err) in
    record {
      ok = done.0;
      err = done.1;
      failed = c.write_printed.ensures.failed;
      out_later = c.write_printed.ensures.out_later;
      steps = search rules;
    }

pub add_finals-requires : goal.add_finals-requires
add_finals-requires g c =
    let made = c.in_ok-bounds.ensures.tables in
    record { valid = c.requires.valid; shapes = rw made c.requires.shapes; tables = rw made c.requires.tables }

pub write_printed-requires-clause-tables : goal.write_printed-requires-clause-tables
write_printed-requires-clause-tables g c = c.in_ok-tables.ensures.read
