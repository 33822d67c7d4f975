-- Each line stands right before those of the rows after it, and there is room for the lines that are still to come.
use Rattle.std.proofs.Common.{◌≡◌, ◌+◌, ◌-◌, ◌++◌, ◌∙◌, ap, arith, length, length-append, refl, sym}
use Rattle.std.proofs.lemmas.List.{drop_all}
use Rattle.table_rows.specs.LentRows.{row_of}
use Rattle.table_printer.{specs.TableText.{row_parts, table_line}, proofs.LineFacts.first_line}
use Rattle.table_printer.proofs.backwards.lines_before.Goals as goal

pub lines-init : goal.lines-init
lines-init c = record {
  written = drop_all (length c.args.room.now) c.args.room.now (omega arith);
  low = omega arith;
  near = omega arith;
  len = refl;
}

pub line_before-at-requires : goal.line_before-at-requires
line_before-at-requires c =
    let row = c.get-row.result in
    let columns = ap length row.joined ∙ length-append row.key.now row.values.now in
    (omega (arith, columns, c.requires.room), c.lines.invariant.low)

pub lines-preserved : goal.lines-preserved
lines-preserved c =
    let row = c.get-row.result in
    let columns = ap length row.joined ∙ length-append row.key.now row.values.now in
    let until = c.args.until in
    let later = c.lines.later in
    let at : until - 1 - later ≡ until - (later + 1) = omega arith in
    let next : until - (later + 1) + 1 ≡ until - later = omega (arith, c.requires.rows.0) in
    let first = first_line c.args.kind c.args.rows.now (until - 1 - later) later (row_of row) c.get-row.ensures in
    let lines = rw (at, next) at first in
    record {
      written = c.line_before-at.ensures.written
          ∙ (ap (λ rest. table_line (row_parts c.args.kind (row_of row)) ++ rest) c.lines.invariant.written ∙ sym lines);
      low = omega arith;
      near = omega (arith, columns);
      len = c.line_before-at.ensures.len ∙ c.lines.invariant.len;
    }
