-- The text has the lines of the rows so far, and each row adds its own.
use Rattle.std.proofs.Common.{◌≡◌, ◌+◌, ◌-◌, ◌++◌, ◌∙◌, ap, append-nil, append_assoc, arith, drop, sym, take}
use Rattle.table_rows.specs.LentRows.{row_of}
use Rattle.table_printer.{specs.TableText.{lines_of, row_parts, table_line}, proofs.LineFacts.first_line}
use Rattle.table_printer.proofs.printer.push_rows.Goals as goal

pub rows-preserved : goal.rows-preserved
rows-preserved c =
    let at = c.rows.at in
    let until = c.args.until in
    let rows = c.args.rows.now in
    let row = row_of c.get.result in
    let left : until - at ≡ until - (at + 1) + 1 = omega arith in
    let first = first_line c.args.kind rows at (until - (at + 1)) row c.get.ensures in
    let rest = lines_of c.args.kind (take (until - (at + 1)) (drop (at + 1) rows)) in
    ap (λ text. text ++ rest) c.in_ok-push_row.ensures
    ∙ (append_assoc c.rows.text (table_line (row_parts c.args.kind row)) rest
    ∙ (ap (λ lines. c.rows.text ++ lines) (sym first ∙ ap (λ n. lines_of c.args.kind (take n (drop at rows))) (sym left))
    ∙ c.rows.invariant))

pub returns : goal.returns
returns c =
    let none : c.args.until - c.rows.at ≡ 0 = omega (arith, c.rows-test.false) in
    rw (none, append-nil) at c.rows.invariant
