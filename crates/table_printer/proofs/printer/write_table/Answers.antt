-- The title, the heading and the lines of the rows so far are written or wait, and those of the rows left come after.
use Rattle.std.proofs.Common.{length, ◌≡◌, ◌+◌, ◌≤◌, ◌++◌, ◌∙◌, ap, subst, arith, append_assoc, append-nil}
use Rattle.std.proofs.lemmas.List.{drop_all}
use Rattle.table_printer.{specs.TableText.{heading, lines_of, table_line, table_text, title}, proofs.LineFacts.lines_split}
use Rattle.marple_base.{specs.Pieces.TakesAllBut, proofs.Pieces.{all_waits, front_is_taken, none_taken, on_err, part_broke, part_more}}
use Rattle.table_printer.proofs.printer.write_table.Goals as goal

pub returns-in_err-push_head-clause-err : goal.returns-in_err-push_head-clause-err
returns-in_err-push_head-clause-err g c =
    on_err c.from_residual.result _ (none_taken (g.O.Sink.taken c.args.out.now) (c.args.text.now ++ table_text c.args.table.now))

pub rows-init : goal.rows-init
rows-init g c =
    let table = c.args.table.now in
    let bytes = g.O.Sink.taken c.args.out.now in
    let head = table_line (heading table.kind table.keys table.columns) in
    let lines = lines_of table.kind table.rows in
    let waiting = c.push_head.new.text ++ lines in
    let whole : waiting ≡ c.args.text.now ++ table_text table =
    ap (λ text. text ++ lines) (c.in_ok-push_head.ensures ∙ append_assoc c.args.text.now (title table) head)
    ∙ append_assoc c.args.text.now (title table ++ head) lines in
    record {
      written = subst (TakesAllBut bytes bytes waiting) whole (all_waits bytes waiting);
      low = omega arith;
      out_later = omega arith;
    }

pub returns-in_err-push_lines-clause-err : goal.returns-in_err-push_lines-clause-err
returns-in_err-push_lines-clause-err g c =
    on_err c.from_residual-in_err-push_lines.result _ (front_is_taken _ _ _ _ c.rows.invariant.written)

pub returns-in_err-write_when_full-clause-err : goal.returns-in_err-write_when_full-clause-err
returns-in_err-write_when_full-clause-err g c =
    let table = c.args.table.now in
    let until = c.rows.at + c.min.result in
    let split = lines_split table.kind table.rows c.rows.at until (omega arith) in
    on_err c.from_residual-in_err-write_when_full.result _ (part_broke _ _ _ c.rows.text _ _ _ (rw split at c.rows.invariant.written)
    (rw c.in_ok-push_lines.ensures.text at c.in_err-write_when_full.ensures.front))

pub rows-preserved : goal.rows-preserved
rows-preserved g c =
    let table = c.args.table.now in
    let until = c.rows.at + c.min.result in
    let split = lines_split table.kind table.rows c.rows.at until (omega arith) in
    record {
      written = part_more _ _ _ _ _ _ _ _ (rw split at c.rows.invariant.written)
          (rw c.in_ok-push_lines.ensures.text at c.in_ok-write_when_full.ensures.ok);
      low = omega (arith, c.min.ensures);
      out_later = omega (arith, c.rows.invariant.out_later, c.write_when_full.ensures.cause.later);
    }

pub returns-clause-ok : goal.returns-clause-ok
returns-clause-ok g c =
    let past : length c.args.table.now.rows ≤ c.rows.at = omega (arith, c.len.ensures, c.rows-test.false) in
    rw (drop_all c.rows.at c.args.table.now.rows past, append-nil) at c.rows.invariant.written
