-- What waits, and the lines of the rows left, make the text of the table, of which the sink has some first bytes.
use Rattle.std.proofs.Common.{◌≡◌, List, ℕ, ◌∷◌, ◌+◌, ◌++◌, ◌<◌, ◌∙◌, Option, ap, append-nil, append_assoc, arith, drop, get_or, length}
use Rattle.std.{proofs.{Common.sym, lemmas.List.{drop_all, drop_more}}, specs.List.flat_map}
use Rattle.table_printer.specs.TableText.{table_line}
use Rattle.marple_base.specs.Pieces.{TakesAllBut}
use Rattle.marple_base.proofs.Pieces.{all_waits, front_is_taken, none_taken, on_err, part_broke, part_more}
use Rattle.enclosure_folds.specs.BoundsTables.{bounds_heading, bounds_parts, bounds_text, bounds_title}
use Rattle.enclosure_folds.specs.declared.table.BoundsRow.{BoundsRow}
use Rattle.enclosure_folds.proofs.printer.write_bounds.Goals as goal

abbrev line_of : BoundsRow → List ℕ
line_of row = table_line (bounds_parts row)

-- what is left, as the line of the next row and those of the rows after it
next_waits : (items rows : List BoundsRow) (old mid : Option (List ℕ)) (waiting whole : List ℕ) (i : ℕ) (row : BoundsRow) → items ≡ rows
    → i < length items → row ≡ get_or items i row → TakesAllBut old mid (waiting ++ flat_map line_of (drop i rows)) whole
    → TakesAllBut old mid (waiting ++ (line_of row ++ flat_map line_of (drop (i + 1) rows))) whole
next_waits items rows old mid waiting whole i row same within is left =
    let next = rw same at (drop_more items i row within ∙ ap (λ r. r ∷ drop (i + 1) items) (sym is)) in
    rw (ap (flat_map line_of) next) at left

pub returns-in_err-push_head-clause-err : goal.returns-in_err-push_head-clause-err
returns-in_err-push_head-clause-err g c =
    on_err _ _ (none_taken _ (c.args.text.now ++ bounds_text c.args.t.now))

pub loop-row-init : goal.loop-row-init
loop-row-init g c =
    let t = c.args.t.now in
    let bytes = g.O.Sink.taken c.args.out.now in
    let head = table_line (bounds_heading t) in
    let lines = flat_map line_of t.rows in
    let waiting = c.push_head.new.text ++ lines in
    let whole =
    ap (λ text. text ++ lines) (c.in_ok-push_head.ensures ∙ append_assoc c.args.text.now (bounds_title t) head)
    ∙ append_assoc c.args.text.now (bounds_title t ++ head) lines in
    record {
      written = rw (← whole) (all_waits _ _);
      out_later = omega arith;
    }

pub returns-in_err-push_row-clause-err : goal.returns-in_err-push_row-clause-err
returns-in_err-push_row-clause-err g c =
    on_err _ _
    (front_is_taken _ _ _ _
    c.loop-row.invariant.written)

pub returns-in_err-write_when_full-clause-err : goal.returns-in_err-write_when_full-clause-err
returns-in_err-write_when_full-clause-err g c = on_err _ _
    (part_broke _ _ _ c.loop-row.text (line_of c.row-item.result) _ _
    (next_waits _ _ _ _ _ _ _ _ c.as_slice-row-items.ensures c.loop-row-test.true c.row-item.is c.loop-row.invariant.written)
    (rw c.in_ok-push_row.ensures at c.in_err-write_when_full.ensures.front))

pub loop-row-preserved : goal.loop-row-preserved
loop-row-preserved g c = record {
  written = part_more _ _ _ c.loop-row.text _ (line_of c.row-item.result) _ _
      (next_waits _ _ _ _ _ _ _ _ c.as_slice-row-items.ensures c.loop-row-test.true c.row-item.is c.loop-row.invariant.written)
      (rw c.in_ok-push_row.ensures at c.in_ok-write_when_full.ensures.ok);
  out_later = omega (arith, c.loop-row.invariant.out_later, c.write_when_full.ensures.cause.later);
}

pub returns-clause-ok : goal.returns-clause-ok
returns-clause-ok g c =
    let t = c.args.t.now in
    let none = ap (flat_map line_of) (rw c.as_slice-row-items.ensures at
    (drop_all _ _ c.loop-row-test.false)) in
    rw (ap (λ text. c.loop-row.text ++ text) none ∙ append-nil _) at c.loop-row.invariant.written
