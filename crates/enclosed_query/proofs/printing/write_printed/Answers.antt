-- Each print that is written takes its table's text from the front of what is left to write.
use Rattle.std.proofs.Common.{◌≡◌, ◌<◌, ℕ, List, ◌+◌, ◌++◌, ◌∙◌, Option, ap, arith, append-nil, drop, get_or, length, subst, sym}
use Rattle.std.{proofs.lemmas.List.{drop_all, drop_more}, specs.List.flat_map}
use Rattle.enclosure_folds.specs.declared.table.BoundsTable.{BoundsTable}
use Rattle.final_queries.specs.declared.table.Table.{Table}
use Rattle.query_lang.specs.{TypedFinals.table_number, declared.typed.PrintOf.PrintOf}
use Rattle.enclosed_query.specs.Parts.{text_at}
use Rattle.marple_base.{specs.Pieces.TakesAllBut, proofs.Pieces.{all_waits, on_err, part_broke, part_more}}
use Rattle.enclosed_query.proofs.printing.write_printed.Goals as goal

module _ (bounds : List (Option BoundsTable)) (tables : List Table) (groups : ℕ) (prints : List PrintOf) where
  abbrev text_of : PrintOf → List ℕ
  text_of one = text_at bounds tables (table_number groups one)

  -- what is left, as the text of the next print and that of those after it
  next_waits : (old mid : Option (List ℕ)) (waiting whole : List ℕ) (i number : ℕ) (one : PrintOf) → i < length prints
      → number ≡ table_number groups (get_or prints i one)
      → TakesAllBut old mid (waiting ++ flat_map text_of (drop i prints)) whole
      → TakesAllBut old mid (waiting ++ (text_at bounds tables number ++ flat_map text_of (drop (i + 1) prints))) whole
  next_waits old mid waiting whole i number one within is left =
      subst (λ rest. TakesAllBut old mid (waiting ++ rest) whole)
      (ap (flat_map text_of) (drop_more prints i one within)
      ∙ ap (λ n. text_at bounds tables n ++ flat_map text_of (drop (i + 1) prints)) (sym is)) left

pub loop-one-init : goal.loop-one-init
loop-one-init g c = record { written = all_waits _ _; out_later = omega arith }

pub returns-in_err-write_at-clause-err : goal.returns-in_err-write_at-clause-err
returns-in_err-write_at-clause-err g c = on_err _ _
    (part_broke _ _ _ c.loop-one.text (text_at c.args.bounds.now c.args.tables.now c.table_number.result) _ _
    (next_waits _ _ _ _ _ _ _ _ _ _ _ c.loop-one-test.true c.table_number.ensures c.loop-one.invariant.written)
    c.in_err-write_at.ensures.err)

pub loop-one-preserved : goal.loop-one-preserved
loop-one-preserved g c = record {
  written = part_more _ _ _ _ _ _ _ _
      (next_waits _ _ _ _ _ _ _ _ _ _ _ c.loop-one-test.true c.table_number.ensures c.loop-one.invariant.written)
      c.in_ok-write_at.ensures.ok;
  out_later = omega (arith, c.loop-one.invariant.out_later, c.write_at.ensures.out_later);
}

pub returns-clause-ok : goal.returns-clause-ok
returns-clause-ok g c =
    let text_of = text_of c.args.bounds.now c.args.tables.now c.args.groups c.args.prints.now in
    let none = ap (flat_map text_of) (drop_all _ _ c.loop-one-test.false) in
    rw (ap (λ text. c.loop-one.text ++ text) none ∙ append-nil _) at c.loop-one.invariant.written
