-- A row whose key does not go on is the last of its run, and gives the run's row of bounds.
use Rattle.std.proofs.Common.{◌≡◌, ◌+◌, ◌++◌, ◌∷◌, [], ◌∙◌, true, false, sym, ap, drop, append_assoc, rules}
use Rattle.table_rows.{specs.LentRows.row_of, proofs.LentFacts.rows_from}
use Rattle.enclosure_folds.specs.KeyBounds.{bounds_in, goes_on, row_bounds}
use Rattle.enclosure_folds.proofs.bounds.all_bounds.Goals.{then-not-goes_on+in_ok-row_bounds+in_ok-push, else-not-goes_on}
use Rattle.enclosure_folds.proofs.bounds.all_bounds.Goals as goal

pub loop-at-preserved : goal.loop-at-preserved
loop-at-preserved c =
    let states = c.args.states in
    let rows = c.args.rows.now in
    let at = c.loop-at.at in
    let row = row_of c.get-row.result in
    let rest = drop (at + 1) rows in
    let next = ap (bounds_in states) (rows_from _ at row c.get-row.ensures) in
    elim c.if-not-goes_on.branch [
      | then-not-goes_on+in_ok-row_bounds+in_ok-push w ↦
          let last : goes_on row.key rest ≡ false = search rules in
          let first = next ∙ rw last in
          let made = w.in_ok-push.ensures.ok ∙ ap (λ bounds. c.loop-at.made ++ bounds ∷ []) w.in_ok-row_bounds.ensures in
          rw w.made-is (ap (λ all. all ++ bounds_in states rest) made ∙ (append_assoc c.loop-at.made (row_bounds states row ∷ [])
          (bounds_in states rest)
          ∙ (ap (λ all. c.loop-at.made ++ all) (sym first) ∙ c.loop-at.invariant)))
      | else-not-goes_on w ↦
          let more : goes_on row.key rest ≡ true = search rules in
          let same = next ∙ rw more in
          rw w.made-is (ap (λ all. c.loop-at.made ++ all) (sym same) ∙ c.loop-at.invariant)
    ]
