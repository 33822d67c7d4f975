-- The entries of a column are the linear variables' shares of the parts that the run leaves.
use Rattle.std.proofs.Common.{ℕ, ◌<◌, All, length, subst, sym, ap, ◌∙◌}
use Rattle.fold_class.{specs.{Stored.part_at, Rows.AreSoundRows}, proofs.RowLemmas.{column_ran, entries_from}}
use Rattle.fold_class.proofs.rows.AffineRows.column_into.Goals as goal

pub returns-clause-vars : goal.returns-clause-vars
returns-clause-vars g c =
    column_ran g.C.Coeff.elements _ c.args.self.now c.args.column _ _ c.args.history.now c.args.args.now _ _ _ _ c.self.view_is
    c.len-states.ensures c.as_slice.ensures c.instrs.ensures.instrs (ap (λ l. length l) c.as_slice-linear.ensures)
    c.start_column.ensures.vars c.run_column.ensures.vars

pub returns-clause-entries : goal.returns-clause-entries
returns-clause-entries g c =
    let m = g.C.Coeff in
    let rows = c.args.self.now in
    let sound : AreSoundRows rows = subst AreSoundRows c.self.view_is c.self.invariant in
    let places : All (λ v. v < length rows.origins) rows.linear = subst (λ (n : ℕ). All (λ v. v < n) rows.linear) (sym sound.each)
    sound.linear in
    entries_from m.elements rows c.args.history.now c.args.args.now c.args.column (length rows.origins)
    (part_at m.from_words m.WORDS c.run_column.new.scratch) (returns-clause-vars g c)
    m.words m.WORDS c.write_column.new.map c.as_slice-linear.result.now (c.as_slice-linear.ensures ∙ ap (λ r. r.linear) c.self.view_is)
    places c.write_column.ensures.entries
