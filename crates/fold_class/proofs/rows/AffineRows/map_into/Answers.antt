-- The columns so far have their entries, and the last one leaves the history of the step as well.
use Rattle.std.proofs.Common.{◌≡◌, ◌≢◌, ℕ, ◌<◌, All, length, subst, sym, ap, ◌∙◌, arith, below_more}
use Rattle.coeff_algebra.specs.Maps.{stored_entry}
use Rattle.fold_class.specs.{Step.list_of, Stored.part_at, Rows.{entry_of, rows_dimension, column_after, AreSoundRows}}
use Rattle.fold_class.proofs.RowLemmas.{kept_from, last_column}
use Rattle.fold_class.proofs.rows.AffineRows.map_into.Goals as goal

pub loop-column-preserved : goal.loop-column-preserved
loop-column-preserved g c =
    let m = g.C.Coeff in
    let rows = c.args.self.now in
    let d = rows_dimension rows in
    let size : c.len-dimension.result ≡ d = c.len-dimension.ensures ∙ ap (λ r. rows_dimension r) c.self.view_is in record {
      entries = λ i k hi hk. below_more (λ k. stored_entry m.WORDS d c.column_into.new.map i k ≡ m.words
          (entry_of m.elements rows c.args.history.now c.args.args.now i k)) c.loop-column.column
          (λ j h. let off : j ≢ c.loop-column.column = omega arith in c.column_into.ensures.others i j hi
          (omega (arith, size, c.loop-column-test.true)) off ∙ c.loop-column.invariant.entries i j hi h)
          (c.column_into.ensures.entries i hi) k hk;
      steps = omega (arith, c.loop-column.invariant.steps, c.column_into.ensures.steps);
    }

pub returns-clause-leaves : goal.returns-clause-leaves
returns-clause-leaves g c =
    let m = g.C.Coeff in
    let rows = c.args.self.now in
    let d = rows_dimension rows in
    let sound : AreSoundRows rows = subst AreSoundRows c.self.view_is c.self.invariant in
    let size : c.len-dimension.result ≡ d = c.len-dimension.ensures ∙ ap (λ r. rows_dimension r) c.self.view_is in
    let places : All (λ v. v < length rows.origins) rows.history = subst (λ (n : ℕ). All (λ v. v < n) rows.history) (sym sound.each)
    sound.history in record {
      entries = last_column m.elements m.words m.WORDS rows c.args.history.now c.args.args.now c.loop-column.map c.column_into-2.new.map
          c.len-dimension.result size
          (λ i k hi hk. c.loop-column.invariant.entries i k hi (omega (arith, hk, size, c.loop-column-test.false)))
          c.column_into-2.ensures.others c.column_into-2.ensures.entries;
      long = c.write_history.auto.history ∙ c.requires.history;
      kept = kept_from m.elements rows c.args.history.now c.args.args.now d (length rows.origins)
          (part_at m.from_words m.WORDS c.column_into-2.new.scratch)
          (subst (λ n. list_of (length rows.origins) (part_at m.from_words m.WORDS c.column_into-2.new.scratch) ≡ column_after m.elements
          rows n c.args.history.now c.args.args.now) size c.column_into-2.ensures.vars)
          c.write_history.new.history c.as_slice.result.now (c.as_slice.ensures ∙ ap (λ r. r.history) c.self.view_is) places
          c.write_history.ensures.words;
    }
