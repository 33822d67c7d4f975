-- The element of each row stands in its column, and since places differ by row and column, no other is written.
use Rattle.std.proofs.Common.{◌≡◌, ◌≢◌, ◌+◌, ◌*◌, arith, ap, ◌∙◌, length, below_more}
use Rattle.fold_class.{specs.{Parts.column_shares, Step.share_of}, proofs.RowLemmas.{same_column, same_row}}
use Rattle.fold_class.proofs.rows.write_column.Goals as goal

pub loop-row-preserved : goal.loop-row-preserved
loop-row-preserved g c =
    let m = g.C.Coeff in
    let n = length c.args.linear.now in
    let r = c.loop-row.row in
    let col = c.args.column in record {
      entries = below_more _ _ (λ i h. let ne : i * (n + 1) + col ≢ r * (n + 1) + col = λ e. let same : i ≡ r =
          same_row n i r col e in omega arith in c.store_at.ensures.others (i * (n + 1) + col) ne ∙ c.loop-row.invariant.entries i h)
          (c.store_at.ensures.here ∙ ap m.words (c.share.ensures ∙ ap (share_of (column_shares m.elements n col))
          c.load_part-part.ensures));
      others = λ i k hi hk off. let ne : i * (n + 1) + k ≢ r * (n + 1) + col =
          λ e. off (same_column n i k r col hk c.requires.column e) in c.store_at.ensures.others (i * (n + 1) + k) ne
          ∙ c.loop-row.invariant.others i k hi hk off;
      steps = omega (arith, c.loop-row.invariant.steps, c.tick_many.ensures, c.WORDS.ensures);
    }

pub load_part-part-requires : goal.load_part-part-requires
load_part-part-requires g c = omega (arith, c.requires.places c.loop-row.row 0 c.loop-row-test.true, c.requires.room)
