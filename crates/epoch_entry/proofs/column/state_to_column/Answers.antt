-- The last column has the elements of the linear variables so far, and no place of another column is written.
use Rattle.std.proofs.{Common.{◌≡◌, ◌≢◌, ℕ, ◌+◌, ◌*◌, ◌<◌, arith, ap, ◌∙◌, length, below_more}, Math.Nat.le_refl}
use Rattle.coeff_algebra.proofs.PlaceLemmas.{entry_inside}
use Rattle.fold_class.proofs.RowLemmas.{same_column, same_row}
use Rattle.epoch_entry.proofs.column.state_to_column.Goals as goal

-- the other places of the last column, and those of the other columns
rows_apart : (n r i : ℕ) → i < r → i * (n + 1) + n ≢ r * (n + 1) + n
rows_apart n r i h e = let same = same_row n i r n e in omega arith

columns_apart : (n r i k : ℕ) → k < n → i * (n + 1) + k ≢ r * (n + 1) + n
columns_apart n r i k h e = let same = same_column n i k r n (omega arith) (le_refl n) e in omega arith

one_more : (first steps more w w' r : ℕ) → steps ≡ first + r * w → more ≡ steps + w' → w' ≡ w → more ≡ first + (r + 1) * w
one_more first steps more w w' r e h same = grind arith

pub store_at-requires : goal.store_at-requires
store_at-requires g c =
    let n = length c.args.linear.now in
    let size = g.C.Coeff.WORDS in record {
      inside = rw (c.loop-row.auto.map ∙ c.requires.map) (entry_inside n c.loop-row.row n size c.loop-row-test.true (le_refl n));
    }

pub loop-row-preserved : goal.loop-row-preserved
loop-row-preserved g c =
    let m = g.C.Coeff in
    let n = length c.args.linear.now in
    let r = c.loop-row.row in record {
      written = below_more _ _
          (λ i h. c.store_at.ensures.others (i * (n + 1) + n) (rows_apart n r i h) ∙ c.loop-row.invariant.written i h)
          (c.store_at.ensures.here ∙ ap m.words c.embed-element.ensures);
      others = λ i k hi hk. c.store_at.ensures.others (i * (n + 1) + k) (columns_apart n r i k hk) ∙ c.loop-row.invariant.others i k hi hk;
      steps = one_more _ _ _ _ _ _ c.loop-row.invariant.steps c.tick_many.ensures c.WORDS.ensures;
    }
