-- Each variable so far has the word of its row's last element, and places that ascend don't overwrite each other.
use Rattle.std.proofs.{Common.{◌≡◌, ℕ, arith, ◌+◌, ◌<◌, length, slice_index, ap, ◌∙◌}, Math.Nat.le_refl}
use Rattle.coeff_algebra.proofs.PlaceLemmas.{entry_inside}
use Rattle.epoch_entry.proofs.WritingPlaces.{next_written, others_stay}
use Rattle.epoch_entry.proofs.column.column_to_state.Goals as goal

one_more : (first steps more r : ℕ) → steps ≡ first + r → more ≡ steps + 1 → more ≡ first + (r + 1)
one_more first steps more r e h = omega arith

pub load_at-element-requires : goal.load_at-element-requires
load_at-element-requires g c =
    let n = length c.args.linear.now in
    let size = g.C.Coeff.WORDS in record {
      inside = rw c.requires.map (entry_inside n c.loop-row.row n size c.loop-row-test.true (le_refl n));
    }

pub loop-row-preserved : goal.loop-row-preserved
loop-row-preserved g c =
    let m = g.C.Coeff in
    let linear = c.args.linear.now in
    let n = length linear in
    let row = c.loop-row.row in
    let state = c.loop-row.state in
    let within = c.loop-row-test.true in
    let room : slice_index linear row < length state = rw c.loop-row.auto.state (c.requires.inside row 0 within) in
    record {
      written = next_written _ _ _ _ _
          c.requires.ascending within room c.loop-row.invariant.written
          (c.to_word.ensures ∙ ap m.elements.to_word c.load_at-element.ensures);
      others = others_stay _ _ _ _ _ c.loop-row.invariant.others;
      steps = one_more _ _ _ _ c.loop-row.invariant.steps c.tick.ensures;
    }
