-- Each variable so far has moved by its row's last element, and the next one, whose place comes after theirs, stands as at first.
use Rattle.std.proofs.{Common.{◌≡◌, ℕ, ◌<◌, length, slice_index}, Math.Nat.le_refl}
use Rattle.coeff_algebra.{specs.Elements.Elements, proofs.PlaceLemmas.entry_inside}
use Rattle.epoch_entry.proofs.WritingPlaces.{next_stays, next_written, others_stay}
use Rattle.epoch_entry.proofs.column.add_column.Goals as goal

sum_word : {C : Type 0} (k : Elements C) (sum before addend stored : C) (w v first : ℕ) → w ≡ k.to_word sum → sum ≡ k.add before addend
    → before ≡ k.embed v → v ≡ first → addend ≡ stored → w ≡ k.to_word (k.add (k.embed first) stored)
sum_word k sum before addend stored w v first read added embedded stays loaded = cc

pub load_at-addend-requires : goal.load_at-addend-requires
load_at-addend-requires g c =
    let n = length c.args.linear.now in
    let size = g.C.Coeff.WORDS in record {
      inside = rw c.requires.map (entry_inside n c.loop-row.row n size c.loop-row-test.true (le_refl n));
    }

pub loop-row-preserved : goal.loop-row-preserved
loop-row-preserved g c =
    let m = g.C.Coeff in
    let linear = c.args.linear.now in
    let row = c.loop-row.row in
    let state = c.loop-row.state in
    let within = c.loop-row-test.true in
    let room : slice_index linear row < length state = rw c.loop-row.auto.state (c.requires.inside row 0 within) in
    record {
      added = next_written _ _ _ _ _
          c.requires.ascending within room c.loop-row.invariant.added
          (sum_word m.elements _ _ _ _ _ _ _ c.to_word.ensures c.add.ensures c.embed-before.ensures
          (next_stays _ _ _ row c.requires.ascending within c.loop-row.invariant.others) c.load_at-addend.ensures);
      others = others_stay _ _ _ _ _ c.loop-row.invariant.others;
    }
