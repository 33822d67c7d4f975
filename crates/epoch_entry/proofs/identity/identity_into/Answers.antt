-- Of a map of zeros, each row so far has a one on the diagonal, and is the unit of the row.
use Rattle.std.proofs.Common.{◌≡◌, ◌≢◌, ℕ, ◌+◌, ◌*◌, ◌<◌, Bool, true, false, ◌==◌, if◌then◌else◌, refl, ap, ◌∙◌, arith}
use Rattle.std.proofs.{lemmas.Bool.Decides.nat_tests, Math.Nat.le_refl}
use Rattle.coeff_algebra.{specs.{Elements.Elements, Maps.stored_at}, proofs.PlaceLemmas.{one_less, place_inside, before_apart, rows_step}}
use Rattle.epoch_entry.specs.Identity.{unit_at}
use Rattle.epoch_entry.proofs.identity.identity_into.Goals as goal

unit_of : {C X : Type 0} (k : Elements C) (words : C → X) (row j : ℕ) (here : X) → (j ≡ row → here ≡ words k.one)
    → (j ≢ row → here ≡ words k.zero) → here ≡ words (unit_at k row j)
unit_of k words row j here one zero = place (j == row) refl
  where
    place : (b : Bool) → (j == row) ≡ b → here ≡ words (if b then k.one else k.zero)
    place true e = one (grind (arith, nat_tests))
    place false e = zero (grind (arith, nat_tests))

pub loop-row-init : goal.loop-row-init
loop-row-init g c =
    let n = c.args.n in record {
      entries = λ i j lt. absurd (omega arith);
      zeros = λ i j le hi hj. c.zeros_into.ensures (i * (n + 1) + j) (place_inside n i j hi hj);
    }

pub loop-row-preserved : goal.loop-row-preserved
loop-row-preserved g c =
    let m = g.C.Coeff in
    let n = c.args.n in
    let row = c.loop-row.row in
    let start = row * (n + 1) in
    let stored = c.store_at.ensures in record {
      entries = rows_step _ _ _ _ _ c.loop-row.invariant.entries (λ p h. stored.others p (before_apart p start row h))
          (λ j hj. unit_of m.elements m.words row j _
          (λ same. ap (λ k. stored_at m.WORDS c.store_at.new.words (start + k)) same ∙ stored.here ∙ ap m.words c.one.ensures)
          (λ ne. let apart : start + j ≢ start + row = omega arith in
          stored.others (start + j) apart ∙ c.loop-row.invariant.zeros row j (le_refl row) c.loop-row-test.true hj));
      zeros = λ i j le hi hj.
          let later : row < i = omega arith in
          let apart : i * (n + 1) + j ≢ start + row = omega (arith, one_less row i (n + 1) later) in
          stored.others (i * (n + 1) + j) apart ∙ c.loop-row.invariant.zeros i j (omega arith) hi hj;
    }
