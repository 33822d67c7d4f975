-- An entry of a composed row is the sum of products, and the last one has the later map's constant added.
use Rattle.std.proofs.Common.{◌≡◌, ◌≢◌, ℕ, ◌+◌, ◌*◌, ◌≤◌, ◌==◌, if◌then◌else◌, ap, sym, subst, ◌∙◌, arith, below_more, le_refl}
use Rattle.std.proofs.lemmas.Bool.Decides.{nat_tests}
use Rattle.coeff_algebra.specs.Maps.{map_compose, sum_below, table_of}
use Rattle.coeff_algebra.proofs.PlaceLemmas.{entry_inside, columns_apart, before_apart, columns_steps}
use Rattle.coeff_algebra.proofs.map.compose_row.Goals.{then-column-n, else-column-n}
use Rattle.coeff_algebra.proofs.map.compose_row.Goals as goal

at_last : {X : Type 0} (x y : X) (j n : ℕ) → j ≡ n → (if j == n then x else y) ≡ x
at_last x y j n h = grind (arith, nat_tests)

before_last : {X : Type 0} (x y : X) (j n : ℕ) → j ≢ n → (if j == n then x else y) ≡ y
before_last x y j n h = grind (arith, nat_tests)

pub load_at-constant-requires : goal.load_at-constant-requires
load_at-constant-requires g c = record {
  inside = subst (λ k. (c.args.row * (c.args.n + 1) + c.args.n) * g.C.Coeff.WORDS + g.C.Coeff.WORDS ≤ k) (sym c.requires.later)
      (entry_inside c.args.n c.args.row c.args.n g.C.Coeff.WORDS c.requires.row (le_refl c.args.n));
}

pub store_at-requires : goal.store_at-requires
store_at-requires g c =
    let column = c.loop-column.column in
    let within : column ≤ c.args.n = omega arith in
    record {
      inside = subst (λ k. (c.args.row * (c.args.n + 1) + column) * g.C.Coeff.WORDS + g.C.Coeff.WORDS ≤ k)
          (sym (c.loop-column.auto.scratch ∙ c.requires.room))
          (entry_inside c.args.n c.args.row column g.C.Coeff.WORDS c.requires.row within);
    }

pub loop-column-preserved : goal.loop-column-preserved
loop-column-preserved g c =
    let m = g.C.Coeff in
    let n = c.args.n in
    let column = c.loop-column.column in
    let start = c.args.row * (n + 1) in
    let later = table_of m.from_words m.WORDS n c.args.later.now in
    let earlier = table_of m.from_words m.WORDS n c.args.earlier.now in
    let sum = sum_below m.elements n (λ k. m.elements.mul (later c.args.row k) (earlier k column)) in
    let last = later c.args.row n in
    let own : c.if-column-n.element ≡ map_compose m.elements n later earlier c.args.row column = elim c.if-column-n.branch [
      | then-column-n w ↦ w.element-is ∙ (w.add-element.ensures ∙ (ap (λ p. m.elements.add p w.load_at-constant.result)
          c.dot-products.ensures.value
          ∙ (ap (m.elements.add sum) w.load_at-constant.ensures ∙ sym
          (at_last (m.elements.add sum last) sum column n w.if-column-n.true))))
      | else-column-n w ↦ w.element-is ∙ (c.dot-products.ensures.value
          ∙ sym (before_last (m.elements.add sum last) sum column n w.if-column-n.false))
    ] in
    record {
      entries = below_more _ _
          (λ j h. c.store_at.ensures.others (start + j) (columns_apart start j column h) ∙ c.loop-column.invariant.entries j h)
          (c.store_at.ensures.here ∙ ap m.words own);
      before = λ p h. c.store_at.ensures.others p (before_apart p start column h) ∙ c.loop-column.invariant.before p h;
      steps = columns_steps c.args.steps.now c.loop-column.steps c.dot-products.new.steps column n c.loop-column.invariant.steps
          c.dot-products.ensures.steps;
    }

pub dot-products-requires-clause-later : goal.dot-products-requires-clause-later
dot-products-requires-clause-later g c = c.requires.later

pub dot-products-requires-clause-earlier : goal.dot-products-requires-clause-earlier
dot-products-requires-clause-earlier g c = c.requires.earlier

pub dot-products-requires-clause-row : goal.dot-products-requires-clause-row
dot-products-requires-clause-row g c = c.requires.row

pub dot-products-requires-clause-column : goal.dot-products-requires-clause-column
dot-products-requires-clause-column g c = omega (arith, c.loop-column-test.true)

pub returns-clause-entries : goal.returns-clause-entries
returns-clause-entries g c j h = c.loop-column.invariant.entries j (omega (arith, h, c.loop-column-test.false))

pub returns-clause-before : goal.returns-clause-before
returns-clause-before g c = c.loop-column.invariant.before

pub returns-clause-steps : goal.returns-clause-steps
returns-clause-steps g c =
    let at_end : c.loop-column.column ≡ c.args.n + 1 = omega (arith, c.loop-column.auto.column-end, c.loop-column-test.false) in
    subst (λ k. c.loop-column.steps ≡ c.args.steps.now + k * c.args.n) at_end c.loop-column.invariant.steps
