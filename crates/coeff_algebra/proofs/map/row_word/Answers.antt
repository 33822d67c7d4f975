-- A row's word is the sum of the products so far, and then the constant.
use Rattle.std.proofs.Common.{◌≡◌, ap, ◌∙◌, arith, le_refl, slice_index}
use Rattle.coeff_algebra.{specs.Maps.table_of, proofs.{PlaceLemmas.entry_inside, SumLemmas.{product_more, products_and}}}
use Rattle.coeff_algebra.proofs.map.row_word.Goals as goal

pub load_at-left-requires : goal.load_at-left-requires
load_at-left-requires g c = record {
  inside = omega (
    arith,
    c.requires.map,
    entry_inside c.args.n c.args.row c.loop-j.j
        g.C.Coeff.WORDS c.requires.row (omega (arith, c.loop-j-test.true)),
  );
}

pub load_at-constant-requires : goal.load_at-constant-requires
load_at-constant-requires g c = record {
  inside = omega (arith, c.requires.map, entry_inside c.args.n c.args.row c.args.n g.C.Coeff.WORDS c.requires.row (le_refl c.args.n));
}

pub loop-j-preserved : goal.loop-j-preserved
loop-j-preserved g c =
    let m = g.C.Coeff in record {
      value = product_more m.elements (λ j. table_of m.from_words m.WORDS c.args.n c.args.map.now c.args.row j)
          (λ j. m.elements.embed (slice_index c.args.state.now j)) c.loop-j.j
          _ _ _ _ _ c.loop-j.invariant.value c.load_at-left.ensures c.embed.ensures c.mul.ensures c.add-products.ensures;
      steps = omega (arith, c.loop-j.invariant.steps, c.tick.ensures);
    }

pub returns-clause-value : goal.returns-clause-value
returns-clause-value g c =
    let m = g.C.Coeff in
    let at_end : c.loop-j.j ≡ c.args.n = omega (arith, c.loop-j.auto.j-end, c.loop-j-test.false) in
    c.to_word.ensures ∙ ap m.elements.to_word (products_and m.elements
    (λ j. table_of m.from_words m.WORDS c.args.n c.args.map.now c.args.row j) (λ j. m.elements.embed (slice_index c.args.state.now j))
    c.loop-j.j c.args.n _ _ _ _ c.loop-j.invariant.value at_end c.load_at-constant.ensures c.add.ensures)
