-- No lower depth covers the variables outside the history, and the number of variables always does.
use Rattle.std.proofs.Common.{◌≡◌, arith, sym, ◌∙◌, below_more, subst}
use Rattle.query_lang.specs.Folds.{fold_states}
use Rattle.fold_class.{specs.Depth.IsDepth, proofs.DepthLemmas.{round_step, covered_by, covered_last, depth_found}}
use Rattle.fold_class.proofs.depth.depth_of.Goals as goal

pub returns-then-covers : goal.returns-then-covers
returns-then-covers c = depth_found c.args.f.now c.loop-depth.depth
    (covered_by c.args.f.now c.loop-depth.depth c.args.history.now c.loop-depth.within c.len-states.result c.covers.result
    c.len-states.ensures c.requires.history c.loop-depth.invariant.within c.covers.ensures ∙ c.if-covers.true) c.loop-depth.invariant.above

pub loop-depth-preserved : goal.loop-depth-preserved
loop-depth-preserved c = record {
  within = round_step c.args.f.now c.loop-depth.depth c.loop-depth.within c.advance.new.within c.loop-depth.invariant.within
      c.advance.ensures;
  above = below_more _ _ c.loop-depth.invariant.above (covered_by c.args.f.now c.loop-depth.depth c.args.history.now c.loop-depth.within
      c.len-states.result c.covers.result c.len-states.ensures c.requires.history c.loop-depth.invariant.within c.covers.ensures
      ∙ c.if-covers.false);
}

pub returns : goal.returns
returns c =
    let same : c.len-states.result ≡ fold_states c.args.f.now = c.len-states.ensures in
    subst (IsDepth c.args.f.now) (sym same) (depth_found c.args.f.now (fold_states c.args.f.now) (covered_last c.args.f.now)
    (λ e h. c.loop-depth.invariant.above e (omega (arith, h, same, c.loop-depth-test.false))))
