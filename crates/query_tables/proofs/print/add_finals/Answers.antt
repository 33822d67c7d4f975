-- The table of each final is made of the tables before it, so those so far go on to the tables of the whole query.
use Rattle.std.proofs.{Common.{◌≡◌, ◌∷◌, ◌+◌, ap, sym, ◌∙◌, subst, drop, length, arith}, lemmas.List.drop_more}
use Rattle.final_queries.specs.Finals.{with_finals}
use Rattle.query_tables.proofs.FinalSteps.{one_more}
use Rattle.query_tables.proofs.print.add_finals.Goals as goal

pub loop-one-preserved : goal.loop-one-preserved
loop-one-preserved g c =
    let q = c.args.q.now in
    let i = c.loop-one.one-index in
    let one = c.one-item.result in
    let items = c.as_slice-one-items.result.now in
    let next = subst (λ fs. drop i fs ≡ one ∷ drop (i + 1) fs) c.as_slice-one-items.ensures
    (drop_more items i one c.loop-one-test.true ∙ ap (λ f. f ∷ drop (i + 1) items) (sym c.one-item.is)) in
    record {
      way = one_more q.names q.folds (with_finals q.names q.folds c.args.groups q.finals) (length c.args.groups + length q.finals)
          c.loop-one.tables c.push.new.self c.in_ok-made.made one
          (drop i q.finals) (drop (i + 1) q.finals) next c.in_ok-made.ensures.table c.in_ok-made.ensures.read c.in_ok-made.ensures.shape
          c.in_ok-push.ensures.ok c.loop-one.invariant.way;
      steps = omega arith;
    }
