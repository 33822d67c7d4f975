-- Each row that is folded makes the store hold the epochs of one row more.
use Rattle.std.proofs.Common.{◌∙◌, sym, ap, subst, length, arith, length-take, length-append, length-drop}
use Rattle.backing_store.specs.Merged.{StoreHolds}
use Rattle.query_lang.specs.TypedQueries.{AreSlots}
use Rattle.table_rows.specs.LentRows.{row_of}
use Rattle.final_queries.{specs.Grouped.whole_folding, proofs.{GroupSteps.epochs_more, ReadRows.width_at}}
use Rattle.final_queries.proofs.grouped.fold_rows.Goals as goal

pub fold_row-requires : goal.fold_row-requires
fold_row-requires g c =
    let wide = width_at _ _ _ _ _ c.requires.rows c.get-row.ensures c.get-row.result.joined in
    let now = c.loop-at.invariant in
    record {
      keys = subst (λ width. AreSlots width c.args.keys.now) wide c.requires.keys;
      args = subst (λ width. AreSlots width c.args.args.now) wide c.requires.args;
      key_words = now.key_words;
      start = now.state_words;
      states = c.requires.states ∙ now.state_words;
      all_args = c.requires.all_args;
      scratch = omega (arith, c.deref_mut.ensures.len, c.loop-at.scratch.ok, now.scratch);
    }

pub loop-at-preserved : goal.loop-at-preserved
loop-at-preserved g c =
    let row = row_of c.get-row.result in
    let more = epochs_more c.args.keys.now c.args.args.now c.args.rows.now c.loop-at.at row c.get-row.ensures in
    let now = c.loop-at.invariant in
    record {
      holds = λ f code start. subst (StoreHolds (whole_folding f) c.fold_row.new.store) more
          (c.in_ok-fold_row.ensures.ok f _ code start (now.holds f code start));
      key_words = now.key_words ∙ sym c.fold_row.ensures.key_words;
      state_words = now.state_words ∙ sym c.fold_row.ensures.state_words;
      scratch = let kept = c.fold_row.auto.scratch in let lent = c.deref_mut.ensures.len in let all = c.loop-at.scratch.ok in let same =
          ap length c.deref_mut.ensures.value in simp (length-take, length-append, length-drop) (omega (arith, now.scratch));
      steps = let s = c.fold_row.ensures.steps in omega (arith, now.steps);
    }
