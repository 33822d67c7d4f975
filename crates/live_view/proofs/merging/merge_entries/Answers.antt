-- A row has the words of a key and of an entry, and merged it is the next epoch that the store holds.
use Rattle.std.proofs.{Common.{◌++◌, take, ◌∙◌, subst, arith}, lemmas.List.take_all}
use Rattle.backing_store.specs.Merged.{StoreHolds}
use Rattle.live_view.proofs.{Standing.one_after, WaitingFacts.{row_next, rows_long}}
use Rattle.live_view.proofs.merging.merge_entries.Goals as goal

pub loop-at-preserved : goal.loop-at-preserved
loop-at-preserved g c =
    let stands = g.K.EpochKind.stands c.args.kind.now in
    let f = g.K.EpochKind.folding c.args.kind.now in
    let at = c.loop-at.at in
    let entry = c.get-entry.result in
    record {
      held = λ unmerged epochs stand held.
          let found = row_next stands c.args.entries.now unmerged at _ stand c.get-entry.ensures in
          let merged = c.in_ok-merge_entry.ensures.ok found.0.rows (epochs ++ take at unmerged) found.3
          (c.loop-at.invariant.held unmerged epochs stand held) in
          subst (StoreHolds f c.merge_entry.new.store) (one_after epochs unmerged at found.0 entry.key.now found.2 found.1) merged;
      key_words = c.merge_entry.ensures.key_words ∙ c.loop-at.invariant.key_words;
      state_words = c.merge_entry.ensures.state_words ∙ c.loop-at.invariant.state_words;
      steps = let a = c.merge_entry.ensures.steps in let b = c.loop-at.invariant.steps in omega arith;
    }

pub returns-clause-held : goal.returns-clause-held
returns-clause-held g c unmerged epochs stand held =
    let f = g.K.EpochKind.folding c.args.kind.now in
    let long = rows_long (g.K.EpochKind.stands c.args.kind.now) c.args.entries.now unmerged stand in
    let all = let a = c.loop-at-test.false in let n = c.len-at-end.ensures in take_all c.loop-at.at unmerged (omega arith) in
    subst (λ es. StoreHolds f c.loop-at.store (epochs ++ es)) all (c.loop-at.invariant.held unmerged epochs stand held)
