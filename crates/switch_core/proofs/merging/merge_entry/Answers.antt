-- An entry that is merged into the row of its key's next epoch makes the store hold one epoch more.
use Rattle.std.proofs.Common.{refl, ap, ◌∙◌}
use Rattle.backing_store.specs.Store.{counted}
use Rattle.switch_core.proofs.merging.merge_entry.Goals as goal

pub returns-clause-ok : goal.returns-clause-ok
returns-clause-ok g c rows epochs stood held =
    let f = g.K.EpochKind.folding c.args.kind.now in
    let old = c.args.store.now in
    let key = c.args.key.now in
    let middle = c.row_for.new.self in
    let made =
    c.in_ok-place.ensures.ok ∙ (ap (λ ws. counted old key ws c.row_per_epoch.result) c.requires.initial
    ∙ ap (counted old key f.initial) c.row_per_epoch.ensures) in
    c.merged_epochs_are_held.ensures f old middle _ key c.in_ok-place.place c.row_mut-state.result.now c.merge.new.state rows
    c.invariant.ensures c.invariant-2.ensures c.requires.key (rw c.requires.initial at c.requires.initial_words) made
    c.in_ok-place.ensures.place
    c.row_mut-state.ensures.value (c.merge.auto.state ∙ c.row_mut-state.ensures.length) refl (c.merge.ensures.merged rows stood) epochs held
