-- A key that was found has the epochs kept at its place, and no kept key has 0 of them.
use Rattle.std.{proofs.Common.{refl, sym, arith}, specs.List.zip}
use Rattle.backing_store.proofs.{RowMaking.{found_within, found_first, found_value}, StoreKept.no_epochs}
use Rattle.backing_store.proofs.ZipFacts.{epochs_at, epochs_none, none_of_absent}
use Rattle.backing_store.proofs.store.BackingStore.epochs.Goals as goal

pub index-requires : goal.index-requires
index-requires c = omega (arith, found_within c.self.invariant c.in-Found.at c.in-Found.ensures, c.self.inside.merged.ok.0)

pub returns-in-Found-clause-value : goal.returns-in-Found-clause-value
returns-in-Found-clause-value c =
    let a = c.self.inside in
    let at = c.in-Found.at in
    let here = c.in-Found.ensures in
    rw (← c.self.view_is) (sym (epochs_at c.args.key.now (zip a.keys.keys a.merged.items) at c.index.result.now
    (found_first c.self.invariant at here) (found_value c.self.invariant at here c.index.ensures)))

pub returns-in-Free-clause-value : goal.returns-in-Free-clause-value
returns-in-Free-clause-value c =
    let a = c.self.inside in
    rw (← c.self.view_is) (sym (epochs_none c.args.key.now (zip a.keys.keys a.merged.items)
    (none_of_absent a.keys.keys a.merged.items c.args.key.now c.in-Free.ensures.0)))

pub returns-in-Found-clause-zero : goal.returns-in-Found-clause-zero
returns-in-Found-clause-zero c =
    let kept = rw c.self.view_is at c.self.invariant.whole.0 in
    rw (returns-in-Found-clause-value c) (no_epochs c.args.self.now.key_words c.args.self.now.keys c.args.key.now kept.keys)

pub returns-in-Free-clause-zero : goal.returns-in-Free-clause-zero
returns-in-Free-clause-zero c =
    let kept = rw c.self.view_is at c.self.invariant.whole.0 in
    let zero = no_epochs c.args.self.now.key_words c.args.self.now.keys c.args.key.now kept.keys in
    ((λ _. zero.0 (sym (returns-in-Free-clause-value c))), (λ _. refl))
