-- At each exit the store is whole: what a key's row and its count change is said by parts in `RowMaking`.
use Rattle.std.proofs.Common.{◌≡◌, ◌+◌, ◌∙◌, ◌++◌, ◌∷◌, [], refl, sym, ap, arith, length-set, length-append}
use Rattle.backing_store.{specs.declared.store.Merged.Merged, proofs.{StateFacts.pushed-front, RowMaking.{IsAsked, found_within}}}
use Rattle.backing_store.proofs.RowMaking.{again_whole, again_counted, again_place, row_whole, row_counted, row_place, first_whole}
use Rattle.backing_store.proofs.RowMaking.{first_counted, first_place}
use Rattle.backing_store.proofs.store.BackingStore.row_for.Goals as goal
use Rattle.backing_store.proofs.store.BackingStore.row_for.Goals.{After-self, After-push_reserved}

asked : (c : After-self) → IsAsked c.self.inside c.args.self.now c.args.key.now c.args.initial.now
asked c = record {
  sound = c.self.invariant;
  view = c.self.view_is;
  key_size = c.requires.key;
  row_size = c.requires.initial;
}

pub invariant_of-self : goal.invariant_of-self
invariant_of-self c = rw c.in_err-push-in-Found.ensures.err (record { many = c.self.invariant.many; whole = c.self.invariant.whole })

pub index-requires : goal.index-requires
index-requires c = omega (arith, found_within c.self.invariant c.in-Found.at c.in-Found.ensures, c.self.inside.merged.ok.0)

pub index_mut-requires : goal.index_mut-requires
index_mut-requires c = omega (arith, found_within c.self.invariant c.in-Found.at c.in-Found.ensures, c.self.inside.merged.ok.0)

pub index-merged-requires : goal.index-merged-requires
index-merged-requires c = omega (arith, found_within c.self.invariant c.in-Found.at c.in-Found.ensures, c.self.inside.merged.ok.0)

pub index_mut-requires-in-Found-2 : goal.index_mut-requires-in-Found-2
index_mut-requires-in-Found-2 c = omega (arith, found_within c.self.invariant c.in-Found.at c.in-Found.ensures, c.self.inside.merged.ok.0)

pub invariant_of-self-then-row_per_epoch : goal.invariant_of-self-then-row_per_epoch
invariant_of-self-then-row_per_epoch c =
    let s = asked (goal.at.invariant_of-self-then-row_per_epoch c).After-self in
    let now : Merged = record { epochs = c.saturating_add-epochs.result; last = c.len-last.result } in
    record {
      many = length-set c.self.inside.merged.items c.in-Found.at now ∙ c.self.invariant.many;
      whole = rw c.in_ok-push-in-Found.ensures.ok (row_whole s c.in-Found.at c.in-Found.ensures now c.index.ensures
          c.saturating_add-epochs.ensures c.len-last.ensures);
    }

pub returns-in_ok-push-in-Found-clause-ok : goal.returns-in_ok-push-in-Found-clause-ok
returns-in_ok-push-in-Found-clause-ok c =
    let s = asked (goal.at.returns-in_ok-push-in-Found-clause-ok c).After-self in
    let now : Merged = record { epochs = c.saturating_add-epochs.result; last = c.len-last.result } in
    rw (c.if-row_per_epoch.true, c.in_ok-push-in-Found.ensures.ok)
    (row_counted s c.in-Found.at c.in-Found.ensures now c.index.ensures c.saturating_add-epochs.ensures)

pub returns-in_ok-push-in-Found-clause-place : goal.returns-in_ok-push-in-Found-clause-place
returns-in_ok-push-in-Found-clause-place c =
    let s = asked (goal.at.returns-in_ok-push-in-Found-clause-place c).After-self in
    let now : Merged = record { epochs = c.saturating_add-epochs.result; last = c.len-last.result } in
    rw c.in_ok-push-in-Found.ensures.ok (row_place s c.in-Found.at c.in-Found.ensures now c.index.ensures c.saturating_add-epochs.ensures
    c.len-last.ensures)

pub invariant_of-self-in-Found-2 : goal.invariant_of-self-in-Found-2
invariant_of-self-in-Found-2 c =
    let s = asked (goal.at.invariant_of-self-in-Found-2 c).After-self in
    let now : Merged = record { epochs = c.saturating_add-epochs-in-Found-2.result; last = c.index-merged.result.now.last } in
    record {
      many = length-set c.self.inside.merged.items c.in-Found.at now ∙ c.self.invariant.many;
      whole = again_whole s c.in-Found.at c.in-Found.ensures now c.index-merged.ensures c.saturating_add-epochs-in-Found-2.ensures refl;
    }

pub returns-in-Found-2-clause-ok : goal.returns-in-Found-2-clause-ok
returns-in-Found-2-clause-ok c =
    let s = asked (goal.at.returns-in-Found-2-clause-ok c).After-self in
    let now : Merged = record { epochs = c.saturating_add-epochs-in-Found-2.result; last = c.index-merged.result.now.last } in
    rw c.if-row_per_epoch.false
    (again_counted s c.in-Found.at c.in-Found.ensures now c.index-merged.ensures c.saturating_add-epochs-in-Found-2.ensures)

pub returns-in-Found-2-clause-place : goal.returns-in-Found-2-clause-place
returns-in-Found-2-clause-place c =
    let s = asked (goal.at.returns-in-Found-2-clause-place c).After-self in
    let now : Merged = record { epochs = c.saturating_add-epochs-in-Found-2.result; last = c.index-merged.result.now.last } in
    again_place s c.in-Found.at c.in-Found.ensures now c.index-merged.ensures c.saturating_add-epochs-in-Found-2.ensures refl

pub invariant_of-self-in_err-reserve-in-Free : goal.invariant_of-self-in_err-reserve-in-Free
invariant_of-self-in_err-reserve-in-Free c = record {
  many = rw c.reserve.ensures.items c.self.invariant.many;
  whole =
      rw c.reserve.ensures.items c.self.invariant.whole;
}

pub invariant_of-self-in_err-push-in-Free : goal.invariant_of-self-in_err-push-in-Free
invariant_of-self-in_err-push-in-Free c = record {
  many = rw c.reserve.ensures.items c.self.invariant.many;
  whole = rw (c.in_err-push-in-Free.ensures.err, c.reserve.ensures.items) c.self.invariant.whole;
}

pub invariant_of-self-in-Err : goal.invariant_of-self-in-Err
invariant_of-self-in-Err c =
    let a = c.self.inside in
    let back = pushed-front a.states.rows (record { key = c.len-number.result; words = c.args.initial.now }) in
    record {
      many = rw (c.reserve.ensures.items, c.in-Err.ensures.err) c.self.invariant.many;
      whole = rw (c.reserve.ensures.items, c.in-Err.ensures.err, c.pop.ensures, c.in_ok-push-in-Free.ensures.ok, back)
          c.self.invariant.whole;
    }

one_merged : (c : After-push_reserved)
    → c.push_reserved.new.self.items ≡ c.self.inside.merged.items ++ record { epochs = 1; last = c.len-last-in-Free.result } ∷ []
one_merged c = c.push_reserved.ensures.items ∙ ap (λ ms. ms ++ record { epochs = 1; last = c.len-last-in-Free.result } ∷ [])
    c.reserve.ensures.items

pub invariant_of-self-in-Ok : goal.invariant_of-self-in-Ok
invariant_of-self-in-Ok c =
    let a = c.self.inside in
    let s = asked (goal.at.invariant_of-self-in-Ok c).After-self in
    let items = one_merged (goal.at.invariant_of-self-in-Ok c).After-push_reserved in
    record {
      many = rw (items, c.in-Ok.ensures.ok)
          (length-append a.merged.items (record { epochs = 1; last = c.len-last-in-Free.result } ∷ [])
          ∙ (ap (λ n. n + 1) c.self.invariant.many ∙ sym (length-append a.keys.keys (c.args.key.now ∷ []))));
      whole = rw (items, c.in-Ok.ensures.ok, c.in_ok-push-in-Free.ensures.ok)
          (first_whole s c.in-Free.ensures.0 c.len-number.ensures c.len-last-in-Free.ensures);
    }

pub returns-in-Ok-clause-ok : goal.returns-in-Ok-clause-ok
returns-in-Ok-clause-ok c =
    let s = asked (goal.at.returns-in-Ok-clause-ok c).After-self in
    rw (one_merged (goal.at.returns-in-Ok-clause-ok c).After-push_reserved, c.in-Ok.ensures.ok, c.in_ok-push-in-Free.ensures.ok)
    (first_counted s c.in-Free.ensures.0 c.len-number.ensures c.len-last-in-Free.ensures c.args.row_per_epoch)

pub returns-in-Ok-clause-place : goal.returns-in-Ok-clause-place
returns-in-Ok-clause-place c =
    let s = asked (goal.at.returns-in-Ok-clause-place c).After-self in
    rw (one_merged (goal.at.returns-in-Ok-clause-place c).After-push_reserved, c.in-Ok.ensures.ok, c.in_ok-push-in-Free.ensures.ok)
    (first_place s c.in-Free.ensures.0 c.len-number.ensures c.len-last-in-Free.ensures)
