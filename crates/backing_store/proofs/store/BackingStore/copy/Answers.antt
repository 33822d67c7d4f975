use Rattle.std.proofs.Common.{◌∙◌}
use Rattle.backing_store.proofs.store.BackingStore.copy.Goals as goal

pub invariant_of-result : goal.invariant_of-result
invariant_of-result c =
    let items = c.in_ok-from_slice.ensures.items ∙ c.as_slice.ensures.value in
    record {
      many = rw (items, c.in_ok-copy.ensures) c.self.invariant.many;
      whole =
          rw (items, c.in_ok-copy.ensures, c.in_ok-copy-2.ensures) c.self.invariant.whole;
    }
