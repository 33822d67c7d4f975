-- The store stays whole whatever is written to the lent words of a row, which are as many as those of a state.
use Rattle.std.{proofs.Common.{◌≡◌, refl, length, option_map, slice_get, Some}, specs.List.zip}
use Rattle.backing_store.{proofs.{StateFacts.row_keys-written, StoreKept.{store_written, words_length}}, specs.StoreView.store_with}
use Rattle.backing_store.proofs.store.BackingStore.row_mut.Goals as goal

pub invariant_of-self-lent : goal.invariant_of-self-lent
invariant_of-self-lent c w =
    let a = c.self.inside in
    let whole = c.self.invariant.whole in
    record {
      many = c.self.invariant.many;
      whole = (
        store_written (store_with (zip a.keys.keys a.merged.items) a.states.rows a.keys.width a.states.width) c.args.at w whole.0,
        rw (row_keys-written a.states.rows c.args.at w) whole.1,
      );
    }

pub returns : goal.returns
returns c =
    let value : option_map (λ row. row.words) (slice_get c.args.self.now.rows c.args.at) ≡ Some c.row_mut.result.now =
    rw (← c.self.view_is) c.row_mut.ensures.value in (
      (refl, (λ w. rw (← c.self.view_is) refl)),
      record {
        writes_back = tt;
        value = value;
        length = words_length (length c.args.self.now.keys) c.args.self.now.state_words c.args.self.now.rows c.args.at c.row_mut.result.now
            (rw c.self.view_is at c.self.invariant.whole.0).rows value;
      },
    )
