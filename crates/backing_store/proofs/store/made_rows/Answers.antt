-- A row's number is one more than the last one's where the key is the same, and 1 where a new key begins.
use Rattle.std.proofs.Common.{◌≡◌, ◌+◌, ◌<◌, ℕ, ◌∙◌, List, [], ◌∷◌, ap, arith, get_or, inl, inr, length, map, refl, slice_get, sym, take}
use Rattle.std.proofs.Common.{option_map, Some}
use Rattle.std.{proofs.lemmas.{List.take_all, Option.{get_or_from_slice_get, slice_get-get_or, slice_get_read}}, specs.List.zip}
use Rattle.epoch_model.specs.Keys.{Key}
use Rattle.backing_store.specs.{Places.{AreByKey, rows_there}, RowOrder.first_word, SortedRows.numbered, Stored.stored}
use Rattle.backing_store.specs.{Store.{AreRowsOf, StoredRow, epochs_of, number_of, states_at}, declared.order.Place.Place}
use Rattle.backing_store.proofs.PlaceFacts.{ascends_there, counted_pushed, distinct_keys, epoch_small, epoch_there, key_pushed, last_is}
use Rattle.backing_store.proofs.{PlaceFacts.{number_within, place_number, row_pushed}, SortedFacts.{made_push, row_is}, ZipFacts.zip-stored}
use Rattle.backing_store.proofs.store.made_rows.Goals as goal
use Rattle.backing_store.proofs.store.made_rows.Goals.{then-of-last, else-of-last}

-- the number of the key at the next place
next_within : (keys : List Key) (words : ℕ) (rows : List StoredRow) (places : List Place) (i : ℕ) (d : Place)
    → AreRowsOf (length keys) words rows → AreByKey keys rows places → i < length places → (get_or places i d).of < length keys
next_within keys words rows places i d kept by_key within =
    let is = by_key.within i d within in
    rw is.number (number_within keys words rows (get_or places i d) kept is.within)

pub overflow_add-epoch : goal.overflow_add-epoch
overflow_add-epoch c =
    let places = c.args.places.now in
    let i = c.loop-place.place-index in
    let d : Place = record { word = 0; at = 0; of = 0 } in
    let keys = c.args.keys.now.keys in
    let rows = c.args.states.now.rows in
    let within = next_within keys c.args.states.now.width rows places i d c.requires.rows c.requires.places c.loop-place-test.true in
    let small = epoch_small keys rows places i (get_or places i d).of c.loop-place.last c.loop-place.epoch
    c.if-of-last.true within c.loop-place.invariant.begins c.loop-place.invariant.counted in
    omega (arith, small, c.loop-place-test.true, c.loop-place.auto.place-index-end)

pub index-kept-requires : goal.index-kept-requires
index-kept-requires c =
    let within = next_within c.args.keys.now.keys c.args.states.now.width c.args.states.now.rows c.args.places.now
    c.loop-place.place-index (record { word = 0; at = 0; of = 0 }) c.requires.rows c.requires.places c.loop-place-test.true in
    omega (arith, within, c.requires.many, c.args.merged.now.ok.0)

pub key_at-requires : goal.key_at-requires
key_at-requires c =
    let keys = c.args.keys.now.keys in
    let places = c.args.places.now in
    let i = c.loop-place.place-index in
    let d : Place = record { word = 0; at = 0; of = 0 } in
    let is = c.requires.places.within i d c.loop-place-test.true in
    record {
      of = next_within keys c.args.states.now.width c.args.states.now.rows places i d c.requires.rows c.requires.places
          c.loop-place-test.true;
      first = ap (λ word. word ∷ []) is.first ∙ ap (λ n. first_word (get_or keys n []) ∷ []) (sym is.number);
      widths = c.requires.widths;
    }

pub row-requires : goal.row-requires
row-requires c = (c.requires.places.within c.loop-place.place-index (record { word = 0; at = 0; of = 0 }) c.loop-place-test.true).within

pub loop-place-preserved : goal.loop-place-preserved
loop-place-preserved c =
    let rows = c.args.states.now.rows in
    let keys = c.args.keys.now.keys in
    let merged = c.args.merged.now.items in
    let places = c.args.places.now in
    let i = c.loop-place.place-index in
    let kept = c.index-kept.result.now in
    let d : Place = record { word = 0; at = 0; of = 0 } in
    let p = get_or places i d in
    let within = c.loop-place-test.true in
    let is = c.requires.places.within i d within in
    let number : place_number rows p ≡ p.of = sym is.number in
    let low = next_within keys c.args.states.now.width rows places i d c.requires.rows c.requires.places within in
    let counted : c.if-of-last.epoch ≡ length (states_at (rows_there rows (take i places)) p.of) + 1 =
    epoch_there keys c.args.states.now.width rows places i d c.loop-place.last c.loop-place.epoch c.if-of-last.epoch c.requires.rows
    (distinct_keys keys merged c.requires.many c.requires.once) c.requires.places within c.loop-place.invariant.before
    c.loop-place.invariant.begins c.loop-place.invariant.counted
    (elim c.if-of-last.branch [
      | then-of-last w ↦ inl (number ∙ w.if-of-last.true, w.epoch-is)
      | else-of-last w ↦ inr ((λ e. w.if-of-last.false (sym number ∙ e)), w.epoch-is)
    ])
    ∙ ap (λ n. length (states_at (rows_there rows (take i places)) n) + 1) number in
    let row : StoredRow = record { key = p.of; words = c.row.result.now } in
    let of : option_map (λ (r : StoredRow). r.key) (slice_get rows p.at) ≡ Some p.of =
    ap (option_map (λ (r : StoredRow). r.key)) (slice_get-get_or rows p.at _ is.within) ∙ ap Some number in
    let more = row_pushed rows places i d row within (row_is rows p.at p.of c.row.result.now of c.row.ensures) in
    let there = zip-stored keys merged p.of c.key_at.result.now kept c.key_at.ensures
    (slice_get_read merged (length merged) p.of kept refl (omega (arith, low, c.requires.many)) c.index-kept.ensures) in
    let key = ap (λ n. get_or keys n []) number ∙ get_or_from_slice_get keys p.of c.key_at.result.now [] c.key_at.ensures in
    let made = made_push (map stored (zip keys merged)) (record { key = c.key_at.result.now; epochs = kept.epochs }) c.loop-place.made
    (rows_there rows (take i places)) row c.requires.once there c.loop-place.invariant.made in
    record {
      made = rw (c.in_ok-push.ensures.ok, c.fetch_next.ensures, more, counted) made;
      keys = rw (c.in_ok-push.ensures.ok, c.fetch_next.ensures)
          (key_pushed keys rows places i d c.loop-place.made _ within (sym key) c.loop-place.invariant.keys);
      before = λ e begun. sym number ∙ ap (place_number rows) (last_is places i d e within);
      begins = λ none. absurd (omega (arith, none));
      counted = λ begun. rw more (counted_pushed (rows_there rows (take i places)) row c.if-of-last.epoch counted);
    }

pub returns : goal.returns
returns c =
    let keys = c.args.keys.now.keys in
    let merged = c.args.merged.now.items in
    let places = c.args.places.now in
    let rows = c.args.states.now.rows in
    let all : take c.loop-place.place-index places ≡ places = take_all c.loop-place.place-index places
    (omega (arith, c.loop-place-test.false)) in
    let made = rw all at c.loop-place.invariant.made in
    let same = rw all at c.loop-place.invariant.keys in (
      λ key. made key ∙ ap (λ states. numbered key (epochs_of (map stored (zip keys merged)) key) 1 states)
          (c.requires.places.kept (number_of (map stored (zip keys merged)) key)),
      ascends_there keys rows c.loop-place.made places same c.requires.places.ascend,
    )
