use Rattle.std.proofs.{Common.{arith, get_or, []}, lemmas.Option.slice_get-get_or}
use Rattle.backing_store.proofs.PlaceFacts.{only_word}
use Rattle.backing_store.proofs.store.key_at.Goals as goal

pub returns-then-width-eq1 : goal.returns-then-width-eq1
returns-then-width-eq1 c =
    let keys = c.args.keys.now.keys in
    let of = c.args.of in
    let one = c.requires.widths of [] c.requires.of in
    let whole = only_word (get_or keys of []) (omega (arith, one)) in
    rw (c.requires.first, whole) (slice_get-get_or keys of [] c.requires.of)
