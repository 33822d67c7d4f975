-- The place of the way gets the key's words, those of the other ways stay, and the way comes first.
use Rattle.std.proofs.Common.{◌≡◌, ◌+◌, ◌-◌, ◌*◌, ◌<◌, length, subst, sym, arith}
use Rattle.bucket_cache.proofs.FlatRows.{row_fits, set-rows_of}
use Rattle.bucket_cache.proofs.ways.put.Goals as goal

pub slice_bounds-copy_words-end : goal.slice_bounds-copy_words-end
slice_bounds-copy_words-end g c =
    let below = subst (λ way. way < length c.args.order.now) (sym c.way_at-way.ensures)
    (c.requires.ways c.args.at 0 c.requires.within) in
    let fits = row_fits c.way_at-way.result (length c.args.order.now) (length c.args.key.now) below in
    let flat = c.requires.flat in
    omega arith

pub returns-clause-keys : goal.returns-clause-keys
returns-clause-keys g c =
    let kw = length c.args.key.now in
    let words = c.args.words.now in
    let below = subst (λ way. way < length c.args.order.now) (sym c.way_at-way.ensures)
    (c.requires.ways c.args.at 0 c.requires.within) in
    let start = c.way_at-way.result * kw in
    let width : start + kw - start ≡ kw = omega arith in
    rw (
      width,
      c.copy_words.ensures.words,
      set-rows_of kw (length c.args.order.now) words c.way_at-way.result c.args.key.now below
          c.requires.flat (let e : kw ≡ kw = omega arith in e),
    )

pub way_at-way-requires-clause-within : goal.way_at-way-requires-clause-within
way_at-way-requires-clause-within g c = c.requires.within

pub way_at-way-requires-clause-below : goal.way_at-way-requires-clause-below
way_at-way-requires-clause-below g c = c.requires.ways c.args.at 0 c.requires.within

pub returns-clause-way : goal.returns-clause-way
returns-clause-way g c = c.way_at-way.ensures

pub returns-clause-moved : goal.returns-clause-moved
returns-clause-moved g c = c.move_to_front.ensures.moved
