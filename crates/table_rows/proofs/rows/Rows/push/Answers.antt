-- The words of a key and of values at the end of all words, with a span over them, are one row more.
use Rattle.std.proofs.Common.{◌≡◌, length, arith, refl}
use Rattle.table_rows.proofs.SpanFacts.{rows_pushed, within_pushed}
use Rattle.table_rows.proofs.rows.Rows.push.Goals as goal

pub invariant_of-self-2 : goal.invariant_of-self-2
invariant_of-self-2 c =
    let a = c.self.inside in
    let start : c.len-start.result ≡ length a.words.items = omega (arith, c.len-start.ensures, a.words.ok.0) in
    rw (
      c.push_reserved.ensures.items,
      c.push_few-2.ensures.items,
      c.push_few.ensures.items,
      c.in_ok-reserve-2.ensures.items,
      c.in_ok-reserve.ensures.items,
    )
    (within_pushed a.words.items c.args.key.now c.args.values.now a.spans.items _ c.self.invariant start refl refl)

pub returns-clause-ok : goal.returns-clause-ok
returns-clause-ok c =
    let a = c.self.inside in
    let start : c.len-start.result ≡ length a.words.items = omega (arith, c.len-start.ensures, a.words.ok.0) in
    rw (
      c.push_reserved.ensures.items,
      c.push_few-2.ensures.items,
      c.push_few.ensures.items,
      c.in_ok-reserve-2.ensures.items,
      c.in_ok-reserve.ensures.items,
      ← c.self.view_is,
    )
    (rows_pushed a.words.items c.args.key.now c.args.values.now a.spans.items _ c.self.invariant start refl refl)
