-- After the last line feed of bytes without a quote, from a place outside quotes, the place is between records.
use Rattle.std.proofs.Common.{◌+◌, ap, arith, subst, sym, ◌∙◌}
use Rattle.marple_base.proofs.Bytes.{range_from}
use Rattle.memchr.specs.Find.{IsLastByte, is_byte}
use Rattle.trace_pieces.proofs.CutFacts.{no_quote}
use Rattle.trace_pieces.specs.declared.scan.Place.TheVariants as place
use Rattle.trace_ranges.{specs.Spots.place_over, proofs.PlaceFacts.{over_feed, unquoted_place}}
use Rattle.trace_ranges.proofs.places.place_over.Goals as goal

pub returns-in-Some : goal.returns-in-Some
returns-in-Some c =
    let none = no_quote c.args.bytes.now c.memchr.result (sym c.is_some.ensures ∙ c.if-is_some.false) c.memchr.ensures in
    let plain = unquoted_place c.args.place (sym c.is_quoted.ensures ∙ c.if-is_quoted.false) in
    let last = subst (IsLastByte (is_byte 10) c.args.bytes.now) c.in-Some.is c.memrchr.ensures in
    let rest = range_from (c.in-Some.at + 1) c.args.bytes.now (omega (arith, last.0.high)) in
    c.place_by_bytes-in-Some.ensures ∙ (ap (place_over place.Between) rest
    ∙ over_feed c.args.place c.args.bytes.now c.in-Some.at none plain last)
