-- The words from a place's start on, as many as an entry has, are the entry there.
use Rattle.std.proofs.Common.{◌*◌, ◌∙◌, [], take, drop, sym, ap, arith}
use Rattle.bucket_cache.proofs.FlatRows.{get-rows_of, place_within, row_fits}
use Rattle.bucket_cache.proofs.entries.Entries.entry.Goals as goal

pub row-requires : goal.row-requires
row-requires c =
    let a = c.self.inside in
    let low = place_within a.width a.places a.words.items c.self.view_is c.requires in
    rw c.as_slice.ensures.value (omega (arith, row_fits c.args.at a.places a.width low, c.self.invariant))

pub returns : goal.returns
returns c =
    let a = c.self.inside in
    let low = place_within a.width a.places a.words.items c.self.view_is c.requires in
    rw (← c.self.view_is) (c.row.ensures ∙ (ap (λ ws. take a.width (drop (c.args.at * a.width) ws)) c.as_slice.ensures.value
    ∙ sym (get-rows_of a.width a.places a.words.items c.args.at [] low)))
