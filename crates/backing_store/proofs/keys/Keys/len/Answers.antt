use Rattle.std.proofs.Common.{length, ap, arith}
use Rattle.bucket_cache.proofs.FlatRows.{length-rows_of}
use Rattle.backing_store.proofs.keys.Keys.len.Goals as goal

pub returns : goal.returns
returns c =
    let a = c.self.inside in
    omega (arith, c.len.ensures, length-rows_of a.width (length a.links.items) a.words.items, ap (λ l. length l.keys) c.self.view_is)
