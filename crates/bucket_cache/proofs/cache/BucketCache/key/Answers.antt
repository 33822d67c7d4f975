-- The words at a pair's place are that pair's key, in whichever bucket it stands.
use Rattle.std.proofs.Common.{◌≡◌, ◌*◌, ◌<◌, length, take, drop, sym, ap, ◌∙◌, subst}
use Rattle.bucket_cache.proofs.FlatReads.{key-fits, key-long, flat-key}
use Rattle.bucket_cache.proofs.cache.BucketCache.key.Goals as goal
use Rattle.bucket_cache.proofs.cache.BucketCache.key.Goals.{After-self, After-row}

stands : (g : _) (c : After-self g) → c.args.at < length c.self.inside.entries
stands g c = subst (λ n. c.args.at < n) (ap (λ x. length x.entries) (sym c.self.view_is)) c.requires

pub row-requires : goal.row-requires
row-requires g c =
    let b = c.self.inside in
    rw c.deref.ensures.value (key-fits c.self.invariant c.args.at (stands g (goal.at.row-requires g c).After-self))

row_is : (g : _) (c : After-row g)
    → c.row.result.now ≡ take c.self.inside.key_words (drop (c.args.at * c.self.inside.key_words) c.self.inside.words.items)
row_is g c =
    let kw = c.self.inside.key_words in
    rw (c.row.ensures, c.deref.ensures.value)

pub returns-clause-length : goal.returns-clause-length
returns-clause-length g c =
    key-long c.self.invariant c.args.at (stands g (goal.at.returns-clause-length g c).After-self) c.row.result.now (row_is g c)
    ∙ ap (λ x. x.key_words) c.self.view_is

pub returns-clause-key : goal.returns-clause-key
returns-clause-key g c =
    let here = stands g (goal.at.returns-clause-key g c).After-self in
    rw (← c.self.view_is) (λ bucket i pair e p. row_is g c ∙ flat-key c.self.invariant c.args.at here bucket i pair e p)
