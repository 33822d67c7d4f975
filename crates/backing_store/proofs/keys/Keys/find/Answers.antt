-- What a search finds among the flat words is found among the keys cut from them.
use Rattle.std.proofs.Common.{ℕ, List, ◌∙◌, Some, length, ap}
use Rattle.bucket_cache.specs.Slices.{rows_of}
use Rattle.epoch_model.specs.Keys.{Key}
use Rattle.backing_store.specs.{Searches.{Finds, FindsKey}, declared.chains.Search.{Search, TheVariants.{Found, Free}}}
use Rattle.backing_store.proofs.KeyFacts.{got_row, not_got}
use Rattle.backing_store.proofs.keys.Keys.find.Goals as goal

among_keys : (width : ℕ) (words : List ℕ) (count : ℕ) (key : Key) (search : Search) → Finds width words count key search
    → FindsKey (rows_of width count words) key search
among_keys width words count key (Found at) is = got_row width count words at is.0 ∙ ap Some is.1
among_keys width words count key (Free print) is = (not_got width count words key is.0, is.1)

pub returns : goal.returns
returns c =
    let a = c.self.inside in
    let found : Finds a.width a.words.items (length a.links.items) c.args.key.now c.find_key.result =
    rw (← c.as_slice.ensures.value, ← c.as_slice-2.ensures.value) c.find_key.ensures in
    rw (← c.self.view_is) (among_keys a.width a.words.items (length a.links.items) c.args.key.now c.find_key.result found)
