-- What a search for a key finds.
use Rattle.std.specs.Prelude.{◌≡◌, ◌≢◌, ℕ, List, ◌<◌, slice_get, Some}
use Rattle.epoch_model.specs.Keys.{Key}
use Rattle.backing_store.specs.{Prints.{fingerprint, row_at}, declared.chains.Search.{Search, TheVariants.{Found, Free}}}

-- among the words of so many keys: the place of the key, or that it is at no place, and its fingerprint
abbrev pub Finds : ℕ → List ℕ → ℕ → Key → Search → Type 0
Finds width words count key (Found at) = (at < count) × (row_at width words at ≡ key)
Finds width words count key (Free print) = ((at : ℕ) → at < count → row_at width words at ≢ key) × (print ≡ fingerprint key)

-- the same among keys
abbrev pub FindsKey : List Key → Key → Search → Type 0
FindsKey keys key (Found at) = slice_get keys at ≡ Some key
FindsKey keys key (Free print) = ((at : ℕ) → slice_get keys at ≢ Some key) × (print ≡ fingerprint key)
