-- Fingerprints of keys, and how the words of keys, their links and homes show keys that can be found.
use Rattle.std.specs.Prelude.{◌≡◌, ℕ, List, [], ◌∷◌, ◌*◌, ◌<◌, ◌≤◌, drop, get_or, length, map, take}
use Rattle.epoch_model.specs.Keys.{Key}
use Rattle.backing_store.specs.{Chains.{AreChained, home_at, home_of, tag_of}, SipHash.sip_hash, declared.chains.{Home.Home, Link.Link}}

-- the row of a width at a place
abbrev pub row_at : ℕ → List ℕ → ℕ → List ℕ
row_at width words at = take width (drop (at * width) words)

-- the word by which a key is found: its only word, or else a hash of its words
unfoldable pub fingerprint : Key → ℕ
fingerprint (word ∷ []) = word
fingerprint key = sip_hash key

abbrev pub prints_of : List Link → List ℕ
prints_of links = map (λ link. link.print) links

abbrev pub before_of : List Link → List ℕ
before_of links = map (λ link. link.before) links

abbrev pub lasts_of : List Home → List ℕ
lasts_of homes = map (λ home. home.last) homes

-- a home that has no key
abbrev pub no_home : Home
no_home = record { last = 0; least = 0; greatest = 0 }

-- the home of a fingerprint
abbrev pub home_for : List Home → ℕ → Home
home_for homes print = get_or homes (home_of print (length homes)) no_home

-- a home tells that keys in its chain may have the tag
abbrev pub Tells : Home → ℕ → Type 0
Tells home tag = (home.least ≤ tag) × (tag ≤ home.greatest)

-- so many links are in chains that end at the homes, and the home of each tells its tag
pub record LinksAreChained (count : ℕ) (links : List Link) (homes : List Home) : Type 0 where
  pub chained : AreChained count (prints_of links) (before_of links) (lasts_of homes)
  pub told : (number : ℕ) → number < count
      → Tells (get_or homes (home_at (length homes) (prints_of links) number) no_home) (tag_of (get_or (prints_of links) number 0))

-- the words are those of as many keys as there are links, and each link is that of the key at its place, in its chain
pub record AreKeys (width : ℕ) (words : List ℕ) (links : List Link) (homes : List Home) : Type 0 where
  pub flat : length words ≡ length links * width
  pub printed : (at : ℕ) → at < length links → get_or (prints_of links) at 0 ≡ fingerprint (row_at width words at)
  pub chained : LinksAreChained (length links) links homes
  pub room : length links ≤ length homes
