-- A search that follows a chain: of all keys that it has passed none is the one that is sought. And one key more.
use Rattle.std.proofs.Common.{◌≡◌, ◌≢◌, ◌⊎◌, ℕ, suc, ◌+◌, ◌*◌, ◌<◌, ◌≤◌, inl, inr, List, [], ◌∷◌, length, get_or, refl, sym, ap}
use Rattle.std.proofs.{Common.{ap₂, ◌∙◌, ◌++◌, arith, length-append}, Math.ListN.get_or-map}
use Rattle.std.proofs.lemmas.{Bool.{cases_eq, cases_lt}, List.length-map}
use Rattle.epoch_model.specs.Keys.{Key}
use Rattle.backing_store.specs.Chains.{home_at, home_of, last_below, tag_of}
use Rattle.backing_store.specs.Prints.{AreKeys, LinksAreChained, Tells, fingerprint, home_for, prints_of, row_at}
use Rattle.backing_store.specs.declared.chains.{Home.Home, Link.Link}
use Rattle.backing_store.proofs.ChainFacts.{below_limit, get_push, get_pushed, home_of_last, home_within, none_between}
use Rattle.backing_store.proofs.{KeyFacts.{row_at-append, row_at-new, row_within}, LinkFacts.{before_at, last_at, no_link}}

-- no key from a number on is the key, and a key just below the number has the home of the key
pub record IsFollowed (width : ℕ) (words : List ℕ) (links : List Link) (homes : List Home) (key : Key) (next : ℕ) : Type 0 where
  pub low : next ≤ length links
  pub none : (at : ℕ) → next ≤ at → at < length links → row_at width words at ≢ key
  pub home : (at : ℕ) → next ≡ suc at → home_at (length homes) (prints_of links) at ≡ home_of (fingerprint key) (length homes)

-- the fingerprint of a key at a place
pub printed : (width : ℕ) (words : List ℕ) (links : List Link) (homes : List Home) (at : ℕ)
    → AreKeys width words links homes → at < length links
    → (get_or links at no_link).print ≡ fingerprint (row_at width words at)
printed width words links homes at keys low = sym (get_or-map (λ link. link.print) links at no_link) ∙ keys.printed at low

-- a key that is at a place has its home there
home_there : (width : ℕ) (words : List ℕ) (links : List Link) (homes : List Home) (key : Key) (at : ℕ) → AreKeys width words links homes
    → at < length links → row_at width words at ≡ key
    → home_at (length homes) (prints_of links) at ≡ home_of (fingerprint key) (length homes)
home_there width words links homes key at keys low is = rw (keys.printed at low, is) refl

-- from the end of a chain on
begun_at_last : (width : ℕ) (words : List ℕ) (links : List Link) (homes : List Home) (key : Key) → AreKeys width words links homes
    → IsFollowed width words links homes key (home_for homes (fingerprint key)).last
begun_at_last width words links [] key keys = record {
  low = omega arith;
  none = λ at from to. absurd (let room : length links ≤ 0 = keys.room in omega (arith, to, room));
  home = λ at is. absurd (omega (arith, is));
}
begun_at_last width words links (first ∷ more) key keys =
    let homes = first ∷ more in
    let many = length homes in
    let home = home_of (fingerprint key) many in
    let last = last_at (length links) links homes home keys.chained (home_within (fingerprint key) many (omega arith)) in
    record {
      low = rw last (below_limit many (prints_of links) home (length links));
      none = λ at from to is. none_between many (prints_of links) home (length links) at (rw last at from) to
          (home_there width words links homes key at keys to is);
      home = λ at is. home_of_last many (prints_of links) home (length links) at (sym last ∙ is);
    }

-- whether a home tells a tag
is_told : (home : Home) (tag : ℕ) → Tells home tag ⊎ (Tells home tag → ⊥)
is_told home tag = elim (cases_lt tag home.least) [
  | inl low ↦ inr (λ told. omega (arith, low, told.0))
  | inr from ↦ elim (cases_lt home.greatest tag) [
    | inl high ↦ inr (λ told. omega (arith, high, told.1))
    | inr to ↦ inl (omega (arith, from), omega (arith, to))
  ]
]

-- a search begins at the end of a chain, or ends where the home doesn't tell the tag of the key
pub begun : (width : ℕ) (words : List ℕ) (links : List Link) (homes : List Home) (key : Key) (next : ℕ) → AreKeys width words links homes
    → (let home = home_for homes (fingerprint key) in let tag = tag_of (fingerprint key) in
    (Tells home tag → next ≡ home.last) → ((Tells home tag → ⊥) → next ≡ 0) → IsFollowed width words links homes key next)
begun width words links homes key next keys last none = elim (is_told (home_for homes (fingerprint key)) (tag_of (fingerprint key))) [
  | inl told ↦ rw (last told) (begun_at_last width words links homes key keys)
  | inr other ↦ rw (none other) (record {
    low = omega arith;
    none = λ at from to is. other (rw (keys.printed at to, is) at (keys.chained.told at to));
    home = λ at is. absurd (omega (arith, is));
  })
]

-- from a key that isn't the one that is sought, the search goes on to the key before it
pub gone_on : (width : ℕ) (words : List ℕ) (links : List Link) (homes : List Home) (key : Key) (at : ℕ) → AreKeys width words links homes
    → IsFollowed width words links homes key (suc at) → row_at width words at ≢ key
    → IsFollowed width words links homes key (get_or links at no_link).before × ((get_or links at no_link).before ≤ at)
gone_on width words links homes key at keys followed differs =
    let many = length homes in
    let prints = prints_of links in
    let here = followed.home at refl in
    let low : at < length links = omega (arith, followed.low) in
    let before = before_at (length links) links homes at keys.chained low in
    let most : last_below many prints (home_at many prints at) at ≤ at = below_limit many prints (home_at many prints at) at in
    rw before (
      record {
        low = omega (arith, most, low);
        none = λ other from to. elim (cases_eq other at) [
          | inl e ↦ (λ is. differs (ap (row_at width words) (sym e) ∙ is))
          | inr apart ↦ elim (cases_lt other at) [
            | inl below ↦ (λ is. none_between many prints (home_at many prints at) at other from below
                (home_there width words links homes key other keys to is ∙ sym here))
            | inr above ↦ followed.none other (omega (arith, above, apart)) to
          ]
        ];
        home = λ other is. home_of_last many prints (home_at many prints at) at other is ∙ here;
      },
      most,
    )

-- links with the same fingerprints are as many
pub as_many : (links others : List Link) → prints_of others ≡ prints_of links → length others ≡ length links
as_many links others same = sym (length-map others (λ link. link.print)) ∙ (ap length same ∙ length-map links (λ link. link.print))

-- and with a fingerprint more they are one more
pub one_more : (links others : List Link) (print : ℕ) → prints_of others ≡ prints_of links ++ print ∷ [] → length others ≡ length links + 1
one_more links others print more =
    let prints : length (prints_of links) ≡ length links = length-map links (λ link. link.print) in
    sym (length-map others (λ link. link.print)) ∙ (ap length more ∙ omega (arith, length-append (prints_of links) (print ∷ []), prints))

-- other links with the same fingerprints, which are in chains, are those of the same keys
pub keys_kept : (width : ℕ) (words : List ℕ) (links others : List Link) (homes next : List Home) → AreKeys width words links homes
    → prints_of others ≡ prints_of links → LinksAreChained (length others) others next → length others ≤ length next
    → AreKeys width words others next
keys_kept width words links others homes next keys same chained room =
    let many = as_many links others same in
    record {
      flat = rw many keys.flat;
      printed = λ at low. rw same (keys.printed at (omega (arith, low, many)));
      chained = chained;
      room = room;
    }

-- one key more, with its fingerprint
pub keys_more : (width : ℕ) (words : List ℕ) (links others : List Link) (homes next : List Home) (key : Key)
    → AreKeys width words links homes
    → length key ≡ width → prints_of others ≡ prints_of links ++ fingerprint key ∷ [] → LinksAreChained (length others) others next
    → length others ≤ length next
    → AreKeys width (words ++ key) others next
keys_more width words links others homes next key keys long more chained room =
    let count = length links in
    let prints : length (prints_of links) ≡ count = length-map links (λ link. link.print) in
    let many = one_more links others (fingerprint key) more in
    record {
      flat = length-append words key ∙ (ap₂ (λ a b. a + b) keys.flat long
          ∙ ((let e : count * width + width ≡ (count + 1) * width = omega arith in e) ∙ ap (λ m. m * width) (sym many)));
      printed = λ at low. rw more (elim (cases_eq at count) [
        | inl e ↦ rw (e, row_at-new width count words key keys.flat long, ← prints) (get_pushed (prints_of links) (fingerprint key))
        | inr apart ↦
            let there : at < count = omega (arith, low, apart, many) in
            rw (
              get_push (prints_of links) (fingerprint key) at (omega (arith, there, prints)),
              row_at-append width at words key (row_within at count width words there keys.flat),
            ) (keys.printed at there)
      ]);
      chained = chained;
      room = room;
    }
