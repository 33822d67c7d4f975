-- Links of keys, of which each shows a fingerprint and the key before it, and their homes: what they show of chains, a link that is
-- put in its chain, and one more.
use Rattle.std.proofs.Common.{◌≡◌, ℕ, zero, suc, ◌+◌, ◌<◌, ◌≤◌, inl, inr, List, [], ◌∷◌, ◌++◌, length, get_or, refl, sym, ap, ◌∙◌}
use Rattle.std.proofs.{Common.{arith, replicate}, Math.{ListN.get_or-map, Seq.map-set_same}, lemmas.Bool.cases_eq}
use Rattle.std.{proofs.lemmas.List.{get_or-set_same, get_or-set_other, length-map, length-set, map-append, map-set}, specs.Prelude.set}
use Rattle.backing_store.specs.Chains.{home_at, home_of, last_below, tag_of}
use Rattle.backing_store.specs.Prints.{LinksAreChained, Tells, before_of, lasts_of, no_home, prints_of}
use Rattle.backing_store.specs.declared.chains.{Home.Home, Link.Link}
use Rattle.backing_store.proofs.ChainFacts.{chained_more, chained_pushed, get_push, home_within, none_chained}

abbrev pub no_link : Link
no_link = record { print = 0; before = 0 }

-- a link with another key before it
abbrev with_before : List Link → ℕ → ℕ → Link
with_before links number before = record { print = (get_or links number no_link).print; before = before }

pub prints_kept : (links : List Link) (number before : ℕ) → prints_of (set links number (with_before links number before)) ≡ prints_of links
prints_kept links number before = map-set_same (λ link. link.print) links number (with_before links number before) no_link refl

-- a link leads to the last key before it with its home
pub before_at : (count : ℕ) (links : List Link) (homes : List Home) (at : ℕ) → LinksAreChained count links homes → at < count
    → (get_or links at no_link).before ≡ last_below (length homes) (prints_of links) (home_at (length homes) (prints_of links) at) at
before_at count links homes at are low = sym (get_or-map (λ link. link.before) links at no_link) ∙ (are.chained.linked at low
    ∙ ap (λ many. last_below many (prints_of links) (home_at many (prints_of links) at) at) (length-map homes (λ home. home.last)))

-- and a home to its last key
pub last_at : (count : ℕ) (links : List Link) (homes : List Home) (at : ℕ) → LinksAreChained count links homes → at < length homes
    → (get_or homes at no_home).last ≡ last_below (length homes) (prints_of links) at count
last_at count links homes at are within = sym (get_or-map (λ home. home.last) homes at no_home)
    ∙ (are.chained.ended at (rw length-map within)
    ∙ ap (λ many. last_below many (prints_of links) at count) (length-map homes (λ home. home.last)))

-- where no home has a key, no link is in a chain yet
pub none_linked : (links : List Link) (homes : List Home) → ((at : ℕ) → (get_or homes at no_home).last ≡ 0) → LinksAreChained 0 links homes
none_linked links homes free = record {
  chained = none_chained (prints_of links) (before_of links) (lasts_of homes)
      (λ at. get_or-map (λ home. home.last) homes at no_home ∙ free at);
  told = λ number low. absurd (omega (arith, low));
}

-- homes that are all alike
pub all_free : (home : Home) → home.last ≡ 0 → (many at : ℕ) → (get_or (replicate many home) at no_home).last ≡ 0
all_free home is zero at = refl
all_free home is (suc many) zero = is
all_free home is (suc many) (suc at) = all_free home is many at

-- the home of the next link tells its tag, and those that it told before
told_more : (count : ℕ) (prints : List ℕ) (homes : List Home) (home : Home) → 0 < length homes
    → (let at = home_at (length homes) prints count in
    Tells home (tag_of (get_or prints count 0)) → ((tag : ℕ) → Tells (get_or homes at no_home) tag → Tells home tag)
    → ((number : ℕ) → number < count
    → Tells (get_or homes (home_at (length homes) prints number) no_home) (tag_of (get_or prints number 0)))
    → (number : ℕ) → number < count + 1
    → Tells (get_or (set homes at home) (home_at (length homes) prints number) no_home) (tag_of (get_or prints number 0)))
told_more count prints homes home some its others told number below =
    let many = length homes in
    let at = home_at many prints count in
    let within : at < many = home_within (get_or prints count 0) many some in
    elim (cases_eq number count) [
      | inl e ↦ rw (e, get_or-set_same homes at home no_home within) its
      | inr apart ↦
          let low : number < count = omega (arith, below, apart) in
          elim (cases_eq (home_at many prints number) at) [
            | inl e ↦ rw (e, get_or-set_same homes at home no_home within)
                (others (tag_of (get_or prints number 0)) (rw e at (told number low)))
            | inr differs ↦ rw (get_or-set_other homes at (home_at many prints number) home no_home differs) (told number low)
          ]
    ]

-- the next link is put in its chain
pub link_put : (links : List Link) (homes : List Home) (number at : ℕ) (home : Home) → number < length links → 0 < length homes
    → at ≡ home_of (get_or links number no_link).print (length homes) → home.last ≡ number + 1
    → Tells home (tag_of (get_or links number no_link).print) → ((tag : ℕ) → Tells (get_or homes at no_home) tag → Tells home tag)
    → LinksAreChained number links homes
    → LinksAreChained (number + 1) (set links number (with_before links number (get_or homes at no_home).last)) (set homes at home)
link_put links homes number at home low some is last its others are =
    let ends = lasts_of homes in
    let prints = prints_of links in
    let before = (get_or homes at no_home).last in
    let many : length ends ≡ length homes = length-map homes (λ home. home.last) in
    let print : get_or prints number 0 ≡ (get_or links number no_link).print = get_or-map (λ link. link.print) links number no_link in
    let there : at ≡ home_at (length homes) prints number = is ∙ ap (λ print. home_of print (length homes)) (sym print) in
    let more = chained_more number prints (before_of links) ends (rw length-map low) (rw many some) are.chained in
    let was : get_or ends at 0 ≡ before = get_or-map (λ home. home.last) homes at no_home in
    record {
      chained = rw (
        prints_kept links number before,
        map-set (λ link. link.before) links number (with_before links number before),
        map-set (λ home. home.last) homes at home,
        last,
        ← was,
        there,
        ← many,
      ) more;
      told = rw (prints_kept links number before, length-set homes at home)
          (λ other below. rw there (told_more number prints homes home some (rw print its) (rw there at others) are.told other below));
    }

-- a link more that isn't in its chain yet
pub link_pushed : (links : List Link) (homes : List Home) (print : ℕ) → LinksAreChained (length links) links homes
    → LinksAreChained (length links) (links ++ record { print = print; before = 0 } ∷ []) homes
link_pushed links homes print are =
    let more : List Link = record { print = print; before = 0 } ∷ [] in
    let prints = prints_of links in
    record {
      chained = rw (map-append (λ link. link.print) links more, map-append (λ link. link.before) links more)
          (chained_pushed (length links) prints (before_of links) (lasts_of homes) print (rw length-map (omega arith))
          (rw length-map (omega arith)) are.chained);
      told = λ number low. rw (map-append (λ link. link.print) links more, get_push prints print number (rw length-map low))
          (are.told number low);
    }
