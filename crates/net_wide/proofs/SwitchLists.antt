-- The switches of packets, in ascending order and by number.
use Rattle.std.proofs.Common.{◌≡◌, ℕ, true, false, ◌||◌, Bool, ◌==◌, List, [], ◌∷◌, map, slice_index, refl, sym, ap, ◌∙◌, subst}
use Rattle.std.proofs.lemmas.{Bool.true≢false, Cmp.{nat_list_cmp_total, tied_itself}}
use Rattle.std.specs.{declared.cmp.Ordering.TheVariants.{Less, Equal}, List.list_any}
use Rattle.epoch_model.specs.Keys.{Key, key_eq, key_cmp, has, ascending, AreAbove, IsAscending}
use Rattle.epoch_model.proofs.{KeyLists.{by_test, key_eq-true, key_eq-refl}, KeyOrder.{ascending-ascends, has-ascending}}
use Rattle.additive_laws.{specs.TraceLaws.{has_number, AreApart}, proofs.Counts.{both_fail, either, same_number, own_number}}
use Rattle.net_wide.specs.{NetTables.{switch_in, switches}, NetEnds.{IsSeen, AreSwitchesNumbered}}

less_equal : Less ≡ Equal → ⊥
less_equal e = cc

cmp_itself : (a : Key) → key_cmp a a ≡ Equal
unfolding key_cmp
cmp_itself a = tied_itself nat_list_cmp_total a

not_above : (key : Key) (keys : List Key) → AreAbove key keys → has key keys ≡ false
not_above _ [] _ = refl
not_above key (other ∷ keys) above = by_test (key_eq other key)
    (λ t. absurd (less_equal (sym above.0 ∙ (ap (key_cmp key) (key_eq-true other key t) ∙ cmp_itself key))))
    (λ t. either (key_eq other key) (has key keys) t (not_above key keys above.1))

-- a switch as a key
abbrev pub single : ℕ → Key
single s = s ∷ []

abbrev keyed : List (List ℕ) → List Key
keyed packets = map (λ words. single (switch_in words)) packets

abbrev pub first : Key → ℕ
first key = slice_index key 0

single_eq : (a b : ℕ) → key_eq (single a) (single b) ≡ (a == b)
single_eq a b = by_test (a == b)
    (λ t. rw (subst (λ n. key_eq (single a) (single n) ≡ true) (same_number a b t) (key_eq-refl (single a)), t))
    (λ t. by_test (key_eq (single a) (single b))
    (λ u. absurd (true≢false (sym (own_number b) ∙ (ap (λ n. n == b) (sym (ap first (key_eq-true (single a) (single b) u))) ∙ t))))
    (λ u. rw (u, t)))

has_seen : (s : ℕ) (packets : List (List ℕ)) → has (single s) (keyed packets) ≡ list_any (λ words. switch_in words == s) packets
has_seen s [] = refl
has_seen s (words ∷ packets) =
    rw (single_eq (switch_in words) s, has_seen s packets)

-- a key of the list is a switch of the packets
pub record IsOne (packets : List (List ℕ)) (key : Key) : Type 0 where
  pub switch : ℕ
  pub is : key ≡ single switch
  pub seen : IsSeen switch packets

abbrev pub AreOnes : List (List ℕ) → List Key → Type 0
AreOnes packets keys = (key : Key) → has key keys ≡ true → IsOne packets key

keyed_ones : (all packets : List (List ℕ)) → ((s : ℕ) → IsSeen s packets → IsSeen s all) → AreOnes all (keyed packets)
keyed_ones _ [] _ _ h = absurd (true≢false (sym h))
keyed_ones all (words ∷ packets) sub key h = by_test (key_eq (single (switch_in words)) key)
    (λ t. record {
      switch = switch_in words;
      is = sym (key_eq-true (single (switch_in words)) key t);
      seen = sub (switch_in words) (rw (own_number (switch_in words)));
    })
    (λ t. keyed_ones all packets (λ s seen. sub s (or_right (switch_in words == s) (list_any (λ ws. switch_in ws == s) packets) seen)) key
    (sym (ap (λ b. b || has key (keyed packets)) t) ∙ h))
  where
    or_right : (a b : Bool) → b ≡ true → (a || b) ≡ true
    or_right true b e = refl
    or_right false b e = e

abbrev pub keys_of : List (List ℕ) → List Key
keys_of packets = ascending (keyed packets)

pub ones : (packets : List (List ℕ)) → AreOnes packets (keys_of packets)
ones packets key h = keyed_ones packets packets (λ s seen. seen) key (sym (has-ascending key (keyed packets)) ∙ h)

pub ones_rest : (packets : List (List ℕ)) (key : Key) (keys : List Key) → AreOnes packets (key ∷ keys) → AreOnes packets keys
ones_rest _ key keys o other h = o other (or_has (key_eq key other) (has other keys) h)
  where
    or_has : (a b : Bool) → b ≡ true → (a || b) ≡ true
    or_has true b e = refl
    or_has false b e = e

pub one_first : (packets : List (List ℕ)) (key : Key) (keys : List Key) → AreOnes packets (key ∷ keys) → IsOne packets key
one_first _ key keys o = o key (rw (key_eq-refl key))

module _ (packets : List (List ℕ)) (number : ℕ → ℕ) where
  not_in : AreSwitchesNumbered number packets → (s : ℕ) → IsSeen s packets → (keys : List Key) → AreOnes packets keys
      → has (single s) keys ≡ false
      → has_number (number s) (map number (map first keys)) ≡ false
  not_in _ s _ [] o h = refl
  not_in numbered s seen (key ∷ keys) o h =
      let both = both_fail (key_eq key (single s)) (has (single s) keys) h in
      let one = one_first packets key keys o in
      let head : first key ≡ one.switch = ap first one.is in
      either (number (first key) == number s) (has_number (number s) (map number (map first keys)))
      (by_test (number (first key) == number s)
      (λ t. let same : one.switch ≡ s = numbered one.switch s one.seen seen
      (ap number (sym head) ∙ same_number (number (first key)) (number s) t) in
      absurd (true≢false (sym (key_eq-refl (single s)) ∙ (ap (λ k. key_eq k (single s)) (sym (one.is ∙ ap single same)) ∙ both.0))))
      (λ t. t))
      (not_in numbered s seen keys (ones_rest packets key keys o) both.1)

  pub apart : AreSwitchesNumbered number packets → (keys : List Key) → IsAscending keys → AreOnes packets keys
      → AreApart (map number (map first keys))
  apart _ [] _ o = tt
  apart numbered (key ∷ keys) ascends o =
      let one = one_first packets key keys o in (
        rw one.is (not_in numbered one.switch one.seen keys (ones_rest packets key keys o)
            (subst (λ k. has k keys ≡ false) one.is (not_above key keys ascends.0))),
        apart numbered keys ascends.1 (ones_rest packets key keys o),
      )

  in_keys : (k s : ℕ) (keys : List Key) → has (single s) keys ≡ true → has_number k (map number (map first keys)) ≡ false
      → (number s == k) ≡ false
  in_keys k s [] h _ = absurd (true≢false (sym h))
  in_keys k s (key ∷ keys) h none =
      let both = both_fail (number (first key) == k) (has_number k (map number (map first keys))) none in
      by_test (key_eq key (single s))
      (λ t. ap (λ n. number n == k) (sym (ap first (key_eq-true key (single s) t))) ∙ both.0)
      (λ t. in_keys k s keys (sym (ap (λ b. b || has (single s) keys) t) ∙ h) both.1)

  -- a number that no switch of the packets has
  pub no_number : (k s : ℕ) → IsSeen s packets → has_number k (map number (switches packets)) ≡ false → (number s == k) ≡ false
  no_number k s seen none = in_keys k s (keys_of packets) (rw (has-ascending (single s) (keyed packets), has_seen s packets, seen)) none

  pub all_apart : AreSwitchesNumbered number packets → AreApart (map number (switches packets))
  all_apart numbered = apart numbered (keys_of packets) (ascending-ascends (keyed packets)) (ones packets)
