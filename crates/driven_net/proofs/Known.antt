-- Switches that are known, by number.
use Rattle.std.proofs.Common.{◌≡◌, ◌≢◌, ℕ, suc, ◌<◌, ◌≤◌, Bool, true, false, ◌||◌, ◌==◌, nat_lt, List, [], ◌∷◌, ◌++◌, length, slice_index}
use Rattle.std.proofs.{Common.{◌⊎◌, inl, inr, Option, Some, None, refl, sym, ap, ◌∙◌, subst, arith, length-append}, lemmas.Bool.true≢false}
use Rattle.std.{proofs.lemmas.Bool.Decides.nat_tests, specs.{Prelude.slice_get, List.list_any}}
use Rattle.epoch_model.{specs.Driving.Taken, proofs.KeyLists.by_test}
use Rattle.additive_laws.proofs.Counts.{same_number, own_number}
use Rattle.net_wide.specs.{NetTables.switch_in, Numbering.{place_among, switch_number, with_switch}}
use Rattle.net_wide.specs.NetEnds.{IsSeen, AreSwitchesNumbered, net_steps}

place_of : (known : List ℕ) (s : ℕ) → place_among known s < length known → slice_index known (place_among known s) ≡ s
place_of [] s h = absurd (omega arith)
place_of (other ∷ known) s h = by_test (other == s)
    (λ t. rw t (same_number other s t))
    (λ t. let less : suc (place_among known s) < suc (length known) = rw t at h in rw t (place_of known s (omega arith)))

-- a number of a known switch is that of no other
pub place_tells : (known : List ℕ) (a b : ℕ) → place_among known b < length known → place_among known a ≡ place_among known b → a ≡ b
place_tells known a b h e = sym (place_of known a (subst (λ n. n < length known) (sym e) h))
    ∙ (ap (slice_index known) e ∙ place_of known b h)

pub numbered : (known : List ℕ) (packets : List (List ℕ)) → ((s : ℕ) → IsSeen s packets → place_among known s < length known)
    → AreSwitchesNumbered (place_among known) packets
numbered known packets h a b sa sb e = place_tells known a b (h b sb) e

place_within : (known : List ℕ) (s : ℕ) → place_among known s ≤ length known
place_within [] s = omega arith
place_within (other ∷ known) s = let r = place_within known s in by_test (other == s) (λ t. rw t (omega arith)) (λ t. rw t (omega arith))

pub place_after : (known : List ℕ) (s t : ℕ) → place_among known t < length known → place_among (known ++ s ∷ []) t ≡ place_among known t
place_after [] s t h = absurd (omega arith)
place_after (other ∷ known) s t h = by_test (other == t)
    (λ e. rw e refl)
    (λ e. let less : suc (place_among known t) < suc (length known) = rw e at h in rw e
    (ap (λ n. suc n) (place_after known s t (omega arith))))

place_new : (known : List ℕ) (s : ℕ) → place_among known s ≡ length known → place_among (known ++ s ∷ []) s ≡ length known
place_new [] s e = let t : (s == s) ≡ true = own_number s in rw t refl
place_new (other ∷ known) s e = by_test (other == s)
    (λ t. let wrong : 0 ≡ suc (length known) = rw t at e in absurd (omega arith))
    (λ t. let same : suc (place_among known s) ≡ suc (length known) = rw t at e in rw t (ap (λ n. suc n) (place_new known s (omega arith))))

some_same : (a b : ℕ) → Some a ≡ Some b → a ≡ b
some_same a b e = cc

-- what a switch's number says
pub number_is : (known : List ℕ) (s at : ℕ) → switch_number known s ≡ Some at → (place_among known s ≡ at) × (at < 64)
number_is known s at e = by_test (nat_lt (place_among known s) 64)
    (λ t. let same : Some (place_among known s) ≡ Some at = rw t at e in let is =
    some_same (place_among known s) at same in (is, grind (arith, nat_tests)))
    (λ t. let wrong : None ≡ Some at = rw t at e in cc)

-- a known switch changes nothing
pub known_same : (known : List ℕ) (s : ℕ) → place_among known s ≢ length known → with_switch known s ≡ known
known_same known s d = let w = place_within known s in let t : nat_lt (place_among known s) (length known) ≡ true =
    grind (arith, nat_tests) in rw t refl

-- a new one goes last
pub known_more : (known : List ℕ) (s : ℕ) → place_among known s ≡ length known → length known < 64 → with_switch known s ≡ known ++ s ∷ []
known_more known s e few =
    let t : nat_lt (place_among known s) (length known) ≡ false = grind (arith, nat_tests) in
    let u : nat_lt (length known) 64 ≡ true = grind (arith, nat_tests) in
    rw t (rw u refl)

-- then the switch has this number
pub number_stays : (known : List ℕ) (s at : ℕ) → switch_number known s ≡ Some at → (place_among (with_switch known s) s ≡ at)
    × (at < length (with_switch known s))
number_stays known s at e =
    let is = number_is known s at e in
    by_test (nat_lt (place_among known s) (length known))
    (λ t. let same = known_same known s (λ w. (let l : place_among known s < length known = grind (arith, nat_tests) in omega arith)) in
    let l : place_among known s < length known = grind (arith, nat_tests) in
    (ap (λ ks. place_among ks s) same ∙ is.0, subst (λ ks. at < length ks) (sym same) (let a = is.0 in omega arith)))
    (λ t. let w = place_within known s in
    let g : length known ≤ place_among known s = grind (arith, nat_tests) in
    let last : place_among known s ≡ length known = omega arith in
    let more = known_more known s last (let a = is.0 in let b = is.1 in omega arith) in
    let long = length-append known (s ∷ []) in (
      ap (λ ks. place_among ks s) more ∙ (place_new known s last ∙ (sym last ∙ is.0)),
      subst (λ ks. at < length ks) (sym more)
          (let a = is.0 in omega arith),
    ))

-- packets that are seen

or_right : (a b : Bool) → b ≡ true → (a || b) ≡ true
or_right true b e = refl
or_right false b e = e

pub seen_more : (words : List ℕ) (packets : List (List ℕ)) (s : ℕ) → IsSeen s packets → IsSeen s (words ∷ packets)
seen_more words packets s seen = or_right (switch_in words == s) (list_any (λ ws. switch_in ws == s) packets) seen

pub seen_first : (words : List ℕ) (packets : List (List ℕ)) → IsSeen (switch_in words) (words ∷ packets)
seen_first words packets = ap (λ b. b || list_any (λ ws. switch_in ws == switch_in words) packets) (own_number (switch_in words))

pub seen_last : (packets : List (List ℕ)) (words : List ℕ) (s : ℕ) → IsSeen s (packets ++ words ∷ [])
    → IsSeen s packets ⊎ (switch_in words ≡ s)
seen_last [] words s h = by_test (switch_in words == s)
    (λ t. inr (same_number (switch_in words) s t))
    (λ t. absurd (true≢false (sym h ∙ ap (λ b. b || false) t)))
seen_last (one ∷ packets) words s h = by_test (switch_in one == s)
    (λ t. inl (ap (λ b. b || list_any (λ ws. switch_in ws == s) packets) t))
    (λ t. elim (seen_last packets words s (sym (ap (λ b. b || list_any (λ ws. switch_in ws == s) (packets ++ words ∷ [])) t) ∙ h)) [
      | inl seen ↦ inl (seen_more one packets s seen)
      | inr same ↦ inr same
    ])

pub steps_same : (number other : ℕ → ℕ) (take : List ℕ → Option Taken) (packets : List (List ℕ))
    → ((s : ℕ) → IsSeen s packets → number s ≡ other s)
    → net_steps number take packets ≡ net_steps other take packets
steps_same number other take [] h = refl
steps_same number other take (words ∷ packets) h =
    ap (λ n. record { switch = n; taken = take words } ∷ net_steps number take packets) (h (switch_in words) (seen_first words packets))
    ∙ ap (λ ss. record { switch = other (switch_in words); taken = take words } ∷ ss)
    (steps_same number other take packets (λ s seen. h s (seen_more words packets s seen)))

-- the switch that a packet's words have
pub switch_is : (words : List ℕ) (found : ℕ) → slice_get words 0 ≡ Some found → found ≡ switch_in words
switch_is [] found e = cc
switch_is (w ∷ words) found e = sym (some_same w found e)
