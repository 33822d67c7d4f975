-- The merged epochs of a key, switch by switch.
use Rattle.std.proofs.Common.{◌≡◌, ◌≢◌, ℕ, ◌+◌, Bool, true, false, not, ◌||◌, ◌==◌, List, [], ◌∷◌, ◌++◌, length, filter, flat_map, refl}
use Rattle.std.proofs.{Common.{sym, ap, ◌∙◌, subst, arith, append-nil, length-append}, lemmas.Bool.{true≢false, false≢true}}
use Rattle.std.proofs.lemmas.Bool.Decides.{nat_tests}
use Rattle.epoch_model.{specs.{Keys.{Key, ArgRow}, Machine.{is_of, lists_of}}, proofs.KeyLists.by_test}
use Rattle.additive_laws.specs.Network.{SwitchEpoch, all_epochs, epochs_at}
use Rattle.additive_laws.specs.TraceLaws.{has_number, AreApart, AreSwitchesOf, EpochsAddUp, EpochsOfOneSwitch}

-- neither of two tests passes
pub both_fail : (a b : Bool) → (a || b) ≡ false → (a ≡ false) × (b ≡ false)
both_fail true b e = absurd (true≢false e)
both_fail false b e = (refl, e)

pub either : (a b : Bool) → a ≡ false → b ≡ false → (a || b) ≡ false
either true b e h = e
either false b e h = h

pub same_number : (a b : ℕ) → (a == b) ≡ true → a ≡ b
same_number a b t = grind (arith, nat_tests)

pub own_number : (a : ℕ) → (a == a) ≡ true
own_number a = grind (arith, nat_tests)

pub not_number : (a b : ℕ) → (a == b) ≡ false → a ≢ b
not_number a b t e = true≢false (sym (own_number b) ∙ (ap (λ n. n == b) (sym e) ∙ t))

turned : (a b : ℕ) → (a == b) ≡ false → (b == a) ≡ false
turned a b t = by_test (b == a) (λ u. absurd (not_number a b t (sym (same_number b a u)))) (λ u. u)

-- an empty list has no first element
not_empty : {A : Type 0} {x : A} {xs : List A} → x ∷ xs ≡ [] → ⊥
not_empty e = cc

module _ (key : Key) where
  abbrev own : List SwitchEpoch → ℕ → List (List ArgRow)
  own merged s = lists_of key (epochs_at s merged)

  -- the epochs of other switches
  abbrev apart_from : ℕ → List SwitchEpoch → List SwitchEpoch
  apart_from s merged = filter (λ e. not (e.switch == s)) merged

  split_count : (s : ℕ) (merged : List SwitchEpoch) → length (lists_of key (all_epochs merged)) ≡ length (own merged s)
      + length (lists_of key (all_epochs (apart_from s merged)))
  split_count s [] = refl
  split_count s (e ∷ merged) = let h = split_count s merged in by_test (e.switch == s)
      (λ t. by_test (is_of key e.epoch) (λ u. rw (t, u) (omega (arith, h))) (λ u. rw (t, u) h))
      (λ t. by_test (is_of key e.epoch) (λ u. rw (t, u) (omega (arith, h))) (λ u. rw (t, u) h))

  own_gone : (s : ℕ) (merged : List SwitchEpoch) → own (apart_from s merged) s ≡ []
  own_gone s [] = refl
  own_gone s (e ∷ merged) = by_test (e.switch == s) (λ t. rw t (own_gone s merged)) (λ t. rw t (rw t (own_gone s merged)))

  own_kept : (s k : ℕ) (merged : List SwitchEpoch) → (k == s) ≡ false → own (apart_from s merged) k ≡ own merged k
  own_kept s k [] d = refl
  own_kept s k (e ∷ merged) d = by_test (e.switch == s)
      (λ t. let other : (e.switch == k) ≡ false = ap (λ n. n == k) (same_number e.switch s t)
      ∙ turned k s d in rw (t, other) (own_kept s k merged d)) (λ t. rw t (by_test (e.switch == k)
      (λ u. rw u (by_test (is_of key e.epoch) (λ v. rw v (ap (λ ls. e.epoch.rows ∷ ls) (own_kept s k merged d)))
      (λ v. rw v (own_kept s k merged d)))) (λ u. rw u (own_kept s k merged d))))

  -- the switch of an epoch that is of the key
  first_of : (e : SwitchEpoch) (merged : List SwitchEpoch) → is_of key e.epoch ≡ true → own (e ∷ merged) e.switch ≡ e.epoch.rows
      ∷ own merged e.switch
  first_of e merged u = rw (own_number e.switch) (rw u refl)

  none_after : (e : SwitchEpoch) (merged : List SwitchEpoch) (s : ℕ) → own (e ∷ merged) s ≡ [] → own merged s ≡ []
  none_after e merged s h = by_test (e.switch == s) (λ t. by_test (is_of key e.epoch) (λ u. absurd (not_empty (rw u at (rw t at h))))
      (λ u. rw u at (rw t at h))) (λ t. rw t at h)

  all_gone : (merged : List SwitchEpoch) → ((s : ℕ) → own merged s ≡ []) → lists_of key (all_epochs merged) ≡ []
  all_gone [] h = refl
  all_gone (e ∷ merged) h = by_test (is_of key e.epoch) (λ u. absurd (not_empty (sym (first_of e merged u) ∙ h e.switch)))
      (λ u. rw u (all_gone merged (λ s. none_after e merged s (h s))))

  same_lists : (s : ℕ) (merged : List SwitchEpoch) (switches : List ℕ) → has_number s switches ≡ false
      → flat_map (own (apart_from s merged)) switches ≡ flat_map (own merged) switches
  same_lists s merged [] h = refl
  same_lists s merged (k ∷ switches) h =
      let both = both_fail (k == s) (has_number s switches) h in
      ap (λ ls. ls ++ flat_map (own (apart_from s merged)) switches) (own_kept s k merged both.0)
      ∙ ap (λ ls. own merged k ++ ls) (same_lists s merged switches both.1)

  adds_up : (switches : List ℕ) {merged : List SwitchEpoch} → AreSwitchesOf key merged switches
      → length (lists_of key (all_epochs merged)) ≡ length (flat_map (own merged) switches)
  adds_up [] {merged} a = ap length (all_gone merged (λ s. a.others s refl))
  adds_up (s ∷ switches) {merged} a = split_count s merged ∙ (ap (λ n. length (own merged s) + n) (adds_up switches rest
      ∙ ap length (same_lists s merged switches a.apart.0)) ∙ sym (length-append (own merged s) (flat_map (own merged) switches)))
    where
      rest : AreSwitchesOf key (apart_from s merged) switches
      rest = record {
        apart = a.apart.1;
        others = λ k none. by_test (k == s)
            (λ t. subst (λ n. own (apart_from s merged) n ≡ []) (sym (same_number k s t)) (own_gone s merged))
            (λ t. own_kept s k merged t ∙ a.others k (either (s == k) (has_number k switches) (turned k s t) none));
      }

  -- the lists of all epochs are those of the switch, where no other switch has one
  pub of_one : (s : ℕ) (merged : List SwitchEpoch) → ((k : ℕ) → k ≢ s → own merged k ≡ []) → lists_of key (all_epochs merged) ≡ own merged s
  of_one s [] h = refl
  of_one s (e ∷ merged) h =
      let rest = of_one s merged (λ k d. none_after e merged k (h k d)) in
      by_test (e.switch == s) (λ t. by_test (is_of key e.epoch) (λ u. rw t (rw u (ap (λ ls. e.epoch.rows ∷ ls) rest)))
      (λ u. rw t (rw u rest))) (λ t. by_test (is_of key e.epoch)
      (λ u. absurd (not_empty (sym (first_of e merged u) ∙ h e.switch (not_number e.switch s t)))) (λ u. rw t (rw u rest)))

  none_of : (merged : List SwitchEpoch) (switches : List ℕ) {one : ℕ} → ((k : ℕ) → k ≢ one → own merged k ≡ [])
      → has_number one switches ≡ false → flat_map (own merged) switches ≡ []
  none_of merged [] h none = refl
  none_of merged (k ∷ switches) {one} h none =
      let both = both_fail (k == one) (has_number one switches) none in
      ap (λ ls. ls ++ flat_map (own merged) switches) (h k (not_number k one both.0)) ∙ none_of merged switches h both.1

  just_one : (merged : List SwitchEpoch) (switches : List ℕ) {one : ℕ} → AreApart switches → ((k : ℕ) → k ≢ one → own merged k ≡ [])
      → has_number one switches ≡ true → flat_map (own merged) switches ≡ own merged one
  just_one merged [] apart h some = absurd (false≢true some)
  just_one merged (k ∷ switches) {one} apart h some = by_test (k == one) (λ t. let same = same_number k one t in
      ap (λ ls. own merged k ++ ls) (none_of merged switches h (subst (λ n. has_number n switches ≡ false) same apart.0))
      ∙ (append-nil (own merged k) ∙ ap (own merged) same)) (λ t. ap (λ ls. ls ++ flat_map (own merged) switches) (h k (not_number k one t))
      ∙ just_one merged switches apart.1 h (sym (ap (λ b. b || has_number one switches) t) ∙ some))

pub added : EpochsAddUp
added key merged switches a = adds_up key switches a

pub of_one_switch : EpochsOfOneSwitch
of_one_switch key merged switches one a h = of_one key one merged h ∙ by_test (has_number one switches)
    (λ some. sym (just_one key merged switches a.apart h some)) (λ none. a.others one none ∙ sym (none_of key merged switches h none))
