-- What is taken of the packets, switch by switch: the same keys, and the same rows of each key but for their order.
use Rattle.std.proofs.Common.{◌≡◌, ℕ, suc, true, false, ◌==◌, List, [], ◌∷◌, ◌++◌, length, map, slice_index, Option, Some, None, refl, sym}
use Rattle.std.proofs.{Common.{ap, ◌∙◌, arith, if◌then◌else◌}, lemmas.{Bool.Decides.nat_tests, List.Elements.{All-head, All-tail}}}
use Rattle.std.{proofs.lemmas.List.Sorted.length_permutation, specs.List.flat_map}
use Rattle.marple_base.specs.declared.field.TheConstants.{FIELDS}
use Rattle.epoch_model.specs.{Keys.{Key, key_eq, has, ascending}, Epochs.Use, Driving.{Taken, use_at, uses_taken}, Tables.keys_used}
use Rattle.epoch_model.proofs.{KeyLists.by_test, KeyOrder.{ascending-ascends, has-ascending, same_ascending}, TableRows.some}
use Rattle.additive_laws.{specs.Pieces.{Given, all_rows, rows_from}, proofs.{Orders.same_rows, StoreTables.same_some}}
use Rattle.stage_plan.specs.Packets.{AreWhole}
use Rattle.net_wide.specs.{NetTables.{switch_in, packets_at, switches, key_args}, NetLaws.SameOfEachSwitch}

module _ (take : List ℕ → Option Taken) (key : Key) where
  -- what a packet of the switch gives the key
  abbrev pub given_of : ℕ → Option Taken → List Given
  given_of _ None = []
  given_of switch (Some t) = if key_eq t.key key then (record { switch = switch; row = t.row } ∷ []) else []

  abbrev pub given : List (List ℕ) → List Given
  given packets = flat_map (λ words. given_of (switch_in words) (take words)) packets

  pub args_given : (n : ℕ) (packets : List (List ℕ)) → key_args key (uses_taken n (map take packets)) ≡ all_rows (given packets)
  args_given n [] = refl
  args_given n (words ∷ packets) = go (take words) (args_given (suc n) packets)
    where
      go : (o : Option Taken) → key_args key (uses_taken (suc n) (map take packets)) ≡ all_rows (given packets)
          → key_args key (use_at n o ++ uses_taken (suc n) (map take packets)) ≡ all_rows (given_of (switch_in words) o ++ given packets)
      go None h = h
      go (Some t) h = by_test (key_eq t.key key) (λ e. rw e (rw h)) (λ e. rw e h)

  keys_some : (n : ℕ) (packets : List (List ℕ)) → has key (map (λ u. u.key) (uses_taken n (map take packets))) ≡ some
      (all_rows (given packets))
  keys_some n [] = refl
  keys_some n (words ∷ packets) = go (take words) (keys_some (suc n) packets)
    where
      go : (o : Option Taken) → has key (map (λ u. u.key) (uses_taken (suc n) (map take packets))) ≡ some (all_rows (given packets))
          → has key (map (λ (u : Use). u.key) (use_at n o ++ uses_taken (suc n) (map take packets))) ≡ some
          (all_rows (given_of (switch_in words) o ++ given packets))
      go None h = h
      go (Some t) h = by_test (key_eq t.key key) (λ e. rw e) (λ e. rw e h)

  given_from : (s : ℕ) (packets : List (List ℕ)) → rows_from s (given packets) ≡ all_rows (given (packets_at s packets))
  given_from s [] = refl
  given_from s (words ∷ packets) = by_test (switch_in words == s)
      (λ e. rw e (own e (take words) (given_from s packets)))
      (λ e. rw e (other e (take words) ∙ given_from s packets))
    where
      own : (switch_in words == s) ≡ true → (o : Option Taken) → rows_from s (given packets) ≡ all_rows (given (packets_at s packets))
          → rows_from s (given_of (switch_in words) o ++ given packets) ≡ all_rows
          (given_of (switch_in words) o ++ given (packets_at s packets))
      own e None h = h
      own e (Some t) h = by_test (key_eq t.key key) (λ k. rw k (rw e (rw h))) (λ k. rw k h)

      other : (switch_in words == s) ≡ false → (o : Option Taken) → rows_from s (given_of (switch_in words) o ++ given packets) ≡ rows_from
          s (given packets)
      other e None = refl
      other e (Some t) = by_test (key_eq t.key key) (λ k. rw k (rw e)) (λ k. rw k)

  pub same_of_each : (packets other : List (List ℕ)) → SameOfEachSwitch packets other → (s : ℕ)
      → rows_from s (given packets) ≡ rows_from s (given other)
  same_of_each packets other h s = rw (given_from s packets, h s, given_from s other)

  pub same_has : (packets other : List (List ℕ)) → SameOfEachSwitch packets other
      → has key (map (λ u. u.key) (uses_taken 1 (map take packets))) ≡ has key (map (λ u. u.key) (uses_taken 1 (map take other)))
  same_has packets other h =
      keys_some 1 packets
      ∙ (rw (
        same_some (all_rows (given packets)) (all_rows (given other))
            (sym (length_permutation (all_rows (given packets)) (all_rows (given other))
            (same_rows (given packets) (given other) (same_of_each packets other h)))),
        keys_some 1 other,
      ))

  -- where the key gives the switch, all its rows are of that switch
  pub alone : (s : ℕ) → ((words : List ℕ) (t : Taken) → length words ≡ FIELDS → take words ≡ Some t → key_eq t.key key ≡ true
      → switch_in words ≡ s)
      → (packets : List (List ℕ)) → AreWhole packets → all_rows (given packets) ≡ rows_from s (given packets)
  alone s _ [] _ = refl
  alone s tells (words ∷ packets) whole =
      go (take words) refl (alone s tells packets (All-tail (λ w. length w ≡ FIELDS) words packets whole))
    where
      go : (o : Option Taken) → take words ≡ o → all_rows (given packets) ≡ rows_from s (given packets)
          → all_rows (given_of (switch_in words) o ++ given packets) ≡ rows_from s (given_of (switch_in words) o ++ given packets)
      go None e h = h
      go (Some t) e h = by_test (key_eq t.key key)
          (λ k. let same = tells words t (All-head (λ w. length w ≡ FIELDS) words packets whole) e k in
          let is : (switch_in words == s) ≡ true = grind (arith, nat_tests) in
          rw k (rw is (rw h)))
          (λ k. rw k h)

pub same_keys_used : (take : List ℕ → Option Taken) (packets other : List (List ℕ)) → SameOfEachSwitch packets other
    → keys_used (uses_taken 1 (map take packets)) ≡ keys_used (uses_taken 1 (map take other))
same_keys_used take packets other h =
    same_ascending (ascending (used packets)) (ascending (used other)) (ascending-ascends (used packets)) (ascending-ascends (used other))
    (λ k. rw (has-ascending k (used packets), same_has take k packets other h, has-ascending k (used other)))
  where
    used : List (List ℕ) → List Key
    used ps = map (λ u. u.key) (uses_taken 1 (map take ps))

-- the switch alone as a key
abbrev switch_taken : List ℕ → Option Taken
switch_taken words = Some (record { key = switch_in words ∷ []; row = [] })

switch_keys : (n : ℕ) (packets : List (List ℕ)) → map (λ u. u.key) (uses_taken n (map switch_taken packets)) ≡ map
    (λ words. switch_in words ∷ []) packets
switch_keys n [] = refl
switch_keys n (words ∷ packets) = rw (switch_keys (suc n) packets)

pub same_switches : (packets other : List (List ℕ)) → SameOfEachSwitch packets other → switches packets ≡ switches other
same_switches packets other h =
    ap (map (λ key. slice_index key 0))
    (ap ascending (sym (switch_keys 1 packets)) ∙ (same_keys_used switch_taken packets other h ∙ ap ascending (switch_keys 1 other)))
