-- What is taken of the packets of one switch is what is taken of all packets, where the packet is of that switch.
use Rattle.std.proofs.Common.{◌≡◌, ℕ, suc, ◌+◌, ◌-◌, ◌<◌, Bool, true, false, ◌==◌, List, [], ◌∷◌, ◌++◌, length, map, filter, get_or, Option}
use Rattle.std.proofs.{Common.{Some, None, refl, sym, ap, ◌∙◌, arith}, lemmas.List.Elements.All-filter}
use Rattle.std.specs.Prelude.{slice_get, option_map}
use Rattle.marple_base.specs.declared.field.TheConstants.{FIELDS}
use Rattle.epoch_model.{specs.{Epochs.Use, Driving.{Taken, use_at, uses_taken}}, proofs.KeyLists.by_test}
use Rattle.query_lang.specs.Streams.{Taking, takings}
use Rattle.stage_plan.specs.Uses.{taken_by, uses}
use Rattle.stage_plan.proofs.StreamRows as packetwise
use Rattle.net_wide.specs.{NetTables.{switch_in, packets_at, uses_at}, NetLaws.{switch_of, taken_in, UsesAreTheSwitchs}}

module _ (take : List ℕ → Option Taken) (s : ℕ) (all : List (List ℕ)) where
  abbrev is_here : Use → Bool
  is_here u = switch_of all u.packet == s

  -- the packets from this place on, of which the first has the next number
  kept : (n k : ℕ) (packets : List (List ℕ)) → ((j : ℕ) → j < length packets → get_or all (k + j) [] ≡ get_or packets j [])
      → map taken_in (uses_taken n (map take (packets_at s packets))) ≡ map taken_in
      (filter is_here (uses_taken (suc k) (map take packets)))
  kept n k [] h = refl
  kept n k (words ∷ packets) h = by_test (switch_in words == s)
      (λ e. let t : (switch_of all (suc k) == s) ≡ true = ap (λ x. x == s) here
      ∙ e in rw e (own t (take words) (kept (suc n) (suc k) packets later)))
      (λ e. let t : (switch_of all (suc k) == s) ≡ false = ap (λ x. x == s) here
      ∙ e in rw e (other t (take words) (kept n (suc k) packets later)))
    where
      here : switch_of all (suc k) ≡ switch_in words
      here = ap (λ j. switch_in (get_or all j [])) (let same : suc k - 1 ≡ k + 0 = omega arith in same) ∙ ap switch_in (h 0 (omega arith))

      later : (j : ℕ) → j < length packets → get_or all (suc k + j) [] ≡ get_or packets j []
      later j lt = ap (λ z. get_or all z []) (let same : suc k + j ≡ k + suc j = omega arith in same) ∙ h (suc j) (omega arith)

      own : (switch_of all (suc k) == s) ≡ true → (o : Option Taken)
          → map taken_in (uses_taken (suc n) (map take (packets_at s packets))) ≡ map taken_in
          (filter is_here (uses_taken (suc (suc k)) (map take packets)))
          → map taken_in (use_at n o ++ uses_taken (suc n) (map take (packets_at s packets))) ≡ map taken_in
          (filter is_here (use_at (suc k) o ++ uses_taken (suc (suc k)) (map take packets)))
      own e None h = h
      own e (Some t) h = rw e (rw h)

      other : (switch_of all (suc k) == s) ≡ false → (o : Option Taken)
          → map taken_in (uses_taken n (map take (packets_at s packets))) ≡ map taken_in
          (filter is_here (uses_taken (suc (suc k)) (map take packets)))
          → map taken_in (uses_taken n (map take (packets_at s packets))) ≡ map taken_in
          (filter is_here (use_at (suc k) o ++ uses_taken (suc (suc k)) (map take packets)))
      other e None h = h
      other e (Some t) h = rw e h

pub uses_of_one : UsesAreTheSwitchs
uses_of_one q i packets s whole = go (slice_get (takings q.streams) i) refl
  where
    go : (o : Option Taking) → slice_get (takings q.streams) i ≡ o
        → map taken_in (uses_at q i packets s) ≡ map taken_in (filter (λ u. switch_of packets u.packet == s) (uses q i packets))
    go None e =
        ap (λ o. map taken_in (taken_by q (packets_at s packets) o)) e
        ∙ ap (λ o. map taken_in (filter (λ u. switch_of packets u.packet == s) (taken_by q packets o))) (sym e)
    go (Some t) e =
        let take : List ℕ → Option Taken = λ words. option_map (packetwise.row_taken t)
        (packetwise.row_at (packetwise.all_rows q words) t.input) in
        rw (
          packetwise.uses_are q i t take e (λ words size. refl) (packets_at s packets)
              (All-filter (λ words. switch_in words == s) (λ words. length words ≡ FIELDS) packets whole),
          kept take s packets 1 0 packets
              (λ j lt. ap (λ z. get_or packets z []) (let same : 0 + j ≡ j = omega arith in same)),
          packetwise.uses_are q i t take e
              (λ words size. refl) packets whole,
        )
