-- Lists of a network's events.
use Rattle.std.proofs.Common.{◌≡◌, ℕ, zero, suc, nat_lt, List, [], ◌∷◌, ◌++◌, length, replicate, Option, Some, None, refl, sym, ◌∙◌}
use Rattle.epoch_model.{specs.Machine.{Event, Packet, Evict, Merge}, proofs.KeyLists.by_test}
use Rattle.epoch_entry.specs.declared.any.AnyEpochs.{AnyEpochs}
use Rattle.switch_core.specs.FrontParts.{FrontOf}
use Rattle.switch_core.specs.declared.upkeep.Upkeep.TheVariants as due
use Rattle.network.specs.{Ends.{AreAtTheirSwitches, NoEviction, packets_taken}, Events.upkeep_in, Networks.NetworkView, Running.Evicts}
use Rattle.network.specs.Running.{Merges, NetworkEvent, Takes, all_evictions, calls_of, front_at, joined_below, lane_calls, upkeep_calls}
use Rattle.network.{specs.Running.without_merges, proofs.Runs.without_on}

-- ---- some events and then others

pub taken_on : (xs ys : List NetworkEvent) → packets_taken (xs ++ ys) ≡ packets_taken xs ++ packets_taken ys
taken_on [] _ = refl
taken_on (Takes _ words ∷ xs) ys = rw (taken_on xs ys)
taken_on (Evicts _ _ _ ∷ xs) ys = taken_on xs ys
taken_on (Merges _ _ ∷ xs) ys = taken_on xs ys

pub theirs_on : (number : ℕ → ℕ) (xs ys : List NetworkEvent) → AreAtTheirSwitches number xs → AreAtTheirSwitches number ys
    → AreAtTheirSwitches number (xs ++ ys)
theirs_on _ [] _ a b = b
theirs_on number (Takes _ _ ∷ xs) ys a b = (a.0, theirs_on number xs ys a.1 b)
theirs_on number (Evicts _ _ _ ∷ xs) ys a b = theirs_on number xs ys a b
theirs_on number (Merges _ _ ∷ xs) ys a b = theirs_on number xs ys a b

pub first_theirs : (number : ℕ → ℕ) (xs ys : List NetworkEvent) → AreAtTheirSwitches number (xs ++ ys) → AreAtTheirSwitches number xs
first_theirs _ [] _ at = tt
first_theirs number (Takes _ _ ∷ xs) ys at = (at.0, first_theirs number xs ys at.1)
first_theirs number (Evicts _ _ _ ∷ xs) ys at = first_theirs number xs ys at
first_theirs number (Merges _ _ ∷ xs) ys at = first_theirs number xs ys at

pub none_on : (xs ys : List NetworkEvent) → NoEviction xs → NoEviction ys → NoEviction (xs ++ ys)
none_on [] _ a b = b
none_on (Takes _ _ ∷ xs) ys a b = none_on xs ys a b
none_on (Evicts _ _ _ ∷ _) _ a b = absurd a
none_on (Merges _ _ ∷ xs) ys a b = none_on xs ys a b

-- ---- events that take no packet

pub taken_unmerged : (xs : List NetworkEvent) → packets_taken xs ≡ packets_taken (without_merges xs)
taken_unmerged [] = refl
taken_unmerged (Takes _ words ∷ xs) = rw (taken_unmerged xs)
taken_unmerged (Evicts _ _ _ ∷ xs) = taken_unmerged xs
taken_unmerged (Merges _ _ ∷ xs) = taken_unmerged xs

pub theirs_none : (number : ℕ → ℕ) (xs : List NetworkEvent) → packets_taken xs ≡ [] → AreAtTheirSwitches number xs
theirs_none _ [] _ = tt
theirs_none number (Takes switch words ∷ xs) none = cc
theirs_none number (Evicts _ _ _ ∷ xs) none = theirs_none number xs none
theirs_none number (Merges _ _ ∷ xs) none = theirs_none number xs none

none_below : (lists : ℕ → List NetworkEvent) → ((i : ℕ) → packets_taken (lists i) ≡ []) → (n : ℕ)
    → packets_taken (joined_below n lists) ≡ []
none_below _ _ zero = refl
none_below lists none (suc n) =
    rw (taken_on (joined_below n lists) (lists n), none_below lists none n, none n)

calls_none : (at lane : ℕ) (events : List Event) → packets_taken (calls_of at lane events) ≡ []
calls_none at _ [] = refl
calls_none at lane (Packet _ _ ∷ events) = calls_none at lane events
calls_none at lane (Evict _ ∷ events) = calls_none at lane events
calls_none at lane (Merge ∷ events) = calls_none at lane events

-- evictions of all caches take no packet
pub evictions_take_none : (net : NetworkView) → packets_taken (all_evictions net) ≡ []
evictions_take_none net = none_below (λ at. without_merges (upkeep_calls at due.Sweep net)) (λ at.
    sym (taken_unmerged (upkeep_calls at due.Sweep net))
    ∙ none_below (lane_calls at due.Sweep net) (λ lane. calls_none at lane (upkeep_in due.Sweep (front_at net lane at)))
    (length net.groups)) net.switches

-- ---- merges alone

without_below : (lists : ℕ → List NetworkEvent) → ((i : ℕ) → without_merges (lists i) ≡ []) → (n : ℕ)
    → without_merges (joined_below n lists) ≡ []
without_below _ _ zero = refl
without_below lists none (suc n) =
    rw (without_on (joined_below n lists) (lists n), without_below lists none n, none n)

room_alone : (at lane : ℕ) (o : Option (FrontOf AnyEpochs)) → without_merges (calls_of at lane (upkeep_in due.Room o)) ≡ []
room_alone at _ None = refl
room_alone at _ (Some front) = by_test (nat_lt (length front.pipe.records) front.pipe.places) (λ t. rw t) (λ t. rw t)

lag_alone : (at lane : ℕ) (o : Option (FrontOf AnyEpochs)) → without_merges (calls_of at lane (upkeep_in due.Lag o)) ≡ []
lag_alone at _ None = refl
lag_alone at _ (Some _) = refl

rest_alone : (at lane : ℕ) (o : Option (FrontOf AnyEpochs)) → without_merges (calls_of at lane (upkeep_in due.Rest o)) ≡ []
rest_alone at _ None = refl
rest_alone at lane (Some front) = merges (length front.pipe.records)
  where
    merges : (n : ℕ) → without_merges (calls_of at lane (replicate n Merge)) ≡ []
    merges zero = refl
    merges (suc n) = merges n

pub room_is_merges : (at : ℕ) (net : NetworkView) → without_merges (upkeep_calls at due.Room net) ≡ []
room_is_merges at net = without_below (lane_calls at due.Room net) (λ lane. room_alone at lane (front_at net lane at)) (length net.groups)

pub lag_is_merges : (at : ℕ) (net : NetworkView) → without_merges (upkeep_calls at due.Lag net) ≡ []
lag_is_merges at net = without_below (lane_calls at due.Lag net) (λ lane. lag_alone at lane (front_at net lane at)) (length net.groups)

pub rest_is_merges : (at : ℕ) (net : NetworkView) → without_merges (upkeep_calls at due.Rest net) ≡ []
rest_is_merges at net = without_below (lane_calls at due.Rest net) (λ lane. rest_alone at lane (front_at net lane at)) (length net.groups)

pub merges_take_none : (xs : List NetworkEvent) → without_merges xs ≡ [] → packets_taken xs ≡ []
merges_take_none xs alone = rw (taken_unmerged xs, alone)

pub merges_evict_none : (xs : List NetworkEvent) → without_merges xs ≡ [] → NoEviction xs
merges_evict_none [] _ = tt
merges_evict_none (Takes switch words ∷ xs) alone = cc
merges_evict_none (Evicts switch lane bucket ∷ xs) alone = cc
merges_evict_none (Merges _ _ ∷ xs) alone = merges_evict_none xs alone
