-- What the events of a trace give each key, and the keys of the merged epochs.
use Rattle.std.proofs.Common.{◌≡◌, ℕ, suc, true, false, ◌==◌, List, [], ◌∷◌, ◌++◌, map, Option, Some, None, refl, sym, ap, ◌∙◌, append-nil}
use Rattle.epoch_model.specs.{Keys.{Key, key_eq, has}, Epochs.Use, Timeline.NoPacket, Laws.rows_given, TableLaws.keys_given}
use Rattle.epoch_model.specs.{Machine.{Event, Packet, Evict, Merge, lists_of}, Driving.{Taken, event_of, use_at, uses_taken}}
use Rattle.epoch_model.proofs.{KeyLists.by_test, TableRows.{given-some, joined-some, same_keys}}
use Rattle.additive_laws.specs.{Pieces.rows_joined, Network.{SwitchEvent, all_events, events_at, all_epochs}, Traces.{Step, from_switch}}
use Rattle.additive_laws.specs.Traces.{given, if_packet, packets_among, taken_of, whole_uses, unless_merge, without_switch_merges}
use Rattle.additive_laws.specs.{Traces.unrefreshed, TraceLaws.{rows_used, RunsGiveTheTrace, RunsHavePackets, MergedKeysAreUsed}}
use Rattle.additive_laws.proofs.{Runs.given_other, StoreTables.{same_some, as_many, pieces}}

-- ---- the packets of a run

packets_on : (xs ys : List SwitchEvent) → packets_among (xs ++ ys) ≡ packets_among xs ++ packets_among ys
packets_on [] ys = refl
packets_on (e ∷ xs) ys = ap (if_packet e.switch e.event) (packets_on xs ys) ∙ after e.switch e.event (packets_among xs) (packets_among ys)
  where
    after : (k : ℕ) (event : Event) (xs ys : List SwitchEvent) → if_packet k event (xs ++ ys) ≡ if_packet k event xs ++ ys
    after k (Packet key row) xs ys = refl
    after k (Evict bucket) xs ys = refl
    after k Merge xs ys = refl

packets_none : (events : List SwitchEvent) → NoPacket (all_events events) → packets_among events ≡ []
packets_none [] n = refl
packets_none (e ∷ events) n = none e.switch e.event events (λ more. packets_none events more) n
  where
    none : (k : ℕ) (event : Event) (events : List SwitchEvent) → (NoPacket (all_events events) → packets_among events ≡ [])
        → NoPacket (event ∷ all_events events) → if_packet k event (packets_among events) ≡ []
    none k (Packet key row) events rest n = absurd n
    none k (Evict bucket) events rest n = rest n
    none k Merge events rest n = rest n

packets_unmerged : (events : List SwitchEvent) → packets_among events ≡ packets_among (without_switch_merges events)
packets_unmerged [] = refl
packets_unmerged (e ∷ events) = ap (if_packet e.switch e.event) (packets_unmerged events)
    ∙ unless e.switch e.event (without_switch_merges events)
  where
    unless : (k : ℕ) (event : Event) (others : List SwitchEvent) → if_packet k event (packets_among others) ≡ packets_among
        (unless_merge k event others)
    unless k (Packet key row) others = refl
    unless k (Evict bucket) others = refl
    unless k Merge others = refl

packets_given : (steps : List Step) → packets_among (given steps) ≡ given steps
packets_given [] = refl
packets_given (one ∷ steps) = step one.switch one.taken (given steps) (packets_given steps)
  where
    step : (k : ℕ) (taken : Option Taken) (more : List SwitchEvent) → packets_among more ≡ more
        → packets_among (from_switch k (event_of taken) ++ more) ≡ from_switch k (event_of taken) ++ more
    step k None more h = h
    step k (Some t) more h = ap (λ es. record { switch = k; event = Packet t.key t.row } ∷ es) h

pub run_has : RunsHavePackets
run_has steps events r = ap packets_among r.parts ∙ (packets_on r.first r.rest
    ∙ (ap (λ es. packets_among r.first ++ es) (packets_none r.rest r.ending) ∙ (append-nil (packets_among r.first)
    ∙ (packets_unmerged r.first ∙ (ap packets_among r.packets ∙ packets_given steps)))))

-- ---- rows

module _ (key : Key) where
  if_rows : (k : ℕ) (event : Event) (events : List Event) (others : List SwitchEvent)
      → rows_given key events ≡ rows_given key (all_events others)
      → rows_given key (event ∷ events) ≡ rows_given key (all_events (if_packet k event others))
  if_rows k (Packet j row) events others h = by_test (key_eq j key) (λ t. rw t (ap (λ rs. row ∷ rs) h)) (λ t. rw t h)
  if_rows k (Evict bucket) events others h = h
  if_rows k Merge events others h = h

  rows_packets : (events : List SwitchEvent) → rows_given key (all_events events) ≡ rows_given key (all_events (packets_among events))
  rows_packets [] = refl
  rows_packets (e ∷ events) = if_rows e.switch e.event (all_events events) (packets_among events) (rows_packets events)

  rows_step : (k n : ℕ) (taken : Option Taken) (events : List SwitchEvent) (uses : List Use)
      → rows_given key (all_events events) ≡ rows_used key uses
      → rows_given key (all_events (from_switch k (event_of taken) ++ events)) ≡ rows_used key (use_at n taken ++ uses)
  rows_step k n None events uses h = h
  rows_step k n (Some one) events uses h = by_test (key_eq one.key key) (λ t. rw t (ap (λ rs. one.row ∷ rs) h)) (λ t. rw t h)

  rows_steps : (n : ℕ) (steps : List Step) → rows_given key (all_events (given steps)) ≡ rows_used key
      (uses_taken n (map (λ one. one.taken) steps))
  rows_steps n [] = refl
  rows_steps n (one ∷ steps) = rows_step one.switch n one.taken (given steps) (uses_taken (suc n) (map (λ x. x.taken) steps))
      (rows_steps (suc n) steps)

  -- of one switch

  own_one : (k s : ℕ) → (k == s) ≡ true → (event : Event) (events : List Event) (others : List SwitchEvent)
      → rows_given key events ≡ rows_given key (events_at s others)
      → rows_given key (event ∷ events) ≡ rows_given key (events_at s (if_packet k event others))
  own_one k s t (Packet j row) events others h = rw t (by_test (key_eq j key) (λ u. rw u (ap (λ rs. row ∷ rs) h)) (λ u. rw u h))
  own_one k s t (Evict bucket) events others h = h
  own_one k s t Merge events others h = h

  own_other : (k s : ℕ) → (k == s) ≡ false → (event : Event) (others : List SwitchEvent)
      → events_at s (if_packet k event others) ≡ events_at s others
  own_other k s t (Packet j row) others = rw t refl
  own_other k s t (Evict bucket) others = refl
  own_other k s t Merge others = refl

  own_packets : (s : ℕ) (events : List SwitchEvent) → rows_given key (events_at s events) ≡ rows_given key
      (events_at s (packets_among events))
  own_packets s [] = refl
  own_packets s (e ∷ events) = by_test (e.switch == s)
      (λ t. rw t (own_one e.switch s t e.event (events_at s events) (packets_among events) (own_packets s events)))
      (λ t. rw t (own_packets s events ∙ ap (rows_given key) (sym (own_other e.switch s t e.event (packets_among events)))))

  own_step : (k s n : ℕ) → (k == s) ≡ true → (taken : Option Taken) (events : List SwitchEvent) (uses : List Use)
      → rows_given key (events_at s events) ≡ rows_used key uses
      → rows_given key (events_at s (from_switch k (event_of taken) ++ events)) ≡ rows_used key (use_at n taken ++ uses)
  own_step k s n t None events uses h = h
  own_step k s n t (Some one) events uses h = rw t (by_test (key_eq one.key key) (λ u. rw u (ap (λ rs. one.row ∷ rs) h)) (λ u. rw u h))

  own_steps : (s n : ℕ) (steps : List Step) → rows_given key (events_at s (given steps)) ≡ rows_used key (uses_taken n (taken_of s steps))
  own_steps s n [] = refl
  own_steps s n (one ∷ steps) = by_test (one.switch == s)
      (λ t. rw t (own_step one.switch s n t one.taken (given steps) (uses_taken (suc n) (taken_of s steps)) (own_steps s (suc n) steps)))
      (λ t. rw t (ap (rows_given key) (given_other one.switch s t one.taken (given steps)) ∙ own_steps s n steps))

-- ---- keys

if_keys : (k : ℕ) (event : Event) (events : List Event) (others : List SwitchEvent) → keys_given events ≡ keys_given (all_events others)
    → keys_given (event ∷ events) ≡ keys_given (all_events (if_packet k event others))
if_keys k (Packet j row) events others h = ap (λ ks. j ∷ ks) h
if_keys k (Evict bucket) events others h = h
if_keys k Merge events others h = h

keys_packets : (events : List SwitchEvent) → keys_given (all_events events) ≡ keys_given (all_events (packets_among events))
keys_packets [] = refl
keys_packets (e ∷ events) = if_keys e.switch e.event (all_events events) (packets_among events) (keys_packets events)

keys_step : (k n : ℕ) (taken : Option Taken) (events : List SwitchEvent) (uses : List Use)
    → keys_given (all_events events) ≡ map (λ u. u.key) uses
    → keys_given (all_events (from_switch k (event_of taken) ++ events)) ≡ map (λ u. u.key) (use_at n taken ++ uses)
keys_step k n None events uses h = h
keys_step k n (Some one) events uses h = ap (λ ks. one.key ∷ ks) h

keys_steps : (n : ℕ) (steps : List Step) → keys_given (all_events (given steps)) ≡ map (λ u. u.key)
    (uses_taken n (map (λ one. one.taken) steps))
keys_steps n [] = refl
keys_steps n (one ∷ steps) = keys_step one.switch n one.taken (given steps) (uses_taken (suc n) (map (λ x. x.taken) steps))
    (keys_steps (suc n) steps)

pub gives : RunsGiveTheTrace
gives steps events has = record {
  rows = λ key. rows_packets key events ∙ (ap (λ es. rows_given key (all_events es)) has ∙ rows_steps key 1 steps);
  keys = keys_packets events ∙ (ap (λ es. keys_given (all_events es)) has ∙ keys_steps 1 steps);
  own = λ s key. own_packets key s events ∙ (ap (λ es. rows_given key (events_at s es)) has ∙ own_steps key s 1 steps);
}

pub keys_are : MergedKeysAreUsed
keys_are buckets ways steps events merged room r all = same_keys (all_epochs merged) (map (λ u. u.key) (whole_uses steps))
    (λ k. ap (has k) (sym (gives steps events r).keys) ∙ (given-some k (all_events events)
    ∙ (same_some (rows_given k (all_events events)) (rows_joined (lists_of k (all_epochs merged)))
    (as_many (unrefreshed buckets ways) events merged room all k)
    ∙ joined-some (lists_of k (all_epochs merged)) (pieces (unrefreshed buckets ways) events merged room all k))))
