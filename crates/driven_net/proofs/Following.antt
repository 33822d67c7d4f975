-- A network that follows the packets of a trace.
use Rattle.std.proofs.Common.{◌≡◌, ℕ, ◌+◌, ◌<◌, ◌==◌, Bool, true, false, List, [], ◌∷◌, ◌++◌, length, inl, inr, refl, sym, ap, ◌∙◌, subst}
use Rattle.std.proofs.{Common.{arith, length-append, append-nil, append_assoc}, lemmas.Bool.{true≢false, Decides.nat_tests}}
use Rattle.std.specs.Prelude.{if◌then◌else◌}
use Rattle.epoch_model.proofs.KeyLists.{by_test}
use Rattle.switch_core.specs.declared.upkeep.Upkeep.TheVariants as due
use Rattle.net_wide.specs.{NetTables.{packets_at, switch_in}, Numbering.{place_among, with_switch}, NetEnds.IsSeen}
use Rattle.network.specs.{Ends.{AreAtTheirSwitches, NoEviction, packets_taken}, Networks.{NetworkGrows, NetworkView}, Running.Evicts}
use Rattle.network.specs.Running.{Merges, NetworkEvent, NetworkRuns, NetworkStands, RunsFollowEvents, Takes, turn_events, upkeep_calls}
use Rattle.network.{specs.Running.without_merges, proofs.EventLists.{lag_is_merges, merges_evict_none, merges_take_none, none_on}}
use Rattle.network.proofs.{EventLists.{room_is_merges, taken_on, theirs_none, theirs_on}, Runs.runs_kept}
use Rattle.driven_net.specs.{Follows.NetFollows, Lags.taken_by, Turns.{MakesTurn, MakesTurns, known_after}}
use Rattle.driven_net.proofs.Known.{place_after, place_tells, seen_first, seen_last, seen_more}

-- ---- packets by switch

pub by_on : (s : ℕ) (xs ys : List NetworkEvent) → taken_by s (xs ++ ys) ≡ taken_by s xs + taken_by s ys
by_on s [] ys = let e : taken_by s ys ≡ 0 + taken_by s ys = omega arith in e
by_on s (Takes switch words ∷ xs) ys = let rest = by_on s xs ys in omega arith
by_on s (Evicts switch lane bucket ∷ xs) ys = by_on s xs ys
by_on s (Merges switch lane ∷ xs) ys = by_on s xs ys

pub by_merges : (s : ℕ) (xs : List NetworkEvent) → without_merges xs ≡ [] → taken_by s xs ≡ 0
by_merges s [] alone = refl
by_merges s (Takes switch words ∷ xs) alone = cc
by_merges s (Evicts switch lane bucket ∷ xs) alone = cc
by_merges s (Merges switch lane ∷ xs) alone = by_merges s xs alone

theirs_as : (number other : ℕ → ℕ) (events : List NetworkEvent) → ((s : ℕ) → IsSeen s (packets_taken events) → number s ≡ other s)
    → AreAtTheirSwitches number events
    → AreAtTheirSwitches other events
theirs_as number other [] same at = tt
theirs_as number other (Takes switch words ∷ events) same at = (
  at.0 ∙ same (switch_in words) (seen_first words (packets_taken events)),
  theirs_as number other events (λ s seen. same s (seen_more words (packets_taken events) s seen)) at.1,
)
theirs_as number other (Evicts switch lane bucket ∷ events) same at = theirs_as number other events same at
theirs_as number other (Merges switch lane ∷ events) same at = theirs_as number other events same at

-- ---- a packet's turn

-- what comes after a packet
abbrev pub after_packet : ℕ → Bool → NetworkView → List NetworkEvent
after_packet at over net = if over then upkeep_calls at due.Lag net else []

after_is_merges : (at : ℕ) (over : Bool) (net : NetworkView) → without_merges (after_packet at over net) ≡ []
after_is_merges at true net = lag_is_merges at net
after_is_merges at false net = refl

pub turn_by : (s at : ℕ) (words : List ℕ) (over : Bool) (net : NetworkView)
    → taken_by s (turn_events at words over net) ≡ taken_by s (Takes at words ∷ [])
turn_by s at words over net =
    let room = upkeep_calls at due.Room net in
    let after = after_packet at over net in
    let a = by_on s room (Takes at words ∷ after) in
    let b = by_merges s room (room_is_merges at net) in
    let c = by_on s (Takes at words ∷ []) after in
    let d = by_merges s after (after_is_merges at over net) in
    omega arith

turn_takes : (at : ℕ) (words : List ℕ) (over : Bool) (net : NetworkView) → packets_taken (turn_events at words over net) ≡ words ∷ []
turn_takes at words over net =
    let room = upkeep_calls at due.Room net in
    let after = after_packet at over net in
    taken_on room (Takes at words ∷ after)
    ∙ (ap (λ ps. ps ++ words ∷ packets_taken after) (merges_take_none room (room_is_merges at net))
    ∙ ap (λ ps. words ∷ ps) (merges_take_none after (after_is_merges at over net)))

turn_theirs : (number : ℕ → ℕ) (at : ℕ) (words : List ℕ) (over : Bool) (net : NetworkView) → at ≡ number (switch_in words)
    → AreAtTheirSwitches number (turn_events at words over net)
turn_theirs number at words over net same =
    let room = upkeep_calls at due.Room net in
    let after = after_packet at over net in
    theirs_on number room (Takes at words ∷ after) (theirs_none number room (merges_take_none room (room_is_merges at net)))
    (same, theirs_none number after (merges_take_none after (after_is_merges at over net)))

turn_evicts_none : (at : ℕ) (words : List ℕ) (over : Bool) (net : NetworkView) → NoEviction (turn_events at words over net)
turn_evicts_none at words over net =
    let room = upkeep_calls at due.Room net in
    let after = after_packet at over net in
    none_on room (Takes at words ∷ after) (merges_evict_none room (room_is_merges at net))
    (merges_evict_none after (after_is_merges at over net))

-- ---- the network

-- a network without a switch
pub follows_start : (ways : ℕ) (net : NetworkView) → net.switches ≡ 0 → NetworkStands ways net [] → (n : NetFollows ways [] [] net)
    × (n.events ≡ [])
follows_start ways net none fresh = (
  record {
    switches = none;
    all_known = λ s seen. absurd (true≢false (sym seen));
    events = [];
    stands = fresh;
    takes = refl;
    theirs = tt;
    none = tt;
  },
  refl,
)

-- a switch more
pub follows_more : (ways : ℕ) (known : List ℕ) (s : ℕ) (packets : List (List ℕ)) (old new : NetworkView) → NetworkGrows ways old new
    → ((events : List NetworkEvent) → NetworkStands ways old events → NetworkStands ways new events)
    → (f : NetFollows ways known packets old)
    → (n : NetFollows ways (known ++ s ∷ []) packets new) × (n.events ≡ f.events)
follows_more ways known s packets old new grown stand f = (
  record {
    switches = grown.switches ∙ (ap (λ n. n + 1) f.switches ∙ sym (length-append known (s ∷ [])));
    all_known = λ t seen. let a = f.all_known t seen in let b = place_after known s t (f.all_known t seen) in let l =
        length-append known (s ∷ []) in omega arith;
    events = f.events;
    stands = stand f.events f.stands;
    takes = f.takes;
    theirs = theirs_as (place_among known) (place_among (known ++ s ∷ [])) f.events
        (λ t seen. sym (place_after known s t (f.all_known t (subst (IsSeen t) f.takes seen)))) f.theirs;
    none = f.none;
  },
  refl,
)

-- a packet more
pub follows_turn : RunsFollowEvents → (ways : ℕ) (known : List ℕ) (packets : List (List ℕ)) (words : List ℕ) (at : ℕ) (over : Bool)
    (old new : NetworkView)
    → NetworkRuns ways (turn_events at words over old) old new → place_among known (switch_in words) ≡ at → at < length known
    → (f : NetFollows ways known packets old)
    → (n : NetFollows ways known (packets ++ words ∷ []) new) × (n.events ≡ f.events ++ turn_events at words over old)
follows_turn law ways known packets words at over old new ran place within f =
    let turn = turn_events at words over old in
    let kept = runs_kept ways turn old new ran in (
      record {
        switches = kept.switches ∙ f.switches;
        all_known = λ t seen. elim (seen_last packets words t seen) [
          | inl before ↦ f.all_known t before
          | inr same ↦ subst (λ n. place_among known n < length known) same (subst (λ n. n < length known) (sym place) within)
        ];
        events = f.events ++ turn;
        stands = law ways turn f.events old new ran f.stands;
        takes = taken_on f.events turn ∙ (ap (λ ps. ps ++ packets_taken turn) f.takes
            ∙ ap (λ ps. packets ++ ps) (turn_takes at words over old));
        theirs = theirs_on (place_among known) f.events turn f.theirs (turn_theirs (place_among known) at words over old (sym place));
        none = none_on f.events turn f.none (turn_evicts_none at words over old);
      },
      refl,
    )

-- ---- turns in order

known_on : (known : List ℕ) (packets : List (List ℕ)) (words : List ℕ)
    → known_after known (packets ++ words ∷ []) ≡ with_switch (known_after known packets) (switch_in words)
known_on known [] words = refl
known_on known (first ∷ packets) words = known_on (with_switch known (switch_in first)) packets words

pub known_next : (known now : List ℕ) (packets : List (List ℕ)) (words : List ℕ) → known ≡ known_after [] packets
    → now ≡ with_switch known (switch_in words) → now ≡ known_after [] (packets ++ words ∷ [])
known_next known now packets words was is = is ∙ (ap (λ ks. with_switch ks (switch_in words)) was ∙ sym (known_on [] packets words))

pub turns_next : (ways lag : ℕ) (before packets : List (List ℕ)) (words : List ℕ) (a b c : NetworkView)
    → MakesTurns ways lag before packets a b → MakesTurn ways lag (before ++ packets) words b c
    → MakesTurns ways lag before (packets ++ words ∷ []) a c
turns_next ways lag before [] words a b c same turn = (
  c,
  subst (λ x. MakesTurn ways lag before words x c) same (subst (λ ps. MakesTurn ways lag ps words b c) (append-nil before) turn),
  refl,
)
turns_next ways lag before (first ∷ packets) words a b c turns turn = (
  turns.0,
  turns.1,
  turns_next ways lag (before ++ first ∷ []) packets words turns.0 b c turns.2
      (subst (λ ps. MakesTurn ways lag ps words b c) (sym (append_assoc before (first ∷ []) packets)) turn),
)

-- a switch took as many packets as are its own
pub own_packets : (known : List ℕ) (s : ℕ) (events : List NetworkEvent) → place_among known s < length known
    → AreAtTheirSwitches (place_among known) events
    → taken_by (place_among known s) events ≡ length (packets_at s (packets_taken events))
own_packets known s [] within theirs = refl
own_packets known s (Takes switch words ∷ events) within theirs =
    let at = place_among known s in
    let rest : taken_by at events ≡ length (packets_at s (packets_taken events)) = own_packets known s events within theirs.1 in
    by_test (switch_in words == s)
    (λ t.
    let same : switch_in words ≡ s = grind (arith, nat_tests) in
    let here : switch ≡ at = theirs.0 ∙ ap (place_among known) same in
    let yes : (switch == at) ≡ true = grind (arith, nat_tests) in
    rw (yes, t) (omega arith))
    (λ t.
    let apart : switch ≡ at → ⊥ = λ e.
    let same : switch_in words ≡ s = place_tells known (switch_in words) s within (sym theirs.0 ∙ e) in
    let yes : (switch_in words == s) ≡ true = grind (arith, nat_tests) in
    true≢false (sym yes ∙ t) in
    let no : (switch == at) ≡ false = grind (arith, nat_tests) in
    rw (no, t) (omega arith))
own_packets known s (Evicts switch lane bucket ∷ events) within theirs = own_packets known s events within theirs
own_packets known s (Merges switch lane ∷ events) within theirs = own_packets known s events within theirs
