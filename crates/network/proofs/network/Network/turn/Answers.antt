-- A turn is made of merges for room, then the packet, and then the lag's merges, or breaks off in one of these.
use Rattle.std.proofs.Common.{◌≡◌, ℕ, ◌+◌, ◌*◌, ◌≤◌, ◌<◌, Bool, true, List, [], ◌∷◌, ◌++◌, sym, ap, ◌∙◌, subst, arith, append_assoc}
use Rattle.std.{proofs.Common.lit<, specs.Prelude.if◌then◌else◌}
use Rattle.switch_core.specs.declared.upkeep.Upkeep.TheVariants as due
use Rattle.switch_core.proofs.LaneFacts.{on_both, on_err, on_ok}
use Rattle.network.specs.Networks.{NetworkView, network_cost, upkeeps_cost}
use Rattle.network.specs.Running.{NetworkEvent, NetworkMakes, NetworkRuns, RunBreaksOff, Takes, turn_events, upkeep_calls}
use Rattle.network.proofs.{Calls.{lag_same, ready_left}, CostSteps.room_cost, MakeSteps.if_err, Runs.{kept_long, merges_cost_kept}}
use Rattle.network.proofs.Runs.{packet_cost_kept, breaks_on, run_breaks_in, runs_is, runs_kept, runs_on, runs_one}
use Rattle.network.proofs.network.Network.turn.Goals as goal
use Rattle.network.proofs.network.Network.turn.Goals.{After-packet}

pub packet-requires : goal.packet-requires
packet-requires g c =
    let ways = g.row.WAYS in
    let at = c.args.at in
    let old = c.args.self.now in
    let room = c.keep_up.new.self in
    let ran = c.in_ok-keep_up.ensures.runs in
    let events = upkeep_calls at due.Room old in
    let kept = runs_kept ways events old room ran in
    let within = subst (λ n. at < n) (sym kept.switches) c.requires in (
      lit< tt,
      (
        within,
        ready_left ways at due.Room old room (runs_is _ events _ room ran c.invariant.ensures) within
            (kept_long _ _ kept) (λ front k. k) c.in_ok-keep_up.ensures.left,
      ),
    )

pub keep_up-requires-2 : goal.keep_up-requires-2
keep_up-requires-2 g c =
    let old = c.args.self.now in
    let kept = runs_kept g.row.WAYS (upkeep_calls c.args.at due.Room old) old c.keep_up.new.self c.in_ok-keep_up.ensures.runs in
    (lit< tt, subst (λ n. c.args.at < n) (sym (c.packet.ensures.makes.switches ∙ kept.switches)) c.requires)

-- room for a packet, and then the packet
before_lag : (ways at : ℕ) (words : List ℕ) (old room after : NetworkView) → NetworkRuns ways (upkeep_calls at due.Room old) old room
    → NetworkMakes ways (Takes at words) room after
    → NetworkRuns ways (upkeep_calls at due.Room old ++ Takes at words ∷ []) old after
before_lag ways at words old room after ran made =
    runs_on ways (upkeep_calls at due.Room old) (Takes at words ∷ []) old room after ran (runs_one _ _ _ _ made)

pub returns-then-not-lag_over-clause-runs : goal.returns-then-not-lag_over-clause-runs
returns-then-not-lag_over-clause-runs g c =
    let old = c.args.self.now in
    let at = c.args.at in
    let words = c.args.packet.now.words in
    let over = c.if-not-lag_over.true in
    subst (λ b. NetworkRuns g.row.WAYS (turn_events at words b old) old c.packet.new.self) (sym over)
    (before_lag g.row.WAYS at words old c.keep_up.new.self c.packet.new.self c.in_ok-keep_up.ensures.runs c.packet.ensures.makes)

-- where the lag is over, the events of the turn are the packet's and then the merges
turn_is : (at : ℕ) (words : List ℕ) (over : Bool) (old : NetworkView) (merges : List NetworkEvent) → over ≡ true
    → merges ≡ upkeep_calls at due.Lag old
    → (upkeep_calls at due.Room old ++ Takes at words ∷ []) ++ merges ≡ turn_events at words over old
turn_is at words _ old merges e same =
    append_assoc (upkeep_calls at due.Room old) (Takes at words ∷ []) merges
    ∙ (ap (λ es. upkeep_calls at due.Room old ++ Takes at words ∷ es) same
    ∙ ap (λ b. upkeep_calls at due.Room old ++ Takes at words ∷ (if b then upkeep_calls at due.Lag old else [])) (sym e))

-- the events of a turn before the merges of the lag, and those merges
first : (g : _) (c : After-packet g) → NetworkRuns g.row.WAYS (upkeep_calls c.args.at due.Room c.args.self.now ++ Takes c.args.at
    c.args.packet.now.words ∷ []) c.args.self.now c.packet.new.self
first g c = before_lag g.row.WAYS c.args.at c.args.packet.now.words c.args.self.now c.keep_up.new.self c.packet.new.self
    c.in_ok-keep_up.ensures.runs c.packet.ensures.makes

whole_turn : (g : _) (c : After-packet g) → c.args.lag_over ≡ true → (upkeep_calls c.args.at due.Room c.args.self.now ++ Takes c.args.at
    c.args.packet.now.words ∷ []) ++ upkeep_calls c.args.at due.Lag c.packet.new.self
    ≡ turn_events c.args.at c.args.packet.now.words c.args.lag_over c.args.self.now
whole_turn g c over = turn_is c.args.at c.args.packet.now.words c.args.lag_over c.args.self.now
    (upkeep_calls c.args.at due.Lag c.packet.new.self) over
    (lag_same c.args.at c.args.self.now c.packet.new.self (runs_kept g.row.WAYS _ c.args.self.now c.packet.new.self (first g c)))

pub returns-clause-runs : goal.returns-clause-runs
returns-clause-runs g c =
    let x = (goal.at.returns-clause-runs g c).After-packet in
    on_ok _ _ c.keep_up-2.result
    (λ ran. subst (λ es. NetworkRuns g.row.WAYS es c.args.self.now c.keep_up-2.new.self) (whole_turn g x c.if-not-lag_over.false)
    (runs_on g.row.WAYS _ _ _ c.packet.new.self _ (first g x) ran)) c.keep_up-2.ensures.runs

pub returns-clause-breaks_off : goal.returns-clause-breaks_off
returns-clause-breaks_off g c =
    let x = (goal.at.returns-clause-breaks_off g c).After-packet in
    on_err _ _ c.keep_up-2.result
    (λ ran. subst (λ es. RunBreaksOff g.row.WAYS es c.args.self.now c.keep_up-2.new.self) (whole_turn g x c.if-not-lag_over.false)
    (breaks_on (NetworkRuns g.row.WAYS) (runs_on g.row.WAYS) _ _ _ c.packet.new.self _ (first g x) ran)) c.keep_up-2.ensures.breaks_off

pub returns-in_err-keep_up-clause-breaks_off : goal.returns-in_err-keep_up-clause-breaks_off
returns-in_err-keep_up-clause-breaks_off g c =
    let old = c.args.self.now in
    let rest = Takes c.args.at c.args.packet.now.words ∷
    (if c.args.lag_over then upkeep_calls c.args.at due.Lag old else []) in
    if_err _ c.from_residual.result (run_breaks_in g.row.WAYS (upkeep_calls c.args.at due.Room old) rest old c.keep_up.new.self
    c.in_err-keep_up.ensures.breaks_off)

pub returns-clause-merged : goal.returns-clause-merged
returns-clause-merged g c =
    let ran_first = first g (goal.at.returns-clause-merged g c).After-packet in
    let ways = g.row.WAYS in
    let at = c.args.at in
    let old = c.args.self.now in
    let after = c.packet.new.self in
    let new = c.keep_up-2.new.self in
    let before = upkeep_calls at due.Room old ++ Takes at c.args.packet.now.words ∷ [] in
    let kept = runs_kept ways before old after ran_first in
    let is = runs_is _ before _ after ran_first c.invariant.ensures in
    let merges = upkeep_calls at due.Lag after in
    on_both _ _
    _ c.keep_up-2.result
    (λ ran left over.
    let last = runs_kept ways merges after new ran in
    let within = subst (λ n. at < n) (sym (last.switches ∙ kept.switches)) c.requires in
    ready_left ways at due.Lag after new (runs_is _ merges _ new ran is) within (kept_long _ _ last) (λ front k. k) left)
    c.keep_up-2.ensures.runs c.keep_up-2.ensures.left

-- the steps of merges, a packet, and merges again
turn_within : (start room packet end merges later cost packets : ℕ) → room ≤ start + merges → packets ≡ cost → packet ≤ room + packets
    → later ≡ merges → end ≤ packet + later → end ≤ start + (cost + 2 * merges)
turn_within start room packet end merges later cost packets a b c d e = omega arith

room_within : (start room merges cost : ℕ) → room ≤ start + merges → room ≤ start + (cost + 2 * merges)
room_within start room merges cost a = omega arith

packet_within : (start room packet merges cost packets : ℕ) → room ≤ start + merges → packets ≡ cost → packet ≤ room + packets
    → packet ≤ start + (cost + 2 * merges)
packet_within start room packet merges cost packets a b c = omega arith

-- the steps for room are those of a merge
room_is : (at start end : ℕ) (old : NetworkView) → end ≤ start + upkeeps_cost due.Room at old → end ≤ start + upkeeps_cost due.Lag at old
room_is at start end old cost = subst (λ n. end ≤ start + n) (room_cost at old.groups) cost

pub returns-in_err-keep_up-clause-cost : goal.returns-in_err-keep_up-clause-cost
returns-in_err-keep_up-clause-cost g c =
    let old = c.args.self.now in
    let start = c.args.steps.now in
    room_within start c.keep_up.new.steps (upkeeps_cost due.Lag c.args.at old) (network_cost g.row.WAYS c.args.at old)
    (room_is c.args.at start c.keep_up.new.steps old c.keep_up.ensures.cost)

pub returns-then-not-lag_over-clause-cost : goal.returns-then-not-lag_over-clause-cost
returns-then-not-lag_over-clause-cost g c =
    let ways = g.row.WAYS in
    let at = c.args.at in
    let old = c.args.self.now in
    let start = c.args.steps.now in
    let mid = c.keep_up.new.self in
    let kept = runs_kept ways (upkeep_calls at due.Room old) old mid c.in_ok-keep_up.ensures.runs in
    packet_within start c.keep_up.new.steps c.packet.new.steps (upkeeps_cost due.Lag at old) (network_cost ways at old)
    (network_cost ways at mid)
    (room_is at start c.keep_up.new.steps old c.keep_up.ensures.cost) (packet_cost_kept ways at old mid kept) c.packet.ensures.cost

pub returns-clause-cost : goal.returns-clause-cost
returns-clause-cost g c =
    let ways = g.row.WAYS in
    let at = c.args.at in
    let old = c.args.self.now in
    let start = c.args.steps.now in
    let mid = c.keep_up.new.self in
    let after = c.packet.new.self in
    let kept = runs_kept ways (upkeep_calls at due.Room old) old mid c.in_ok-keep_up.ensures.runs in
    let all = runs_kept ways (upkeep_calls at due.Room old ++ Takes at c.args.packet.now.words ∷ []) old after
    (before_lag ways at c.args.packet.now.words old mid after c.in_ok-keep_up.ensures.runs c.packet.ensures.makes) in
    turn_within start c.keep_up.new.steps c.packet.new.steps c.keep_up-2.new.steps _
    _ _ _
    (room_is at start c.keep_up.new.steps old c.keep_up.ensures.cost) (packet_cost_kept ways at old mid kept) c.packet.ensures.cost
    (merges_cost_kept at old after all) c.keep_up-2.ensures.cost
