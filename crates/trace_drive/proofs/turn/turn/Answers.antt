-- Room in full pipes, the packet, and then what is due by the clocks.
use Rattle.std.proofs.Common.{◌≡◌, ℕ, Bool, Result, Ok, OnOk, suc, true, false, if◌then◌else◌, lit<, refl, sym, ◌∙◌, subst}
use Rattle.std.proofs.lemmas.Bool.{true≢false}
use Rattle.epoch_model.specs.{Driving.{after_packet, event_of}, Epochs.is_refresh, Machine.{Machine, empty_buckets}}
use Rattle.stage_plan.specs.Planned.{taken}
use Rattle.switch_core.specs.PlanLanes.{AreKept, PipelineView, upkeeps_at}
use Rattle.switch_core.specs.declared.upkeep.Upkeep.TheVariants as due
use Rattle.trace_drive.specs.{Clocks.HasCounted, Follows.FollowsBy, Turns.MakesTurn}
use Rattle.trace_drive.proofs.Following.{all_ready, keeps_along, makes_keeps, on_ok, turn_leads, upkeep_follows}
use Rattle.trace_drive.proofs.Turning.{IsPacked, lag_turn, packed_by, past, swept_after}
use Rattle.trace_drive.proofs.turn.turn.Goals as goal
use Rattle.trace_drive.proofs.turn.turn.Goals.{After-packet}

past_packet : (g : _) (c : After-packet g) → IsPacked g.row.WAYS c.args.packet.now.words c.args.pipeline.now c.packet.new.self
past_packet g c = packed_by c.events_keep_alike.ensures g.row.WAYS c.args.packet.now.words c.args.pipeline.now c.keep_up.new.self
    c.packet.new.self c.in_ok-keep_up.ensures.makes c.packet.ensures.makes

pub packet-requires : goal.packet-requires
packet-requires g c = (lit< tt, all_ready c.keep_up.new.self.lanes c.in_ok-keep_up.ensures.left)

-- the turn ends in a pipeline that follows the machines after the packet's number, where it swept as the clock said
led : {X E : Type 0} (g : _) (c : After-packet g) (sweeps : Bool) (new : PipelineView) (r : Result X E)
    → c.is_due-refresh_now.result ≡ sweeps
    → (let past' = past g.row.WAYS c.args.packet.now.words c.args.pipeline.now in
    OnOk r ((after : ℕ → Machine) → FollowsBy after c.args.pipeline.now
    → FollowsBy (λ i. if sweeps then empty_buckets c.args.pipeline.now.buckets (past' after i) else past' after i) new))
    → OnOk r ((number : ℕ) (after : ℕ → Machine) → HasCounted number c.args.refreshes.now → FollowsBy after c.args.pipeline.now
    → FollowsBy (λ i. after_packet (record {
      buckets = c.args.pipeline.now.buckets;
      ways = g.row.WAYS;
      refresh = c.args.refreshes.now.every;
    }) (suc number) (event_of (taken c.args.pipeline.now.plan i c.args.packet.now.words)) (after i)) new)
led g c sweeps new r swept = turn_leads g.row.WAYS c.args.refreshes.now.every c.args.pipeline.now new c.args.packet.now.words sweeps
    (λ number. HasCounted number c.args.refreshes.now) r (λ number counted. sym swept ∙ c.is_due-refresh_now.ensures.is_due number counted)

-- the turn makes the events that the clocks say
turned : (g : _) (c : After-packet g) (sweeps merges : Bool) (new : PipelineView) → c.is_due-refresh_now.result ≡ sweeps
    → c.is_due-lag_over.result ≡ merges
    → MakesTurn g.row.WAYS c.args.packet.now.words sweeps merges c.args.pipeline.now new
    → (refreshed lagged : ℕ) → HasCounted refreshed c.args.refreshes.now → HasCounted lagged c.args.lags.now
    → MakesTurn g.row.WAYS c.args.packet.now.words (is_refresh c.args.refreshes.now.every (suc refreshed))
    (is_refresh c.args.lags.now.every (suc lagged)) c.args.pipeline.now new
turned g c sweeps merges new swept merged made refreshed lagged one two =
    let makes = λ (s m : Bool). MakesTurn g.row.WAYS c.args.packet.now.words s m c.args.pipeline.now new in
    let merge = sym merged ∙ c.is_due-lag_over.ensures.is_due lagged two in
    subst (λ s. makes s (is_refresh c.args.lags.now.every (suc lagged))) (sym swept ∙ c.is_due-refresh_now.ensures.is_due refreshed one)
    (subst (makes sweeps) merge made)

pub returns-then-refresh_now-clause-follows : goal.returns-then-refresh_now-clause-follows
returns-then-refresh_now-clause-follows g c =
    let x = (goal.at.returns-then-refresh_now-clause-follows g c).After-packet in
    let new = c.sweep_after.new.pipeline in
    led g x true new c.sweep_after.result c.if-refresh_now.true (on_ok _ _ c.sweep_after.result
    (swept_after g.row.WAYS c.args.packet.now.words c.args.pipeline.now c.packet.new.self new (past_packet g x))
    c.sweep_after.ensures.follows)

pub returns-then-lag_over-clause-follows : goal.returns-then-lag_over-clause-follows
returns-then-lag_over-clause-follows g c =
    let x = (goal.at.returns-then-lag_over-clause-follows g c).After-packet in
    let new = c.keep_up-then-lag_over.new.self in
    led g x false new c.keep_up-then-lag_over.result c.if-refresh_now.false (on_ok _ _ c.keep_up-then-lag_over.result
    (λ made after f. upkeep_follows c.events_keep_alike.ensures g.row.WAYS due.Lag c.packet.new.self new
    (past g.row.WAYS c.args.packet.now.words c.args.pipeline.now after) tt made ((past_packet g x).follows after f))
    c.keep_up-then-lag_over.ensures.makes)

pub returns-clause-follows : goal.returns-clause-follows
returns-clause-follows g c =
    let x = (goal.at.returns-clause-follows g c).After-packet in
    led {X = Unit {0}} {E = Unit {0}} g x false c.packet.new.self (Ok tt) c.if-refresh_now.false (past_packet g x).follows

pub returns-then-refresh_now-clause-turns : goal.returns-then-refresh_now-clause-turns
returns-then-refresh_now-clause-turns g c =
    let x = (goal.at.returns-then-refresh_now-clause-turns g c).After-packet in
    on_ok _ _ c.sweep_after.result (λ made. turned g x true c.is_due-lag_over.result c.sweep_after.new.pipeline c.if-refresh_now.true refl
    (c.packet.new.self, made.0, (past_packet g x).makes, made.1, made.2)) c.sweep_after.ensures.makes

pub returns-then-lag_over-clause-turns : goal.returns-then-lag_over-clause-turns
returns-then-lag_over-clause-turns g c =
    let x = (goal.at.returns-then-lag_over-clause-turns g c).After-packet in
    let new = c.keep_up-then-lag_over.new.self in
    on_ok _ _ c.keep_up-then-lag_over.result (λ made. turned g x false true new c.if-refresh_now.false c.if-lag_over.true
    (lag_turn g.row.WAYS c.args.packet.now.words c.args.pipeline.now c.packet.new.self new (past_packet g x).makes made))
    c.keep_up-then-lag_over.ensures.makes

pub returns-clause-turns : goal.returns-clause-turns
returns-clause-turns g c =
    let x = (goal.at.returns-clause-turns g c).After-packet in
    turned g x false false c.packet.new.self c.if-refresh_now.false c.if-lag_over.false (past_packet g x).makes

pub returns-then-refresh_now-clause-keeps : goal.returns-then-refresh_now-clause-keeps
returns-then-refresh_now-clause-keeps g c =
    let did = past_packet g (goal.at.returns-then-refresh_now-clause-keeps g c).After-packet in
    on_ok _ _ c.sweep_after.result (keeps_along c.args.pipeline.now c.packet.new.self c.sweep_after.new.pipeline did.keeps)
    c.sweep_after.ensures.keeps

pub returns-then-lag_over-clause-keeps : goal.returns-then-lag_over-clause-keeps
returns-then-lag_over-clause-keeps g c =
    let packed = c.packet.new.self in
    let new = c.keep_up-then-lag_over.new.self in
    let did = past_packet g (goal.at.returns-then-lag_over-clause-keeps g c).After-packet in
    on_ok _ _ c.keep_up-then-lag_over.result (λ made. keeps_along c.args.pipeline.now packed new did.keeps
    (makes_keeps g.row.WAYS (upkeeps_at due.Lag packed.lanes) packed new made)) c.keep_up-then-lag_over.ensures.makes

pub returns-clause-keeps : goal.returns-clause-keeps
returns-clause-keeps g c =
    (past_packet g (goal.at.returns-clause-keeps g c).After-packet).keeps

pub returns-then-lag_over-clause-merged : goal.returns-then-lag_over-clause-merged
returns-then-lag_over-clause-merged g c =
    let new = c.keep_up-then-lag_over.new.self in
    on_ok (AreKept due.Lag new.lanes) _ c.keep_up-then-lag_over.result (λ kept number counted over. all_ready new.lanes kept)
    c.keep_up-then-lag_over.ensures.left

pub returns-then-refresh_now-clause-merged : goal.returns-then-refresh_now-clause-merged
returns-then-refresh_now-clause-merged g c =
    on_ok _ _ c.sweep_after.result (λ merged number counted due. merged (c.is_due-lag_over.ensures.is_due number counted ∙ due))
    c.sweep_after.ensures.merged

pub returns-clause-merged : goal.returns-clause-merged
returns-clause-merged g c number counted due =
    absurd (true≢false (sym due ∙ sym (c.is_due-lag_over.ensures.is_due number counted) ∙ c.if-lag_over.false))
