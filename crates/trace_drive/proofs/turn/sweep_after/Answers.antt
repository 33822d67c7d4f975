-- A sweep, and a merge of each lane where the lag is over.
use Rattle.std.{proofs.Common.{◌≡◌, true, false, sym, subst}, specs.List.list_all}
use Rattle.switch_core.specs.PlanLanes.{AreKept, PipelineMakes, lane_is_ready, upkeeps_at}
use Rattle.switch_core.specs.declared.upkeep.Upkeep.TheVariants as due
use Rattle.trace_drive.specs.Turns.{lag_at}
use Rattle.trace_drive.proofs.{Following.{all_ready, both_keep, makes_keeps, on_ok, sweep_follows, sweep_then}, Turning.makes_none}
use Rattle.trace_drive.proofs.turn.sweep_after.Goals as goal

pub returns-then-not-lag_over-clause-follows : goal.returns-then-not-lag_over-clause-follows
returns-then-not-lag_over-clause-follows g c after f =
    sweep_follows c.events_keep_alike.ensures c.args.pipeline.now c.sweep.new.self after c.in_ok-sweep.ensures.swept f

pub returns-then-not-lag_over-clause-makes : goal.returns-then-not-lag_over-clause-makes
returns-then-not-lag_over-clause-makes g c =
    let swept = c.sweep.new.self in
    let none : c.args.lag_over ≡ false = c.if-not-lag_over.true in (
      swept,
      c.in_ok-sweep.ensures.makes,
      subst (λ over. PipelineMakes g.row.WAYS (lag_at over swept) swept swept) (sym none) (makes_none g.row.WAYS swept),
    )

pub returns-then-not-lag_over-clause-keeps : goal.returns-then-not-lag_over-clause-keeps
returns-then-not-lag_over-clause-keeps g c =
    let old = c.args.pipeline.now in
    makes_keeps g.row.WAYS (upkeeps_at due.Sweep old.lanes) old c.sweep.new.self c.in_ok-sweep.ensures.makes

pub returns-clause-follows : goal.returns-clause-follows
returns-clause-follows g c = on_ok _ _ c.keep_up.result
    (sweep_then c.events_keep_alike.ensures g.row.WAYS due.Lag c.args.pipeline.now c.sweep.new.self c.keep_up.new.self tt
    c.in_ok-sweep.ensures.swept) c.keep_up.ensures.makes

pub returns-clause-makes : goal.returns-clause-makes
returns-clause-makes g c =
    let swept = c.sweep.new.self in
    let over : c.args.lag_over ≡ true = c.if-not-lag_over.false in
    on_ok _ _ c.keep_up.result
    (λ made. (
      swept,
      c.in_ok-sweep.ensures.makes,
      subst (λ late. PipelineMakes g.row.WAYS (lag_at late swept) swept c.keep_up.new.self) (sym over) made,
    ))
    c.keep_up.ensures.makes

pub returns-clause-keeps : goal.returns-clause-keeps
returns-clause-keeps g c = on_ok _ _ c.keep_up.result
    (both_keep g.row.WAYS _ _ c.args.pipeline.now c.sweep.new.self c.keep_up.new.self c.in_ok-sweep.ensures.makes)
    c.keep_up.ensures.makes

pub returns-clause-merged : goal.returns-clause-merged
returns-clause-merged g c =
    let new = c.keep_up.new.self in
    on_ok (AreKept due.Lag new.lanes) (c.args.lag_over ≡ true → list_all lane_is_ready new.lanes ≡ true) c.keep_up.result
    (λ kept over. all_ready new.lanes kept) c.keep_up.ensures.left
