-- A sweep empties the caches, and the merges that follow change no epoch.
use Rattle.switch_core.specs.declared.upkeep.Upkeep.TheVariants as due
use Rattle.trace_drive.proofs.Following.{both_keep, on_ok, sweep_then}
use Rattle.trace_drive.proofs.replay.drain.Goals as goal

pub returns-clause-follows : goal.returns-clause-follows
returns-clause-follows g c = on_ok _ _ c.keep_up.result
    (sweep_then c.events_keep_alike.ensures g.row.WAYS due.Rest c.args.pipeline.now c.sweep.new.self c.keep_up.new.self tt
    c.in_ok-sweep.ensures.swept) c.keep_up.ensures.makes

pub returns-clause-keeps : goal.returns-clause-keeps
returns-clause-keeps g c = on_ok _ _ c.keep_up.result
    (both_keep g.row.WAYS _ _ c.args.pipeline.now c.sweep.new.self c.keep_up.new.self c.in_ok-sweep.ensures.makes)
    c.keep_up.ensures.makes

pub returns-clause-drains : goal.returns-clause-drains
returns-clause-drains g c = on_ok _ _ c.keep_up.result (λ made. (c.sweep.new.self, c.in_ok-sweep.ensures.makes, made))
    c.keep_up.ensures.makes
