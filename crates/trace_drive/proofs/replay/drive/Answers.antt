-- A replay that starts before the first packet and is finished has taken the turns of all packets.
use Rattle.std.proofs.Common.{◌∙◌, ap, subst, sym}
use Rattle.switch_core.specs.{PlanLanes.{HavePlaces, PipelineStands, PipelineView}, Ends.end_machines}
use Rattle.trace_drive.specs.{Drives.{coming, geometry_for, words_of}, Turns.MakesTurns}
use Rattle.trace_drive.proofs.replay.drive.Goals as goal

pub returns-clause-machines : goal.returns-clause-machines
returns-clause-machines g c =
    let all = coming c.args.packets in
    subst (λ plan. PipelineStands c.in_ok-found.found (end_machines plan (geometry_for g.row.WAYS c.args.schedule) (words_of all)))
    (c.in_ok-found.ensures.keeps.plan ∙ ap (λ p. p.plan) c.new-replay.ensures.pipeline)
    (c.in_ok-found.ensures.machines c.args.schedule all 0 c.new-replay.ensures.under_way)

pub returns-clause-pipe_places : goal.returns-clause-pipe_places
returns-clause-pipe_places g c places have =
    c.in_ok-found.ensures.pipe_places places (subst (λ p. HavePlaces places p.lanes) (sym c.new-replay.ensures.pipeline) have)

pub returns-clause-turns : goal.returns-clause-turns
returns-clause-turns g c =
    let all = coming c.args.packets in
    let ended = c.in_ok-found.ensures.turns in (
      ended.0,
      subst (λ (first : PipelineView). MakesTurns g.row.WAYS c.args.schedule.refresh c.args.schedule.lag 1 (words_of all) first ended.0)
          c.new-replay.ensures.pipeline (ended.1 c.args.schedule all 0 c.new-replay.ensures.under_way),
      ended.2,
    )
