-- a run ends as its phases do: views, then the packets that are left, and then the report of all of them
use Rattle.std.{proofs.Common.{◌≡◌, ◌*◌, ◌<◌, Some, lit<, ap, sym, ◌∙◌, subst, subst₂, arith}, specs.Io.KnownBytes.Appends}
use Rattle.epoch_model.specs.Laws.{HasRoom}
use Rattle.stage_plan.specs.Sound.{PlanParts}
use Rattle.switch_core.specs.{PlanLanes.PipelineStands, Ends.end_machines}
use Rattle.trace_drive.specs.{Drives.{coming, fault_of, geometry_for, words_of}, Turns.RunsInTurns}
use Rattle.trace_drive.specs.declared.schedule.Schedule.{Schedule}
use Rattle.trace_drive.proofs.{Breaking.{err_is, out_of_memory}, Ending.places_kept, ReplayTurns.turns_to_the_end}
use Rattle.trace_reader.specs.Faults.{IfRefused}
use Rattle.query_run.specs.{Driven.geometry_of, Reports.{MayPrint, Prints}, Views.views_text}
use Rattle.query_run.proofs.{Driving.{broken_as, geometry_is}, Viewing.{all_written, end_broke, rest_broke}}
use Rattle.query_run.proofs.run.run_report.Goals as goal
use Rattle.query_run.proofs.run.run_report.Goals.{After-schedule_of-schedule}

-- the caches are those of the setting
same : (g : _) (c : After-schedule_of-schedule g) → geometry_for g.row.WAYS c.schedule_of-schedule.result ≡ geometry_of c.args.setting
same g c = geometry_is c.args.setting c.schedule_of-schedule.result g.row.WAYS c.requires.ways.1 c.schedule_of-schedule.ensures

room : (g : _) (c : After-schedule_of-schedule g) → HasRoom (geometry_for g.row.WAYS c.schedule_of-schedule.result)
room g c =
    (subst (λ (s : Schedule). 0 < s.buckets) (sym c.schedule_of-schedule.ensures) c.requires.setting.some_buckets, c.requires.ways.0)

pub new-requires : goal.new-requires
new-requires g c =
    let is = c.requires.setting in
    let places = is.places in
    let number = ap (λ n. c.args.setting.buckets * n) c.requires.ways.1 in
    (lit< tt, (c.requires.ways.0, (is.some_buckets, (omega arith, (is.some_records, is.records)))))

pub returns-in_err-fresh-clause-breaks_off : goal.returns-in_err-fresh-clause-breaks_off
returns-in_err-fresh-clause-breaks_off g c = err_is _ _ _ c.from_residual.ensures.1
    (λ text prints. out_of_memory g.O.Sink.taken g.O.Sink.faults
    (views_text (text (geometry_of c.args.setting)) c.args.every (words_of (coming c.args.packets)))
    (fault_of c.args.packets) c.args.out.now)

pub returns-in_err-replay-clause-breaks_off : goal.returns-in_err-replay-clause-breaks_off
returns-in_err-replay-clause-breaks_off g c =
    err_is _ _ _ c.from_residual-in_err-replay.ensures.1 (broken_as g.O.Sink.taken g.O.Sink.faults _ _
    c.args.every (words_of (coming c.args.packets)) _ _ _ _ _ _
    (same g (goal.at.returns-in_err-replay-clause-breaks_off g c).After-schedule_of-schedule)
    (λ text prints. c.in_err-replay.ensures.breaks_off text
    (subst (λ plan. Prints c.args.report.now plan text) (sym c.in_ok-fresh.ensures.plan) prints)))

pub returns-in_err-pipeline-clause-breaks_off : goal.returns-in_err-pipeline-clause-breaks_off
returns-in_err-pipeline-clause-breaks_off g c =
    let answer = c.in_err-pipeline.field-0.0 in
    let was = c.in_ok-replay.ensures in
    err_is _ _ _ c.from_residual-in_err-pipeline.ensures.1 (broken_as g.O.Sink.taken g.O.Sink.faults _ _
    c.args.every (words_of (coming c.args.packets)) _ _ _ _ _ _
    (same g (goal.at.returns-in_err-pipeline-clause-breaks_off g c).After-schedule_of-schedule)
    (λ text prints. rest_broke (text (geometry_for g.row.WAYS c.schedule_of-schedule.result)) _ (coming c.args.packets) g.O.Sink.taken
    g.O.Sink.faults _ _ _ was.untouched (λ some. (c.requires.viewed some).sound)
    (was.written text (subst (λ plan. Prints c.args.report.now plan text)
    (sym c.in_ok-fresh.ensures.plan) prints)) answer
    (subst (λ fault. IfRefused answer (λ found. fault ≡ Some found)) was.fault c.in_err-pipeline.ensures.refused)))

pub write_end-requires : goal.write_end-requires
write_end-requires g c =
    let all = coming c.args.packets in
    let way = c.in_ok-replay.ensures.under_way in
    let done = c.in_ok-pipeline.ensures in
    let keeps = c.in_ok-replay.ensures.keeps in
    let plan = done.keeps.plan ∙ (keeps.plan ∙ c.in_ok-fresh.ensures.plan) in
    let entries = done.keeps.entries ∙ (keeps.entries ∙ (c.in_ok-fresh.ensures.entries ∙ c.entries.ensures)) in (
      lit< tt,
      (
        subst (MayPrint c.args.report.now) (sym plan)
            c.requires.may_print,
        (
          entries,
          (
            done.drained,
            (
              geometry_for g.row.WAYS c.schedule_of-schedule.result,
              words_of all,
              room g (goal.at.write_end-requires g c).After-schedule_of-schedule,
              c.requires.whole,
              done.machines c.schedule_of-schedule.result all way.0 way.1,
            ),
          ),
        ),
      ),
    )

pub returns-in_err-write_end-clause-breaks_off : goal.returns-in_err-write_end-clause-breaks_off
returns-in_err-write_end-clause-breaks_off g c =
    let all = coming c.args.packets in
    let of = geometry_for g.row.WAYS c.schedule_of-schedule.result in
    let was = c.in_ok-replay.ensures in
    let done = c.in_ok-pipeline.ensures in
    let stands = done.machines c.schedule_of-schedule.result all was.under_way.0 was.under_way.1 in
    let plan = done.keeps.plan ∙ (was.keeps.plan ∙ c.in_ok-fresh.ensures.plan) in
    let x = (goal.at.returns-in_err-write_end-clause-breaks_off g c).After-schedule_of-schedule in
    err_is _ _ _ c.from_residual-in_err-write_end.ensures.1 (broken_as g.O.Sink.taken g.O.Sink.faults _ _
    c.args.every (words_of (coming c.args.packets)) _ _ _ _ _ _ (same g x) (λ text prints.
    let Printed = λ (plan : PlanParts). Prints c.args.report.now plan text in
    end_broke (text of) c.args.every all g.O.Sink.taken g.O.Sink.faults _ _ _ _ (sym was.fault ∙ done.accepted)
    (was.written text (subst Printed (sym c.in_ok-fresh.ensures.plan) prints)) was.out_later _
    (c.in_err-write_end.ensures.breaks_off text of (words_of all) (subst Printed (sym plan) prints) (room g x) c.requires.whole stands)))

pub returns-clause-written : goal.returns-clause-written
returns-clause-written g c text prints =
    let all = coming c.args.packets in
    let of = geometry_for g.row.WAYS c.schedule_of-schedule.result in
    let way = c.in_ok-replay.ensures.under_way in
    let stands = c.in_ok-pipeline.ensures.machines c.schedule_of-schedule.result all way.0 way.1 in
    let plan = c.in_ok-pipeline.ensures.keeps.plan ∙ (c.in_ok-replay.ensures.keeps.plan ∙ c.in_ok-fresh.ensures.plan) in
    let Printed = λ (plan : PlanParts). Prints c.args.report.now plan text in
    let x = (goal.at.returns-clause-written g c).After-schedule_of-schedule in
    subst (λ of. Appends (g.O.Sink.taken c.args.out.now) (g.O.Sink.taken c.write_end.new.out) (views_text (text of) c.args.every
    (words_of all))) (same g x) (all_written (text of) c.args.every all _ _ _ (c.in_ok-replay.ensures.written text
    (subst Printed (sym c.in_ok-fresh.ensures.plan) prints))
    (c.in_ok-write_end.ensures.written text of (words_of all) (subst Printed (sym plan) prints) (room g x) c.requires.whole stands))

pub returns-clause-machines : goal.returns-clause-machines
returns-clause-machines g c =
    let all = coming c.args.packets in
    let way = c.in_ok-replay.ensures.under_way in
    let plan = c.in_ok-pipeline.ensures.keeps.plan ∙ (c.in_ok-replay.ensures.keeps.plan ∙ c.in_ok-fresh.ensures.plan) in
    subst₂ (λ plan of. PipelineStands c.in_ok-pipeline.pipeline (end_machines plan of (words_of all))) plan
    (same g (goal.at.returns-clause-machines g c).After-schedule_of-schedule)
    (c.in_ok-pipeline.ensures.machines c.schedule_of-schedule.result all way.0 way.1)

pub returns-clause-turns : goal.returns-clause-turns
returns-clause-turns g c =
    let all = coming c.args.packets in
    let before = c.in_ok-replay.ensures.turns in
    let ended = c.in_ok-pipeline.ensures.turns in (
      c.in_ok-fresh.fresh,
      c.in_ok-fresh.ensures.stands,
      subst (λ (s : Schedule). RunsInTurns g.row.WAYS s.refresh s.lag (words_of all) c.in_ok-fresh.fresh c.in_ok-pipeline.pipeline)
          c.schedule_of-schedule.ensures (
            ended.0,
            turns_to_the_end _ _ _ before.0 all _ _ _ before.1.within before.2
                (ended.1 c.schedule_of-schedule.result all before.0 before.1),
            ended.2,
          ),
    )

-- pipes keep their places
pub returns-clause-pipe_places : goal.returns-clause-pipe_places
returns-clause-pipe_places g c =
    c.in_ok-pipeline.ensures.pipe_places c.args.setting.pipe
    (places_kept _ _ _ c.in_ok-replay.ensures.keeps.places c.in_ok-fresh.ensures.pipe_places)

pub returns-in_err-replay-clause-out_later : goal.returns-in_err-replay-clause-out_later
returns-in_err-replay-clause-out_later g c = c.write_views.ensures.out_later

pub returns-in_err-replay-clause-steps : goal.returns-in_err-replay-clause-steps
returns-in_err-replay-clause-steps g c = c.write_views.ensures.steps

pub returns-in_err-pipeline-clause-out_later : goal.returns-in_err-pipeline-clause-out_later
returns-in_err-pipeline-clause-out_later g c = c.write_views.ensures.out_later

pub returns-in_err-pipeline-clause-steps : goal.returns-in_err-pipeline-clause-steps
returns-in_err-pipeline-clause-steps g c = omega (arith, c.write_views.ensures.steps, c.finish.ensures.steps)

pub returns-in_err-write_end-clause-out_later : goal.returns-in_err-write_end-clause-out_later
returns-in_err-write_end-clause-out_later g c = omega (arith, c.write_views.ensures.out_later, c.write_end.ensures.out_later)

pub returns-in_err-write_end-clause-steps : goal.returns-in_err-write_end-clause-steps
returns-in_err-write_end-clause-steps g c = omega (arith, c.write_views.ensures.steps, c.finish.ensures.steps, c.write_end.ensures.steps)

pub returns-clause-out_later : goal.returns-clause-out_later
returns-clause-out_later g c = omega (arith, c.write_views.ensures.out_later, c.write_end.ensures.out_later)

pub returns-clause-steps : goal.returns-clause-steps
returns-clause-steps g c = omega (arith, c.write_views.ensures.steps, c.finish.ensures.steps, c.write_end.ensures.steps)

pub returns-clause-accepted : goal.returns-clause-accepted
returns-clause-accepted g c = sym c.in_ok-replay.ensures.fault ∙ c.in_ok-pipeline.ensures.accepted

pub returns-clause-plan : goal.returns-clause-plan
returns-clause-plan g c = c.in_ok-pipeline.ensures.keeps.plan ∙ (c.in_ok-replay.ensures.keeps.plan ∙ c.in_ok-fresh.ensures.plan)

pub returns-clause-entries : goal.returns-clause-entries
returns-clause-entries g c =
    c.in_ok-pipeline.ensures.keeps.entries
    ∙ (c.in_ok-replay.ensures.keeps.entries ∙ (c.in_ok-fresh.ensures.entries ∙ c.entries.ensures))

pub returns-clause-drained : goal.returns-clause-drained
returns-clause-drained g c = c.in_ok-pipeline.ensures.drained
