-- after each number of packets that is a multiple of `every`, one view more is written
use Rattle.std.proofs.{Common.{◌≡◌, ◌+◌, ◌<◌, ◌≤◌, ◌-◌, Some, Ok, length, refl, sym, ap, ◌∙◌, subst, arith, lit<}, KnownBytes.Appends-nil}
use Rattle.std.{proofs.Math.Seq.take-length, specs.Io.KnownBytes.Appends}
use Rattle.switch_core.specs.PlanLanes.{PipelineView}
use Rattle.trace_drive.specs.{Drives.{coming, geometry_for, words_of}, Follows.Keeps, Replays.replay_pipeline, Turns.MakesTurns}
use Rattle.trace_drive.proofs.{Breaking.err_is, Following.keeps_along, ReplayTurns.{turns_further, turns_to_the_end}}
use Rattle.trace_reader.specs.Faults.{IfRefused}
use Rattle.query_run.{specs.{Reports.{MayPrint, Prints}, Views.IsAsFarAs}, proofs.ViewTexts.next_multiple}
use Rattle.query_run.proofs.Viewing.{all_shown, as_far, first_multiple, none_asked, none_yet, one_written, reader_broke, view_broke}
use Rattle.query_run.proofs.views.write_views.Goals as goal
use Rattle.query_run.proofs.views.write_views.Goals.{After-pipeline}

-- the pipeline that is viewed has taken the packets up to the next multiple
seen : (g : _) (c : After-pipeline g) → IsAsFarAs (geometry_for g.row.WAYS c.args.schedule) (words_of (coming c.args.packets))
    (c.views.number + c.args.every) c.pipeline.result.now
seen g c =
    let all = coming c.args.packets in
    let way = c.in_ok-advance.ensures.all (ap Ok c.if-branch.true) c.args.schedule all c.views.number c.views.invariant.way in
    subst (λ (p : PipelineView). IsAsFarAs (geometry_for g.row.WAYS c.args.schedule) (words_of all) (c.views.number + c.args.every) p)
    (sym c.pipeline.ensures) (as_far c.args.schedule all (c.views.number + c.args.every) c.advance.new.self c.requires.room.0
    c.requires.room.1 c.requires.whole way)

pub returns-then-every-eq0-clause-written : goal.returns-then-every-eq0-clause-written
returns-then-every-eq0-clause-written g c text prints =
    let all = coming c.args.packets in
    let none : c.args.every ≡ 0 = omega arith in
    let bytes = g.O.Sink.taken c.args.out.now in
    subst (Appends bytes bytes) (sym (none_asked (text (geometry_for g.row.WAYS c.args.schedule)) c.args.every all (length all) none))
    (Appends-nil bytes)

pub returns-then-every-eq0-clause-turns : goal.returns-then-every-eq0-clause-turns
returns-then-every-eq0-clause-turns g c = (0, c.new-replay.ensures.under_way, c.new-replay.ensures.pipeline)

pub views-init : goal.views-init
views-init g c =
    let some : 0 < c.args.every = omega arith in
    let bytes = g.O.Sink.taken c.args.out.now in
    record {
      way = c.new-replay.ensures.under_way;
      turns = c.new-replay.ensures.pipeline;
      multiple = first_multiple c.args.every some;
      fault = c.new-replay.ensures.fault;
      keeps = subst (λ (p : PipelineView). Keeps c.args.pipeline p) (sym c.new-replay.ensures.pipeline)
          (record { plan = refl; entries = refl; buckets = refl; lanes = refl; places = refl });
      written = λ text prints. subst (Appends bytes bytes) (sym (none_yet (text (geometry_for g.row.WAYS c.args.schedule)) c.args.every
          (coming c.args.packets))) (Appends-nil bytes);
      out_later = omega arith;
      later = omega arith;
    }

pub returns-in_err-advance-clause-breaks_off : goal.returns-in_err-advance-clause-breaks_off
returns-in_err-advance-clause-breaks_off g c =
    let some : 0 < c.args.every = omega arith in
    let was = c.views.invariant in
    err_is _ _ _ c.from_residual.ensures.1
    (λ text prints. reader_broke (text (geometry_for g.row.WAYS c.args.schedule)) c.args.every _ g.O.Sink.taken g.O.Sink.faults _ _ _ _
    (c.requires.viewed some).sound was.way.within (was.written text prints) _
    (subst (λ fault. IfRefused c.in_err-advance.field-0.0 (λ found. fault ≡ Some found)) was.fault c.in_err-advance.ensures.refused))

pub write_view-requires : goal.write_view-requires
write_view-requires g c =
    let was = c.views.invariant in
    let done = c.in_ok-advance.ensures in
    let plan = ap (λ (p : PipelineView). p.plan) c.pipeline.ensures ∙ (done.keeps.plan ∙ was.keeps.plan) in
    let entries = ap (λ (p : PipelineView). p.entries) c.pipeline.ensures
    ∙ (done.keeps.entries ∙ (was.keeps.entries ∙ c.requires.entries)) in (
      lit< tt,
      (
        subst (MayPrint c.args.report.now) (sym plan)
            c.requires.may_print,
        (
          entries,
          (
            geometry_for g.row.WAYS c.args.schedule,
            words_of (coming c.args.packets),
            seen g (goal.at.write_view-requires g c).After-pipeline,
          ),
        ),
      ),
    )

pub views-smaller : goal.views-smaller
views-smaller g c =
    let some : 0 < c.args.every = omega arith in
    let way = c.in_ok-advance.ensures.all (ap Ok c.if-branch.true) c.args.schedule (coming c.args.packets) c.views.number
    c.views.invariant.way in
    let within : c.views.number + c.args.every ≤ length (coming c.args.packets) = way.within in
    let less : length (coming c.args.packets) - (c.views.number + c.args.every) < length (coming c.args.packets) - c.views.number =
    omega arith in
    less

pub views-preserved : goal.views-preserved
views-preserved g c =
    let all = coming c.args.packets in
    let of = geometry_for g.row.WAYS c.args.schedule in
    let some : 0 < c.args.every = omega arith in
    let was = c.views.invariant in
    let done = c.in_ok-advance.ensures in
    let plan = ap (λ (p : PipelineView). p.plan) c.pipeline.ensures ∙ (done.keeps.plan ∙ was.keeps.plan) in
    record {
      way = done.all (ap Ok c.if-branch.true) c.args.schedule all c.views.number was.way;
      turns = turns_further _ _ _ c.views.number _ all _ _ _ was.way.within was.turns
          (done.turns (ap Ok c.if-branch.true) c.args.schedule all c.views.number was.way);
      multiple = next_multiple c.args.every c.views.number was.multiple;
      fault = done.fault ∙ was.fault;
      keeps = keeps_along _ _ _ was.keeps done.keeps;
      written = λ text prints. one_written (text of) _ all _ _ _ _ was.multiple some (was.written text prints)
          (c.in_ok-write_view.ensures.written text of (words_of all) (subst
          (λ plan. Prints c.args.report.now plan text) (sym plan) prints)
          (seen g (goal.at.views-preserved g c).After-pipeline));
      out_later = let a = was.out_later in let b = c.write_view.ensures.out_later in omega arith;
      later = let a = was.later in let b = c.advance.ensures.steps in let d = c.write_view.ensures.steps in omega arith;
    }

pub returns-in_err-write_view-clause-breaks_off : goal.returns-in_err-write_view-clause-breaks_off
returns-in_err-write_view-clause-breaks_off g c =
    let all = coming c.args.packets in
    let of = geometry_for g.row.WAYS c.args.schedule in
    let some : 0 < c.args.every = omega arith in
    let was = c.views.invariant in
    let done = c.in_ok-advance.ensures in
    let way = done.all (ap Ok c.if-branch.true) c.args.schedule all c.views.number was.way in
    let plan = ap (λ (p : PipelineView). p.plan) c.pipeline.ensures ∙ (done.keeps.plan ∙ was.keeps.plan) in
    err_is _ _ _ c.from_residual-in_err-write_view.ensures.1 (λ text prints.
    view_broke (text of) _ all g.O.Sink.taken g.O.Sink.faults _ _ _ _ _ (c.requires.viewed some).sound was.multiple some way.within
    (was.written text prints)
    was.out_later _ (c.in_err-write_view.ensures.breaks_off text of (words_of all)
    (subst (λ plan. Prints c.args.report.now plan text) (sym plan) prints)
    (seen g (goal.at.returns-in_err-write_view-clause-breaks_off g c).After-pipeline)))

pub returns-clause-written : goal.returns-clause-written
returns-clause-written g c text prints =
    let all = coming c.args.packets in
    let of = geometry_for g.row.WAYS c.args.schedule in
    let was = c.views.invariant in
    let ended = c.in_ok-advance.ensures.end (ap Ok c.if-branch.false) c.args.schedule all c.views.number was.way in
    subst (Appends (g.O.Sink.taken c.args.out.now) (g.O.Sink.taken c.views.out))
    (sym (all_shown (text of) c.args.every all c.views.number was.multiple was.way.within ended.0)) (was.written text prints)

pub returns-clause-under_way : goal.returns-clause-under_way
returns-clause-under_way g c =
    let all = coming c.args.packets in
    (length all, (c.in_ok-advance.ensures.end (ap Ok c.if-branch.false) c.args.schedule all c.views.number c.views.invariant.way).1)

pub returns-clause-turns : goal.returns-clause-turns
returns-clause-turns g c =
    let all = coming c.args.packets in
    let schedule = c.args.schedule in
    let was = c.views.invariant in
    let done = c.in_ok-advance.ensures in
    let whole = turns_to_the_end _ _ _ c.views.number all _ _ _ was.way.within was.turns
    (done.all_turns (ap Ok c.if-branch.false) schedule all c.views.number was.way) in (
      length all,
      (done.end (ap Ok c.if-branch.false) schedule all c.views.number was.way).1,
      subst (λ ps. MakesTurns g.row.WAYS schedule.refresh schedule.lag 1 (words_of ps) c.args.pipeline (replay_pipeline c.advance.new.self))
          (sym (take-length all)) whole,
    )
