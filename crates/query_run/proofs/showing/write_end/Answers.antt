-- what is printed at the end of packets is the report of the tables that the pipeline gives
use Rattle.std.{proofs.Common.{◌≡◌, ℕ, List, None, ◌++◌, sym, ap, ◌∙◌, subst}, specs.Io.KnownBytes.Appends}
use Rattle.epoch_model.specs.{Epochs.Geometry, Laws.HasRoom}
use Rattle.stage_plan.specs.Packets.{AreWhole}
use Rattle.switch_core.specs.{PlanLanes.PipelineStands, Ends.end_machines}
use Rattle.trace_drive.{specs.Answers.BreaksOff, proofs.Breaking.{err_is, nothing_taken, then_err, then_ok}}
use Rattle.query_run.{specs.Reports.{CanPrint, Prints, printed_by}, proofs.Seen.at_an_end}
use Rattle.query_run.proofs.showing.write_end.Goals as goal
use Rattle.query_run.proofs.showing.write_end.Goals.{After-write_report}

pub write_report-requires : goal.write_report-requires
write_report-requires g c =
    let e = c.requires.ends in
    let May = CanPrint c.args.report.now in
    record {
      can_print = subst May (sym (c.in_ok-tables.ensures.closed (end_machines c.args.pipeline.now.plan e.0 e.1) e.4))
          (at_an_end (λ g packets tables. May tables) _ _ _ c.args.pipeline.now e.0 e.1 c.invariant-2.ensures c.plan.ensures
          c.invariant.ensures c.requires.entries c.requires.may_print e.2 e.3);
    }

pub returns-in_err-tables-clause-breaks_off : goal.returns-in_err-tables-clause-breaks_off
returns-in_err-tables-clause-breaks_off g c =
    err_is _ _ _ c.from_residual.ensures.1 (λ text of packets prints room whole stands. nothing_taken _ _)

-- what is written is the text of the packets
written_is : (g : _) (c : After-write_report g) (text : Geometry → List (List ℕ) → List ℕ) (of : Geometry) (packets : List (List ℕ))
    → Prints c.args.report.now c.args.pipeline.now.plan text
    → HasRoom of → AreWhole packets → PipelineStands c.args.pipeline.now (end_machines c.args.pipeline.now.plan of packets)
    → c.new.result ++ printed_by c.args.report.now c.in_ok-tables.tables ≡ text of packets
written_is g c text of packets prints room whole stands =
    let printed = printed_by c.args.report.now in
    ap (λ first. first ++ printed c.in_ok-tables.tables) c.new.ensures
    ∙ (ap printed (c.in_ok-tables.ensures.closed (end_machines c.args.pipeline.now.plan of packets) stands)
    ∙ at_an_end (λ g packets tables. printed tables ≡ text g packets) _ _ _ c.args.pipeline.now of packets c.invariant-2.ensures
    c.plan.ensures c.invariant.ensures c.requires.entries prints.at_ends room whole)

pub returns-clause-written : goal.returns-clause-written
returns-clause-written g c = then_ok c.write_report.result _ _ (λ written text of packets prints room whole stands. subst (Appends _ _)
    (written_is g (goal.at.returns-clause-written g c).After-write_report text of packets prints room whole stands) written)
    c.write_report.ensures.written

pub returns-clause-breaks_off : goal.returns-clause-breaks_off
returns-clause-breaks_off g c = then_err c.write_report.result _ _ (λ answer broke text of packets prints room whole stands. subst
    (λ written. BreaksOff g.O.Sink.taken g.O.Sink.faults written None c.args.out.now c.write_report.new.out answer)
    (written_is g (goal.at.returns-clause-breaks_off g c).After-write_report text of packets prints room whole stands) broke)
    c.write_report.ensures.breaks_off
