-- what is printed of the packets so far is the report of the tables that a view gives
use Rattle.std.{proofs.Common.{◌≡◌, ℕ, List, None, ◌++◌, sym, ap, ap₂, ◌∙◌, subst, take}, specs.Io.KnownBytes.Appends}
use Rattle.epoch_model.specs.Epochs.{Geometry}
use Rattle.trace_drive.{specs.Answers.BreaksOff, proofs.Breaking.{err_is, nothing_taken, then_err, then_ok}}
use Rattle.query_run.specs.{Reports.{CanPrint, Prints, printed_by}, Views.{IsAsFarAs, view_text}}
use Rattle.query_run.proofs.Seen.{at_an_end, seen_tables, seen_whole}
use Rattle.query_run.proofs.showing.write_view.Goals as goal
use Rattle.query_run.proofs.showing.write_view.Goals.{After-write_report}

pub write_report-requires : goal.write_report-requires
write_report-requires g c =
    let p = c.args.pipeline.now in
    let r = c.requires.seen in
    let May = CanPrint c.args.report.now in
    record {
      can_print = subst May
          (sym (seen_tables c.views_end_the_trace.ensures _ _ _ _ p _ c.invariant.ensures c.in_ok-tables.ensures.tables r.2))
          (at_an_end (λ g packets tables. May tables) _ _ _ p r.0 (take c.args.number r.1) c.invariant-2.ensures c.plan.ensures
          c.invariant.ensures c.requires.entries c.requires.may_print r.2.room (seen_whole _ _ _ p r.2));
    }

pub returns-in_err-tables-clause-breaks_off : goal.returns-in_err-tables-clause-breaks_off
returns-in_err-tables-clause-breaks_off g c =
    err_is _ _ _ c.from_residual.ensures.1 (λ text of packets prints far. nothing_taken _ _)

pub returns-in_err-line-clause-breaks_off : goal.returns-in_err-line-clause-breaks_off
returns-in_err-line-clause-breaks_off g c =
    err_is _ _ _ c.from_residual-in_err-line.ensures.1 (λ text of packets prints far. nothing_taken _ _)

-- what is written is the text of the view
written_is : (g : _) (c : After-write_report g) (text : Geometry → List (List ℕ) → List ℕ) (of : Geometry) (packets : List (List ℕ))
    → Prints c.args.report.now c.args.pipeline.now.plan text
    → IsAsFarAs of packets c.args.number c.args.pipeline.now
    → c.in_ok-line.line ++ printed_by c.args.report.now c.in_ok-tables.tables ≡ view_text (text of) packets c.args.number
written_is g c text of packets prints far =
    let p = c.args.pipeline.now in
    let printed = printed_by c.args.report.now in
    ap₂ (λ line tables. line ++ tables) c.in_ok-line.ensures
    (ap printed (seen_tables c.views_end_the_trace.ensures _ _ _ _ p _ c.invariant.ensures c.in_ok-tables.ensures.tables far)
    ∙ at_an_end (λ g packets tables. printed tables ≡ text g packets) _ _ _ p of (take c.args.number packets) c.invariant-2.ensures
    c.plan.ensures c.invariant.ensures c.requires.entries prints.at_ends far.room (seen_whole _ _ _ p far))

pub returns-clause-written : goal.returns-clause-written
returns-clause-written g c = then_ok c.write_report.result _ _ (λ written text of packets prints far. subst (Appends _ _)
    (written_is g (goal.at.returns-clause-written g c).After-write_report text of packets prints far) written)
    c.write_report.ensures.written

pub returns-clause-breaks_off : goal.returns-clause-breaks_off
returns-clause-breaks_off g c = then_err c.write_report.result _ _ (λ answer broke text of packets prints far. subst
    (λ written. BreaksOff g.O.Sink.taken g.O.Sink.faults written None c.args.out.now c.write_report.new.out answer)
    (written_is g (goal.at.returns-clause-breaks_off g c).After-write_report text of packets prints far) broke)
    c.write_report.ensures.breaks_off
