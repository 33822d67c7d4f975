-- without views a run writes its tables alone
use Rattle.std.{proofs.Common.{None, subst}, specs.Io.KnownBytes.Appends}
use Rattle.trace_drive.{specs.{Answers.BreaksOff, Drives.words_of}, proofs.Breaking.err_is}
use Rattle.query_run.{specs.Driven.geometry_of, proofs.ViewTexts.tables_alone}
use Rattle.query_run.proofs.runs.run_over_made.Goals as goal

pub returns-in_err-left-clause-breaks_off : goal.returns-in_err-left-clause-breaks_off
returns-in_err-left-clause-breaks_off g c =
    err_is _ _ _ c.from_residual.ensures.1 (λ text prints.
    subst (λ written. BreaksOff g.O.Sink.taken g.O.Sink.faults written None c.args.out.now c.run_with_its_ways.new.out
    c.in_err-left.field-0.0) (tables_alone (text (geometry_of c.args.setting)) (words_of c.args.made))
    (c.in_err-left.ensures.breaks_off text prints))

pub returns-clause-written : goal.returns-clause-written
returns-clause-written g c text prints =
    subst (Appends _ _) (tables_alone (text _) (words_of c.args.made)) (c.in_ok-left.ensures.written text prints)
