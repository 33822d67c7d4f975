-- a report is written whole, or it breaks off where its tables or the rest of its text do
use Rattle.std.proofs.Common.{Err, ap, refl}
use Rattle.marple_base.proofs.Pieces.{front_taken, rest_taken}
use Rattle.trace_drive.{specs.declared.answer.RunError.TheVariants.Failed, proofs.Breaking.{err_is, rose_since, unwritten}}
use Rattle.query_run.proofs.showing.write_report.Goals as goal

pub returns-in_err-print-clause-breaks_off : goal.returns-in_err-print-clause-breaks_off
returns-in_err-print-clause-breaks_off g c =
    err_is _ _ _ c.from_residual.ensures.1
    (unwritten g.O.Sink.taken g.O.Sink.faults _ _ _ _ refl _ (λ is. c.in_err-print.ensures.failed (ap Err is)) c.in_err-print.ensures.err)

pub returns-in_err-write_rest-clause-breaks_off : goal.returns-in_err-write_rest-clause-breaks_off
returns-in_err-write_rest-clause-breaks_off g c =
    err_is _ _ Failed c.from_residual-in_err-write_rest.ensures.1 (
      refl,
      rose_since _ _ _ c.print.ensures.out_later c.in_err-write_rest.ensures.cause.failed,
      front_taken _ _ _ _ _ c.in_ok-print.ensures.ok c.in_err-write_rest.ensures.front,
    )

pub returns-clause-written : goal.returns-clause-written
returns-clause-written g c = rest_taken _ _ _ _ _ c.in_ok-print.ensures.ok c.in_ok-write_rest.ensures.ok
