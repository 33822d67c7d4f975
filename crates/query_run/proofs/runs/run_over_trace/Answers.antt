-- a trace that is refused or unread breaks off the run before anything is written
use Rattle.std.proofs.{Common.{◌≡◌, Some, [], refl, subst}, KnownBytes.Appends-nil}
use Rattle.trace_drive.{proofs.Breaking.{err_is, reader_breaks}, specs.Drives.words_of}
use Rattle.trace_reader.specs.{Faults.IfRefused, Traces.{packets, trace_fault}}
use Rattle.query_run.specs.{Driven.geometry_of, Views.views_text}
use Rattle.query_run.proofs.runs.run_over_trace.Goals as goal

pub returns-in_err-packets-clause-breaks_off : goal.returns-in_err-packets-clause-breaks_off
returns-in_err-packets-clause-breaks_off g c =
    err_is _ _ _ c.from_residual.ensures.1 (λ text prints. reader_breaks g.O.Sink.taken g.O.Sink.faults _ _ _ _ []
    (views_text (text (geometry_of c.args.setting)) c.args.every (words_of (packets c.args.bytes.now c.args.plan.reads))) refl
    (λ found is. (refl, refl)) (Appends-nil (g.O.Sink.taken c.args.out.now)) c.in_err-packets.field-0.0
    (subst (λ reads. IfRefused c.in_err-packets.field-0.0 (λ found. trace_fault c.args.bytes.now reads ≡ Some found)) c.reads.ensures
    c.in_err-packets.ensures.refused))
