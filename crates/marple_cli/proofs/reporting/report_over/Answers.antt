-- what the bytes that were read say of their packets holds of the trace in the input
use Rattle.marple_base.specs.declared.inputs.Which.TheVariants.{Trace}
use Rattle.std.{proofs.Common.{◌≡◌, None}, specs.Io.KnownBytes.Appends}
use Rattle.switch_core.specs.{PlanLanes.PipelineStands, Ends.end_machines}
use Rattle.trace_drive.{specs.Drives.words_of, proofs.Breaking.err_is}
use Rattle.trace_reader.specs.Traces.{Contents, contents}
use Rattle.command_answers.proofs.Limits.{read_ends, told_contents, trace_ends}
use Rattle.query_run.specs.{Driven.{geometry_of, pipeline_in}, Views.views_text}
use Rattle.marple_cli.proofs.reporting.report_over.Goals as goal

pub returns-in_err-bytes-clause-err : goal.returns-in_err-bytes-clause-err
returns-in_err-bytes-clause-err g c =
    err_is _ _ _ c.from_residual.ensures.1
    (λ text prints. read_ends g.O.Sink.taken g.O.Sink.faults (λ trace. (contents trace c.args.plan.reads).fault)
    (λ trace. views_text (text (geometry_of c.args.setting)) c.args.every (words_of (contents trace c.args.plan.reads).packets))
    (g.I.Inputs.input c.args.inputs.now Trace) (g.I.Inputs.input c.read_trace.new.inputs Trace) c.args.out.now c.in_err-bytes.field-0.0
    c.in_err-bytes.ensures.err)

pub returns-in_err-left-clause-err : goal.returns-in_err-left-clause-err
returns-in_err-left-clause-err g c =
    err_is _ _ _ c.from_residual-in_err-left.ensures.1
    (λ text prints. trace_ends g.O.Sink.taken g.O.Sink.faults c.args.plan.reads (λ found. found.fault)
    (λ (found : Contents). views_text (text (geometry_of c.args.setting)) c.args.every (words_of found.packets))
    (g.I.Inputs.input c.args.inputs.now Trace) (g.I.Inputs.input c.read_trace.new.inputs Trace) c.args.out.now c.run_over_trace.new.out _ _
    _ c.in_ok-bytes.ensures.ok c.as_slice.ensures (c.in_err-left.ensures.breaks_off text prints))

pub returns-clause-accepted : goal.returns-clause-accepted
returns-clause-accepted g c =
    told_contents (λ found. found.fault ≡ None) _ _ _ _ c.in_ok-bytes.ensures.ok c.as_slice.ensures c.in_ok-left.ensures.accepted

pub returns-clause-written : goal.returns-clause-written
returns-clause-written g c text prints =
    told_contents (λ found. Appends (g.O.Sink.taken c.args.out.now) (g.O.Sink.taken c.run_over_trace.new.out)
    (views_text (text (geometry_of c.args.setting)) c.args.every (words_of found.packets)))
    _ _ _ _ c.in_ok-bytes.ensures.ok c.as_slice.ensures (c.in_ok-left.ensures.written text prints)

pub returns-clause-stands : goal.returns-clause-stands
returns-clause-stands g c =
    told_contents (λ found. PipelineStands (pipeline_in c.in_ok-left.left)
    (end_machines c.args.plan (geometry_of c.args.setting) (words_of found.packets)))
    _ _ _ _ c.in_ok-bytes.ensures.ok c.as_slice.ensures c.in_ok-left.ensures.stands
