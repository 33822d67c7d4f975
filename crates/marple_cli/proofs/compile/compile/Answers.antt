-- a compilation ends as its phases do: the query is read and has a plan's text, which is made, and then it is written
use Rattle.command_line.specs.declared.command.Command.TheVariants.{Compile}
use Rattle.std.proofs.Common.{◌∙◌, refl}
use Rattle.command_answers.specs.{OwnChecks.fault_with, declared.status.Status.TheVariants.OutputFault}
use Rattle.plan_writer.specs.PlanText.{final_fault}
use Rattle.marple_cli.proofs.{Ending.{all_written, handed_on, query_fits, query_ended, memory_ended, writing_ended}, Texts.compiled_is}
use Rattle.marple_cli.proofs.compile.compile.Goals as goal

pub returns-in_err-query-clause-ends : goal.returns-in_err-query-clause-ends
returns-in_err-query-clause-ends g c =
    handed_on g.O.Sink.taken g.O.Sink.faults Compile (g.I.Inputs.input c.args.inputs.now) (g.I.Inputs.input c.query_for.new.inputs)
    c.args.out.now c.args.out.now _ _ c.from_residual.ensures.1
    (query_ended _ _ _ _ _ (fault_with final_fault) (λ query. refl) _ refl c.in_err-query.ensures.trace_kept _ c.in_err-query.ensures.err)

pub returns-in_err-text-clause-ends : goal.returns-in_err-text-clause-ends
returns-in_err-text-clause-ends g c =
    handed_on g.O.Sink.taken g.O.Sink.faults Compile (g.I.Inputs.input c.args.inputs.now) (g.I.Inputs.input c.query_for.new.inputs)
    c.args.out.now c.args.out.now _ _ c.from_residual-in_err-text.ensures.1 (memory_ended _ _ _ _ _ _ c.in_ok-query.ensures.trace_kept)

pub returns-in_err-write_all-clause-ends : goal.returns-in_err-write_all-clause-ends
returns-in_err-write_all-clause-ends g c =
    let done = c.in_ok-query.ensures in
    let found = c.in_ok-query.query.typed in
    handed_on g.O.Sink.taken g.O.Sink.faults Compile (g.I.Inputs.input c.args.inputs.now) (g.I.Inputs.input c.query_for.new.inputs)
    c.args.out.now c.write_all.new.out _ _ c.from_residual-in_err-write_all.ensures.1
    (writing_ended _ _ _ _ _ _ _ (query_fits Compile final_fault (g.I.Inputs.input c.args.inputs.now) found (λ query. refl) done.ok
    done.fits) c.as_slice.result.now (compiled_is (g.I.Inputs.input c.args.inputs.now) found done.ok c.as_slice.result.now done.fits
    (c.as_slice.ensures ∙ c.in_ok-text.ensures)) OutputFault (c.in_err-write_all.ensures.cause.failed, c.in_err-write_all.ensures.front))

pub returns-clause-ends : goal.returns-clause-ends
returns-clause-ends g c =
    let done = c.in_ok-query.ensures in
    let found = c.in_ok-query.query.typed in
    all_written g.O.Sink.taken g.O.Sink.faults Compile (g.I.Inputs.input c.args.inputs.now) (g.I.Inputs.input c.query_for.new.inputs)
    c.args.out.now c.write_all.new.out
    (query_fits Compile final_fault (g.I.Inputs.input c.args.inputs.now) found (λ query. refl) done.ok done.fits) c.as_slice.result.now
    (compiled_is (g.I.Inputs.input c.args.inputs.now) found done.ok c.as_slice.result.now done.fits
    (c.as_slice.ensures ∙ c.in_ok-text.ensures)) c.in_ok-write_all.ensures.ok
