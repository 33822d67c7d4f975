-- stages end as their phases do: the query is read, its plan's text is made, and then it is written
use Rattle.command_line.specs.{declared.command.Command.TheVariants.Plan, Command.ways_number}
use Rattle.std.proofs.Common.{◌∙◌, ap, refl}
use Rattle.accepted_query.specs.Accepted.{query_fault}
use Rattle.command_answers.specs.declared.status.Status.TheVariants.{OutputFault}
use Rattle.stage_plan.specs.{Planned.shape_of, Shape.plan_text_of}
use Rattle.marple_cli.proofs.Ending.{all_written, handed_on, query_told, stages_are_text, query_ended, memory_ended, writing_ended}
use Rattle.marple_cli.proofs.staging.write_stages.Goals as goal

pub returns-in_err-query-clause-ends : goal.returns-in_err-query-clause-ends
returns-in_err-query-clause-ends g c =
    handed_on g.O.Sink.taken g.O.Sink.faults (Plan c.args.ways) (g.I.Inputs.input c.args.inputs.now)
    (g.I.Inputs.input c.read_query.new.inputs) c.args.out.now c.args.out.now _ _ c.from_residual.ensures.1
    (query_ended _ _ _ _ _ query_fault (λ query. refl) _ refl c.in_err-query.ensures.trace_kept _ c.in_err-query.ensures.err)

pub returns-in_err-text-clause-ends : goal.returns-in_err-text-clause-ends
returns-in_err-text-clause-ends g c =
    handed_on g.O.Sink.taken g.O.Sink.faults (Plan c.args.ways) (g.I.Inputs.input c.args.inputs.now)
    (g.I.Inputs.input c.read_query.new.inputs) c.args.out.now c.args.out.now _ _ c.from_residual-in_err-text.ensures.1
    (memory_ended _ _ _ _ _ _ c.in_ok-query.ensures.trace_kept)

pub returns-in_err-write_all-clause-ends : goal.returns-in_err-write_all-clause-ends
returns-in_err-write_all-clause-ends g c =
    let done = c.in_ok-query.ensures in
    let found = c.in_ok-query.query.typed in
    let text = c.as_slice.ensures ∙ c.in_ok-text.ensures ∙ ap (plan_text_of (shape_of c.in_ok-query.query.plan)) c.number.ensures
    ∙ ap (λ shape. plan_text_of shape (ways_number c.args.ways)) done.plan.shape in
    handed_on g.O.Sink.taken g.O.Sink.faults (Plan c.args.ways) (g.I.Inputs.input c.args.inputs.now)
    (g.I.Inputs.input c.read_query.new.inputs) c.args.out.now c.write_all.new.out _ _ c.from_residual-in_err-write_all.ensures.1
    (writing_ended _ _ _ _ _ _ _ (query_told (Plan c.args.ways) (g.I.Inputs.input c.args.inputs.now) found (λ query. refl) done.ok)
    c.as_slice.result.now (stages_are_text c.args.ways (g.I.Inputs.input c.args.inputs.now) found c.as_slice.result.now done.ok text)
    OutputFault (c.in_err-write_all.ensures.cause.failed, c.in_err-write_all.ensures.front))

pub returns-clause-ends : goal.returns-clause-ends
returns-clause-ends g c =
    let done = c.in_ok-query.ensures in
    let found = c.in_ok-query.query.typed in
    let text = c.as_slice.ensures ∙ c.in_ok-text.ensures ∙ ap (plan_text_of (shape_of c.in_ok-query.query.plan)) c.number.ensures
    ∙ ap (λ shape. plan_text_of shape (ways_number c.args.ways)) done.plan.shape in
    all_written g.O.Sink.taken g.O.Sink.faults (Plan c.args.ways) (g.I.Inputs.input c.args.inputs.now)
    (g.I.Inputs.input c.read_query.new.inputs) c.args.out.now c.write_all.new.out
    (query_told (Plan c.args.ways) (g.I.Inputs.input c.args.inputs.now) found (λ query. refl) done.ok) c.as_slice.result.now
    (stages_are_text c.args.ways (g.I.Inputs.input c.args.inputs.now) found c.as_slice.result.now done.ok text) c.in_ok-write_all.ensures.ok
