-- a network's tables end as their phases do: the query is read and can be combined, the trace is read, and then the packets are run
use Rattle.command_line.specs.declared.command.Command.TheVariants.{Net}
use Rattle.std.proofs.Common.{refl, Some}
use Rattle.net_wide.specs.Combining.{net_fault}
use Rattle.command_answers.specs.OwnChecks.{fault_with}
use Rattle.marple_cli.proofs.{Ending.{handed_on, query_ended}, Taken.{both_lost, query_lost}, Texts.net_over}
use Rattle.marple_cli.proofs.Traced.{broken_off, not_read, whole_written}
use Rattle.marple_cli.specs.Call.{LosesWhatIsRead}
use Rattle.marple_cli.proofs.switches.run_network.Goals as goal
use Rattle.marple_cli.proofs.switches.run_network.Goals.{After-read_trace}

pub returns-in_err-query-clause-ends : goal.returns-in_err-query-clause-ends
returns-in_err-query-clause-ends g c =
    handed_on g.O.Sink.taken g.O.Sink.faults (Net c.args.setting) (g.I.Inputs.input c.args.inputs.now)
    (g.I.Inputs.input c.query_for.new.inputs) c.args.out.now c.args.out.now _ _ c.from_residual.ensures.1
    (query_ended _ _ _ _ _ (fault_with net_fault) (λ query. refl) _ refl c.in_err-query.ensures.trace_kept _ c.in_err-query.ensures.err)

pub returns-in-Err-clause-ends : goal.returns-in-Err-clause-ends
returns-in-Err-clause-ends g c =
    let done = c.in_ok-query.ensures in
    (not_read g.O.Sink.taken g.O.Sink.faults (g.I.Inputs.input c.read_trace.new.inputs)
    (net_over (g.I.Inputs.input c.args.inputs.now) c.in_ok-query.query.typed done.ok (g.I.Inputs.input c.query_for.new.inputs)
    done.trace_kept c.args.setting done.fits) c.args.out.now c.in-Err.status c.in-Err.ensures.err).ends

pub returns-in_err-net_over_trace-clause-ends : goal.returns-in_err-net_over_trace-clause-ends
returns-in_err-net_over_trace-clause-ends g c =
    let done = c.in_ok-query.ensures in
    handed_on g.O.Sink.taken g.O.Sink.faults (Net c.args.setting) (g.I.Inputs.input c.args.inputs.now)
    (g.I.Inputs.input c.read_trace.new.inputs) c.args.out.now c.net_over_trace.new.out _ _ c.from_residual-in_err-net_over_trace.ensures.1
    (broken_off _ _ _ (net_over (g.I.Inputs.input c.args.inputs.now) c.in_ok-query.query.typed done.ok
    (g.I.Inputs.input c.query_for.new.inputs) done.trace_kept
    c.args.setting done.fits) _ _ c.in-Ok.ensures.ok c.as_slice.ensures _ _ _ c.in_err-net_over_trace.ensures.breaks_off)

pub returns-clause-ends : goal.returns-clause-ends
returns-clause-ends g c =
    let done = c.in_ok-query.ensures in
    whole_written g.O.Sink.taken g.O.Sink.faults (g.I.Inputs.input c.read_trace.new.inputs)
    (net_over (g.I.Inputs.input c.args.inputs.now) c.in_ok-query.query.typed done.ok (g.I.Inputs.input c.query_for.new.inputs)
    done.trace_kept c.args.setting done.fits) _ _ c.in-Ok.ensures.ok c.as_slice.ensures c.args.out.now
    c.net_over_trace.new.out c.in_ok-net_over_trace.ensures.accepted c.in_ok-net_over_trace.ensures.written

-- the query and the trace are read by then
both_read : (g : _) (c : After-read_trace g)
    → LosesWhatIsRead (Some (Net c.args.setting)) (g.I.Inputs.input c.args.inputs.now) (g.I.Inputs.input c.read_trace.new.inputs)
both_read g c =
    both_lost (Some (Net c.args.setting)) (g.I.Inputs.input c.args.inputs.now) (g.I.Inputs.input c.read_trace.new.inputs)
    (g.I.Inputs.input c.query_for.new.inputs) c.query_for.ensures.lost c.query_for.ensures.trace_kept
    c.read_trace.ensures.lost c.read_trace.ensures.query_kept

pub returns-in_err-query-clause-lost : goal.returns-in_err-query-clause-lost
returns-in_err-query-clause-lost g c =
    query_lost (Some (Net c.args.setting)) (g.I.Inputs.input c.args.inputs.now) (g.I.Inputs.input c.query_for.new.inputs)
    c.query_for.ensures.lost c.query_for.ensures.trace_kept

pub returns-in-Err-clause-lost : goal.returns-in-Err-clause-lost
returns-in-Err-clause-lost g c = both_read g (goal.at.returns-in-Err-clause-lost g c).After-read_trace

pub returns-in_err-net_over_trace-clause-lost : goal.returns-in_err-net_over_trace-clause-lost
returns-in_err-net_over_trace-clause-lost g c = both_read g (goal.at.returns-in_err-net_over_trace-clause-lost g c).After-read_trace

pub returns-clause-lost : goal.returns-clause-lost
returns-clause-lost g c = both_read g (goal.at.returns-clause-lost g c).After-read_trace
