-- each clause is what the table of statuses says of the answer
use Rattle.std.proofs.Common.{Option}
use Rattle.marple_base.specs.Inputs.{IsClosed}
use Rattle.command_line.specs.declared.command.Command.{Command}
use Rattle.command_answers.specs.declared.status.Status.{Status}
use Rattle.command_answers.specs.declared.status.Status.TheVariants as statuses
use Rattle.marple_cli.{specs.Call.asked_by, proofs.Clauses.{OfAnswers, fault_of_trace, input_fault, no_operand, not_reached, output_fault}}
use Rattle.marple_cli.proofs.{Clauses.{told, query_refused, refuses_query, trace_refused, usage}, Taken.of_each}
use Rattle.marple_cli.proofs.top.marple.Goals as goal
use Rattle.marple_cli.proofs.top.marple.Goals.{After-answer-status}

pub answer-status-requires : goal.answer-status-requires
answer-status-requires g c = record {
  closed = of_each (λ which. IsClosed (g.I.Inputs.input c.args.inputs.now which)) c.requires.query_closed c.requires.trace_closed;
}

-- what holds of each answer to what is asked for holds of this one
said : (g : _) (c : After-answer-status g) (P : Option Command → Status → Type 0)
    → OfAnswers g.O.Sink.taken g.O.Sink.faults (g.I.Inputs.input c.args.inputs.now) (g.I.Inputs.input c.answer-status.new.inputs)
    c.args.out.now c.answer-status.new.out P → P (asked_by c.args.words.now) c.answer-status.result
said g c P of_all = of_all (asked_by c.args.words.now) c.answer-status.result c.answer-status.ensures.answers

pub returns-clause-usage : goal.returns-clause-usage
returns-clause-usage g c = said g (goal.at.returns-clause-usage g c).After-answer-status _ (usage g.O.Sink.taken g.O.Sink.faults _ _ _ _)

pub returns-clause-input_fault : goal.returns-clause-input_fault
returns-clause-input_fault g c =
    said g (goal.at.returns-clause-input_fault g c).After-answer-status _ (input_fault g.O.Sink.taken g.O.Sink.faults _ _ _ _)

pub returns-clause-trace_fault : goal.returns-clause-trace_fault
returns-clause-trace_fault g c =
    said g (goal.at.returns-clause-trace_fault g c).After-answer-status _ (fault_of_trace g.O.Sink.taken g.O.Sink.faults _ _ _ _)

pub returns-clause-output_fault : goal.returns-clause-output_fault
returns-clause-output_fault g c =
    said g (goal.at.returns-clause-output_fault g c).After-answer-status _ (output_fault g.O.Sink.taken g.O.Sink.faults _ _ _ _)

pub returns-clause-query_refused : goal.returns-clause-query_refused
returns-clause-query_refused g c =
    said g (goal.at.returns-clause-query_refused g c).After-answer-status _ (query_refused g.O.Sink.taken g.O.Sink.faults _ _ _ _)

pub returns-clause-trace_refused : goal.returns-clause-trace_refused
returns-clause-trace_refused g c =
    said g (goal.at.returns-clause-trace_refused g c).After-answer-status _ (trace_refused g.O.Sink.taken g.O.Sink.faults _ _ _ _)

pub returns-clause-no_operand : goal.returns-clause-no_operand
returns-clause-no_operand g c =
    said g (goal.at.returns-clause-no_operand g c).After-answer-status _ (no_operand g.O.Sink.taken g.O.Sink.faults _ _ _ _)

pub returns-clause-untouched : goal.returns-clause-untouched
returns-clause-untouched g c =
    (said g (goal.at.returns-clause-untouched g c).After-answer-status _ (not_reached g.O.Sink.taken g.O.Sink.faults _ _ _ _)).0

pub returns-clause-not_reached : goal.returns-clause-not_reached
returns-clause-not_reached g c =
    (said g (goal.at.returns-clause-not_reached g c).After-answer-status _ (not_reached g.O.Sink.taken g.O.Sink.faults _ _ _ _)).1

pub returns-clause-refuses_query : goal.returns-clause-refuses_query
returns-clause-refuses_query g c fault command query is has left read some =
    (said g (goal.at.returns-clause-refuses_query g c).After-answer-status _ (refuses_query g.O.Sink.taken g.O.Sink.faults _ _ _ _)
    fault command query is has left read some).0

pub returns-clause-memory_query : goal.returns-clause-memory_query
returns-clause-memory_query g c fault memory command query is has left read some =
    (said g (goal.at.returns-clause-memory_query g c).After-answer-status _ (refuses_query g.O.Sink.taken g.O.Sink.faults _ _ _ _)
    fault command query is has left read some).1

pub returns-clause-query_first : goal.returns-clause-query_first
returns-clause-query_first g c fault command query is has left read some =
    (said g (goal.at.returns-clause-query_first g c).After-answer-status _ (refuses_query g.O.Sink.taken g.O.Sink.faults _ _ _ _)
    fault command query is has left read some).2

pub returns-clause-ok : goal.returns-clause-ok
returns-clause-ok g c = said g (goal.at.returns-clause-ok g c).After-answer-status _
    (told g.O.Sink.taken g.O.Sink.faults _ _ _ _ _ statuses.Ok (λ e. cc) (λ command e. e.1))

pub returns-clause-output_front : goal.returns-clause-output_front
returns-clause-output_front g c = said g (goal.at.returns-clause-output_front g c).After-answer-status _
    (told g.O.Sink.taken g.O.Sink.faults _ _ _ _ _ statuses.OutputFault (λ e. cc) (λ command e. e.2))

pub returns-clause-memory_front : goal.returns-clause-memory_front
returns-clause-memory_front g c = said g (goal.at.returns-clause-memory_front g c).After-answer-status _
    (told g.O.Sink.taken g.O.Sink.faults _ _ _ _ _ statuses.Memory (λ e. cc) (λ command e. e.0))

pub returns-clause-lost : goal.returns-clause-lost
returns-clause-lost g c = c.answer-status.ensures.lost

pub returns-clause-query_later : goal.returns-clause-query_later
returns-clause-query_later g c = c.answer-status.ensures.query_later

pub returns-clause-trace_later : goal.returns-clause-trace_later
returns-clause-trace_later g c = c.answer-status.ensures.trace_later

pub returns-clause-out_later : goal.returns-clause-out_later
returns-clause-out_later g c = c.answer-status.ensures.out_later

pub returns-clause-driven : goal.returns-clause-driven
returns-clause-driven g c = c.answer-status.ensures.driven

pub returns-clause-steps : goal.returns-clause-steps
returns-clause-steps g c = c.answer-status.ensures.steps

pub returns-clause-complaint_front : goal.returns-clause-complaint_front
returns-clause-complaint_front g c = c.complain.ensures.front
