-- Each fault and refusal of the status follows from how the splitting, or else the facts, came to an end.
use Rattle.marple_base.specs.declared.inputs.Which.TheVariants.{Query}
use Rattle.trace_ranges.specs.Ranges.{within}
use Rattle.trace_split.specs.Traces.{faults_of}
use Rattle.tools_cli.{specs.{Call.asked_by, Ends.AreTexts}, proofs.EndFacts.{after_query, at_field_needed, at_out_fault, at_parts_fault}}
use Rattle.tools_cli.proofs.EndFacts.{at_query_fault, at_query_refused, at_trace_fault, at_trace_refused, of_facts}
use Rattle.tools_cli.proofs.top.marple_tools.Goals as goal

pub returns-clause-query_fault : goal.returns-clause-query_fault
returns-clause-query_fault g c =
    at_query_fault (g.I.Inputs.input c.args.inputs.now Query).left (AreTexts g.T.Inputs.input c.args.traces.now)
    (g.I.Inputs.input c.args.inputs.now Query).faults (g.I.Inputs.input c.answer-status.new.inputs Query).faults
    (faults_of (within g.T.Inputs.input) c.args.traces.now) (faults_of (within g.T.Inputs.input) c.answer-status.new.traces)
    (g.P.Parts.faults c.args.parts.now) (g.P.Parts.faults c.answer-status.new.parts)
    (g.O.Sink.faults c.args.out.now) (g.O.Sink.faults c.answer-status.new.out) (asked_by c.args.words.now) c.answer-status.result
    c.answer-status.ensures.usage c.answer-status.ensures.ends c.answer-status.ensures.facts_end

pub returns-clause-trace_fault : goal.returns-clause-trace_fault
returns-clause-trace_fault g c =
    at_trace_fault (g.I.Inputs.input c.args.inputs.now Query).left (AreTexts g.T.Inputs.input c.args.traces.now)
    (g.I.Inputs.input c.args.inputs.now Query).faults (g.I.Inputs.input c.answer-status.new.inputs Query).faults
    (faults_of (within g.T.Inputs.input) c.args.traces.now) (faults_of (within g.T.Inputs.input) c.answer-status.new.traces)
    (g.P.Parts.faults c.args.parts.now) (g.P.Parts.faults c.answer-status.new.parts)
    (g.O.Sink.faults c.args.out.now) (g.O.Sink.faults c.answer-status.new.out) (asked_by c.args.words.now) c.answer-status.result
    c.answer-status.ensures.usage c.answer-status.ensures.ends c.answer-status.ensures.facts_end

pub returns-clause-parts_fault : goal.returns-clause-parts_fault
returns-clause-parts_fault g c =
    at_parts_fault (g.I.Inputs.input c.args.inputs.now Query).left (AreTexts g.T.Inputs.input c.args.traces.now)
    (g.I.Inputs.input c.args.inputs.now Query).faults (g.I.Inputs.input c.answer-status.new.inputs Query).faults
    (faults_of (within g.T.Inputs.input) c.args.traces.now) (faults_of (within g.T.Inputs.input) c.answer-status.new.traces)
    (g.P.Parts.faults c.args.parts.now) (g.P.Parts.faults c.answer-status.new.parts)
    (g.O.Sink.faults c.args.out.now) (g.O.Sink.faults c.answer-status.new.out) (asked_by c.args.words.now) c.answer-status.result
    c.answer-status.ensures.usage c.answer-status.ensures.ends c.answer-status.ensures.facts_end

pub returns-clause-out_fault : goal.returns-clause-out_fault
returns-clause-out_fault g c =
    at_out_fault (g.I.Inputs.input c.args.inputs.now Query).left (AreTexts g.T.Inputs.input c.args.traces.now)
    (g.I.Inputs.input c.args.inputs.now Query).faults (g.I.Inputs.input c.answer-status.new.inputs Query).faults
    (faults_of (within g.T.Inputs.input) c.args.traces.now) (faults_of (within g.T.Inputs.input) c.answer-status.new.traces)
    (g.P.Parts.faults c.args.parts.now) (g.P.Parts.faults c.answer-status.new.parts)
    (g.O.Sink.faults c.args.out.now) (g.O.Sink.faults c.answer-status.new.out) (asked_by c.args.words.now) c.answer-status.result
    c.answer-status.ensures.usage c.answer-status.ensures.ends c.answer-status.ensures.facts_end

pub returns-clause-query_refused : goal.returns-clause-query_refused
returns-clause-query_refused g c =
    at_query_refused (g.I.Inputs.input c.args.inputs.now Query).left (AreTexts g.T.Inputs.input c.args.traces.now)
    (g.I.Inputs.input c.args.inputs.now Query).faults (g.I.Inputs.input c.answer-status.new.inputs Query).faults
    (faults_of (within g.T.Inputs.input) c.args.traces.now) (faults_of (within g.T.Inputs.input) c.answer-status.new.traces)
    (g.P.Parts.faults c.args.parts.now) (g.P.Parts.faults c.answer-status.new.parts)
    (g.O.Sink.faults c.args.out.now) (g.O.Sink.faults c.answer-status.new.out) (asked_by c.args.words.now) c.answer-status.result
    c.answer-status.ensures.usage c.answer-status.ensures.ends c.answer-status.ensures.facts_end

pub returns-clause-field_needed : goal.returns-clause-field_needed
returns-clause-field_needed g c =
    at_field_needed (g.I.Inputs.input c.args.inputs.now Query).left (AreTexts g.T.Inputs.input c.args.traces.now)
    (g.I.Inputs.input c.args.inputs.now Query).faults (g.I.Inputs.input c.answer-status.new.inputs Query).faults
    (faults_of (within g.T.Inputs.input) c.args.traces.now) (faults_of (within g.T.Inputs.input) c.answer-status.new.traces)
    (g.P.Parts.faults c.args.parts.now) (g.P.Parts.faults c.answer-status.new.parts)
    (g.O.Sink.faults c.args.out.now) (g.O.Sink.faults c.answer-status.new.out) (asked_by c.args.words.now) c.answer-status.result
    c.answer-status.ensures.usage c.answer-status.ensures.ends c.answer-status.ensures.facts_end

pub returns-clause-trace_refused : goal.returns-clause-trace_refused
returns-clause-trace_refused g c =
    at_trace_refused (g.I.Inputs.input c.args.inputs.now Query).left (AreTexts g.T.Inputs.input c.args.traces.now)
    (g.I.Inputs.input c.args.inputs.now Query).faults (g.I.Inputs.input c.answer-status.new.inputs Query).faults
    (faults_of (within g.T.Inputs.input) c.args.traces.now) (faults_of (within g.T.Inputs.input) c.answer-status.new.traces)
    (g.P.Parts.faults c.args.parts.now) (g.P.Parts.faults c.answer-status.new.parts)
    (g.O.Sink.faults c.args.out.now) (g.O.Sink.faults c.answer-status.new.out) (asked_by c.args.words.now) c.answer-status.result
    c.answer-status.ensures.usage c.answer-status.ensures.ends c.answer-status.ensures.facts_end

pub returns-clause-facts_take_all : goal.returns-clause-facts_take_all
returns-clause-facts_take_all g c =
    of_facts (g.I.Inputs.input c.args.inputs.now Query).left (AreTexts g.T.Inputs.input c.args.traces.now)
    (g.I.Inputs.input c.args.inputs.now Query).faults (g.I.Inputs.input c.answer-status.new.inputs Query).faults
    (faults_of (within g.T.Inputs.input) c.args.traces.now) (faults_of (within g.T.Inputs.input) c.answer-status.new.traces)
    (g.P.Parts.faults c.args.parts.now) (g.P.Parts.faults c.answer-status.new.parts)
    (g.O.Sink.faults c.args.out.now) (g.O.Sink.faults c.answer-status.new.out) (asked_by c.args.words.now) c.answer-status.result
    c.answer-status.ensures.usage c.answer-status.ensures.ends c.answer-status.ensures.facts_end

pub returns-clause-query_first : goal.returns-clause-query_first
returns-clause-query_first g c =
    after_query (g.I.Inputs.input c.args.inputs.now Query).left (AreTexts g.T.Inputs.input c.args.traces.now)
    (g.I.Inputs.input c.args.inputs.now Query).faults (g.I.Inputs.input c.answer-status.new.inputs Query).faults
    (faults_of (within g.T.Inputs.input) c.args.traces.now) (faults_of (within g.T.Inputs.input) c.answer-status.new.traces)
    (g.P.Parts.faults c.args.parts.now) (g.P.Parts.faults c.answer-status.new.parts) (asked_by c.args.words.now)
    (g.P.Parts.taken c.args.parts.now) (g.P.Parts.taken c.answer-status.new.parts) c.answer-status.result c.answer-status.ensures.ok
    c.answer-status.ensures.ends

pub returns-clause-not_written : goal.returns-clause-not_written
returns-clause-not_written g c before = (c.answer-status.ensures.untouched before).1

pub returns-clause-not_reached : goal.returns-clause-not_reached
returns-clause-not_reached g c before = (c.answer-status.ensures.untouched before).0
