-- A record that is read is the next packet or the trace's fault, and an answer that stops it stays.
use Rattle.std.proofs.Common.{◌+◌, refl}
use Rattle.trace_reader.specs.{Traces.Layout, TraceView.IsSoundAt}
use Rattle.trace_reader.specs.declared.trace.Progress.TheVariants as progress
use Rattle.trace_reader.proofs.TraceFacts.{ended, packet_within, refused, taken}
use Rattle.trace_reader.proofs.trace.Trace.next_into.Goals as goal

pub invariant_of-self-in-Ok : goal.invariant_of-self-in-Ok
invariant_of-self-in-Ok c =
    let trace = c.self.inside in
    let layout : Layout = record { width = trace.width; columns = trace.columns } in
    let sound : IsSoundAt progress.Reading trace = rw c.in-Reading.is at c.self.invariant in
    rw c.in-Reading.is
    (packet_within layout (trace.given + 1) c.next.new.self.fields c.packet_into.new.packet c.in-Ok.ensures.ok, sound.1)

pub returns-in-Ok-clause-packet : goal.returns-in-Ok-clause-packet
returns-in-Ok-clause-packet c _ =
    let trace = c.self.inside in
    let layout : Layout = record { width = trace.width; columns = trace.columns } in
    taken c.args.self.now trace.progress layout (trace.given + 1) trace.records.left c.next.new.self.left
    c.next.new.self.fields c.packet_into.new.packet
    c.self.view_is c.in-Reading.is (c.in-Ok-true.ensures.some c.in-Ok-true.field-0-test) c.in-Ok.ensures.ok

pub returns-in-Err-packet_into-clause-refused : goal.returns-in-Err-packet_into-clause-refused
returns-in-Err-packet_into-clause-refused c =
    let trace = c.self.inside in
    let layout : Layout = record { width = trace.width; columns = trace.columns } in
    let both = refused c.args.self.now trace.progress layout (trace.given + 1) trace.records.left
    c.next.new.self.left c.next.new.self.fields c.in-Err-packet_into.fault
    c.self.view_is c.in-Reading.is (c.in-Ok-true.ensures.some c.in-Ok-true.field-0-test) c.in-Err-packet_into.ensures.err in
    (both, record { packets = refl; fault = refl })

pub returns-in-Ok-false-clause-end : goal.returns-in-Ok-false-clause-end
returns-in-Ok-false-clause-end c _ =
    let trace = c.self.inside in
    let layout : Layout = record { width = trace.width; columns = trace.columns } in
    ended c.args.self.now trace.progress layout (trace.given + 1) trace.records.left c.self.view_is c.in-Reading.is
    (c.in-Ok-false.ensures.none c.in-Ok-false.field-0-test).0
