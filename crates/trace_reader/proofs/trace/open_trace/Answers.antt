-- A trace is refused at its opening for its length, for no header or for its columns, in this order.
use Rattle.std.proofs.Common.{◌∙◌, sym}
use Rattle.trace_reader.proofs.TraceFacts.{fault_early, opening_bad, opening_empty, opening_good, opening_long, upcoming_good}
use Rattle.trace_reader.proofs.trace.open_trace.Goals as goal

pub returns-then-bytes-gt-MAX_TRACE-clause-opening : goal.returns-then-bytes-gt-MAX_TRACE-clause-opening
returns-then-bytes-gt-MAX_TRACE-clause-opening c = opening_long c.args.bytes.now c.args.reads c.if-bytes-gt-MAX_TRACE.true

pub returns-in-Ok-false-clause-opening : goal.returns-in-Ok-false-clause-opening
returns-in-Ok-false-clause-opening c =
    let none = sym c.new-records.ensures ∙ (c.in-Ok-false.ensures.none c.in-Ok-false.field-0-test).0 in
    opening_empty c.args.bytes.now c.args.reads c.if-bytes-gt-MAX_TRACE.false none

pub returns-in-Err-columns-clause-opening : goal.returns-in-Err-columns-clause-opening
returns-in-Err-columns-clause-opening c =
    let all = sym c.new-records.ensures ∙ c.in-Ok-true.ensures.some c.in-Ok-true.field-0-test in
    opening_bad c.args.bytes.now c.args.reads c.next.new.self.fields c.next.new.self.left
    c.in-Err-columns.fault c.if-bytes-gt-MAX_TRACE.false all c.in-Err-columns.ensures.value

pub returns-then-bytes-gt-MAX_TRACE-clause-refused : goal.returns-then-bytes-gt-MAX_TRACE-clause-refused
returns-then-bytes-gt-MAX_TRACE-clause-refused c =
    fault_early c.args.bytes.now c.args.reads _ (opening_long c.args.bytes.now c.args.reads c.if-bytes-gt-MAX_TRACE.true)

pub returns-in-Ok-false-clause-refused : goal.returns-in-Ok-false-clause-refused
returns-in-Ok-false-clause-refused c =
    let none = sym c.new-records.ensures ∙ (c.in-Ok-false.ensures.none c.in-Ok-false.field-0-test).0 in
    fault_early c.args.bytes.now c.args.reads _ (opening_empty c.args.bytes.now c.args.reads c.if-bytes-gt-MAX_TRACE.false none)

pub returns-in-Err-columns-clause-refused : goal.returns-in-Err-columns-clause-refused
returns-in-Err-columns-clause-refused c =
    let all = sym c.new-records.ensures ∙ c.in-Ok-true.ensures.some c.in-Ok-true.field-0-test in
    fault_early c.args.bytes.now c.args.reads _ (opening_bad c.args.bytes.now c.args.reads c.next.new.self.fields
    c.next.new.self.left c.in-Err-columns.fault c.if-bytes-gt-MAX_TRACE.false all c.in-Err-columns.ensures.value)

pub returns-clause-opened : goal.returns-clause-opened
returns-clause-opened c =
    let all = sym c.new-records.ensures ∙ c.in-Ok-true.ensures.some c.in-Ok-true.field-0-test in
    rw c.in-Ok-new.ensures (upcoming_good c.args.bytes.now c.args.reads c.next.new.self.fields
    c.next.new.self.left c.in-Ok.columns c.len-width.result
    c.if-bytes-gt-MAX_TRACE.false all c.in-Ok.ensures.value c.len-width.ensures)

pub returns-clause-accepted : goal.returns-clause-accepted
returns-clause-accepted c =
    let all = sym c.new-records.ensures ∙ c.in-Ok-true.ensures.some c.in-Ok-true.field-0-test in
    rw (opening_good c.args.bytes.now c.args.reads c.next.new.self.fields c.next.new.self.left c.in-Ok.columns
    c.if-bytes-gt-MAX_TRACE.false all c.in-Ok.ensures.value)
