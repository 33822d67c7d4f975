-- Bytes all inside the range are kept as they are, and of bytes all before it none is.
use Rattle.std.proofs.{Common.{ap, arith, drop, sym, length, ◌∙◌}, lemmas.List.{take-append-le, take_all}}
use Rattle.trace_ranges.proofs.WindowFacts.{before_keeps, inside_keeps}
use Rattle.trace_ranges.proofs.window.Window.keep.Goals as goal

pub returns-then-count-self-clause-kept : goal.returns-then-count-self-clause-kept
returns-then-count-self-clause-kept c =
    let bytes = c.args.bytes.now in
    let all = inside_keeps c.args.self.now c.in-Records.place c.place_over.result bytes c.in-Records.is c.if-self.true c.if-self-eq0.true
    c.if-count-self.true c.place_over.ensures in
    let after = c.copy_from_slice.ensures.after in
    let copied = c.copy_from_slice.new.self in
    let rest = drop (length bytes) c.args.buf.now in
    take-append-le (length bytes) copied rest (omega (arith, ap length after))
    ∙ (take_all (length bytes) copied (omega (arith, ap length after)) ∙ (after ∙ sym all.0))

pub returns-then-count-self-clause-window : goal.returns-then-count-self-clause-window
returns-then-count-self-clause-window c =
    (inside_keeps c.args.self.now c.in-Records.place c.place_over.result c.args.bytes.now c.in-Records.is c.if-self.true
    c.if-self-eq0.true c.if-count-self.true c.place_over.ensures).1

pub returns-then-count-self-2-clause-kept : goal.returns-then-count-self-2-clause-kept
returns-then-count-self-2-clause-kept c =
    sym (before_keeps c.args.self.now c.in-Records.place c.place_over-then-count-self-2.result c.saturating_sub-self.result
    c.args.bytes.now c.in-Records.is c.if-not-self.true c.if-count-self-2.true c.place_over-then-count-self-2.ensures
    c.saturating_sub-self.ensures).0

pub returns-then-count-self-2-clause-window : goal.returns-then-count-self-2-clause-window
returns-then-count-self-2-clause-window c =
    (before_keeps c.args.self.now c.in-Records.place c.place_over-then-count-self-2.result c.saturating_sub-self.result
    c.args.bytes.now c.in-Records.is c.if-not-self.true c.if-count-self-2.true c.place_over-then-count-self-2.ensures
    c.saturating_sub-self.ensures).1
