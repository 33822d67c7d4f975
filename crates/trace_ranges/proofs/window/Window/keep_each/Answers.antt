-- The window after the bytes so far is over them, and the buffer starts with those of them that it keeps.
use Rattle.std.proofs.Common.{arith, refl, rules, sym}
use Rattle.trace_ranges.proofs.WindowFacts.{byte_dropped, byte_kept, kept_none, window_more}
use Rattle.trace_ranges.proofs.window.Window.keep_each.Goals as goal
use Rattle.trace_ranges.proofs.window.Window.keep_each.Goals.{else-window, then-window}

pub loop-i-init : goal.loop-i-init
loop-i-init c = record { window = refl; kept = sym (kept_none c.args.self.now); few = omega arith; room = refl }

pub loop-i-preserved : goal.loop-i-preserved
loop-i-preserved c =
    let before = c.loop-i.invariant in
    let window = c.args.self.now in
    let now = c.loop-i.window in
    let bytes = c.args.bytes.now in
    let buf = c.loop-i.buf in
    let i = c.loop-i.i in
    let count = c.loop-i.count in
    let next = window_more window now c.after-window.result bytes i c.loop-i-test.true before.window c.after-window.ensures in
    elim c.if-window.branch [
      | then-window w ↦ rw (w.buf-is, w.count-is) (record {
        window = next;
        kept = byte_kept window now bytes buf i count c.loop-i-test.true before.window before.kept w.if-window.true
            (omega (arith, before.few, before.room, c.loop-i-test.true, c.requires));
        few = omega (arith, before.few);
        room = search rules;
      })
      | else-window w ↦ rw (w.buf-is, w.count-is) (record {
        window = next;
        kept = byte_dropped window now bytes buf i count c.loop-i-test.true before.window before.kept w.if-window.false;
        few = omega (arith, before.few);
        room = before.room;
      })
    ]
