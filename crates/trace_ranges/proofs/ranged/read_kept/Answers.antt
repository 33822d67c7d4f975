-- Bytes read are kept as the window says, and where none is given, nothing of them was to be kept.
use Rattle.std.proofs.{Common.{◌≡◌, ◌<◌, ◌++◌, [], false, arith, ap, drop, length, rules, sym, take, ◌∙◌}, lemmas.List.take-append-le}
use Rattle.marple_base.specs.declared.inputs.Which.TheVariants.{Trace}
use Rattle.trace_ranges.{specs.{Ranges.{is_past, kept, window_over}, declared.window.Window.Window}, proofs.WindowFacts.nearer}
use Rattle.trace_ranges.proofs.ReadFacts.{end_kept, given_kept, keeps_keeps, keeps_none, kept_keeps, known_kept, none_kept, nothing_read}
use Rattle.trace_ranges.proofs.ReadFacts.{past_end}
use Rattle.trace_ranges.proofs.ranged.read_kept.Goals as goal

pub returns-then-count-eq0-clause-bytes : goal.returns-then-count-eq0-clause-bytes
returns-then-count-eq0-clause-bytes g c =
    let first = known_kept c.args.window.now (g.I.Inputs.input c.args.inputs.now Trace).left in
    let window = c.chunks.window in
    let old = (g.I.Inputs.input c.chunks.inputs Trace).left in
    let new = (g.I.Inputs.input c.read.new.self Trace).left in
    let read = c.in_ok-count.ensures.bytes in
    let none = ap (λ n. take n c.read.new.buf) c.if-count-eq0.true in (
      keeps_none first (known_kept window new) (keeps_keeps first (known_kept window old) (known_kept window new) c.chunks.invariant.kept
          (kept_keeps window old new (nothing_read old new (take c.in_ok-count.count c.read.new.buf) read.0 none))),
      λ zero some. end_kept window new (read.1 c.if-count-eq0.true (search rules)),
    )

pub returns-then-given-gt0-clause-bytes : goal.returns-then-given-gt0-clause-bytes
returns-then-given-gt0-clause-bytes g c =
    let first = known_kept c.args.window.now (g.I.Inputs.input c.args.inputs.now Trace).left in
    let piece = take c.in_ok-count.count c.read.new.buf in
    let bytes = take c.in_ok-count.count (c.read.new.buf ++ drop c.min-room.result c.chunks.chunk) in
    let same = take-append-le c.in_ok-count.count c.read.new.buf (drop c.min-room.result c.chunks.chunk) c.in_ok-count.ensures.bound.0 in (
      given_kept c.chunks.window c.keep-given.new.self first (g.I.Inputs.input c.chunks.inputs Trace).left
          (g.I.Inputs.input c.read.new.self Trace).left piece bytes (take c.keep-given.result c.keep-given.new.buf)
          c.chunks.invariant.kept c.in_ok-count.ensures.bytes.0 same c.keep-given.ensures.window c.keep-given.ensures.kept,
      λ zero some. absurd (omega (arith, zero, c.if-given-gt0.true)),
    )

pub chunks-smaller : goal.chunks-smaller
chunks-smaller g c =
    let window = c.chunks.window in
    let piece = take c.in_ok-count.count c.read.new.buf in
    let same = take-append-le c.in_ok-count.count c.read.new.buf (drop c.min-room.result c.chunks.chunk) c.in_ok-count.ensures.bound.0 in
    let moved = c.keep-given.ensures.window ∙ ap (window_over window) same in
    let zero : c.keep-given.result ≡ 0 = search rules in
    let none : kept window piece ≡ [] = sym (ap (kept window) same) ∙ (sym c.keep-given.ensures.kept
    ∙ ap (λ n. take n c.keep-given.new.buf) zero) in
    let past : is_past window ≡ false = search rules in
    let some : 0 < length piece = search rules in
    let less = nearer window piece past some (ap length none) in
    omega (arith, less, ap (λ (l : Window). l.to) moved)

pub chunks-preserved : goal.chunks-preserved
chunks-preserved g c =
    let first = known_kept c.args.window.now (g.I.Inputs.input c.args.inputs.now Trace).left in
    let piece = take c.in_ok-count.count c.read.new.buf in
    let bytes = take c.in_ok-count.count (c.read.new.buf ++ drop c.min-room.result c.chunks.chunk) in
    let same = take-append-le c.in_ok-count.count c.read.new.buf (drop c.min-room.result c.chunks.chunk) c.in_ok-count.ensures.bound.0 in
    let zero : c.keep-given.result ≡ 0 = search rules in
    record {
      kept = none_kept c.chunks.window c.keep-given.new.self first (g.I.Inputs.input c.chunks.inputs Trace).left
          (g.I.Inputs.input c.read.new.self Trace).left piece bytes (take c.keep-given.result c.keep-given.new.buf)
          c.chunks.invariant.kept c.in_ok-count.ensures.bytes.0 same c.keep-given.ensures.window c.keep-given.ensures.kept
          (ap (λ n. take n c.keep-given.new.buf) zero);
      opened = search rules;
      later = search rules;
      other = search rules;
      room = search rules;
      chunk = search rules;
    }

pub returns-clause-bytes : goal.returns-clause-bytes
returns-clause-bytes g c =
    let first = known_kept c.args.window.now (g.I.Inputs.input c.args.inputs.now Trace).left in
    let now = known_kept c.chunks.window (g.I.Inputs.input c.chunks.inputs Trace).left in (
      keeps_none first now c.chunks.invariant.kept,
      λ zero some. past_end c.chunks.window (g.I.Inputs.input c.chunks.inputs Trace).left (search rules),
    )
