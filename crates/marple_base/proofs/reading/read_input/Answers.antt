-- what the input lost is the text so far, which has at most the limit's bytes, also with the chunk that was read last
use Rattle.std.proofs.Common.{◌+◌, ◌<◌, ◌≤◌, ◌∙◌, [], length, take, ap, refl, le_trans, arith}
use Rattle.std.proofs.{lemmas.Grind.common_steps, KnownBytes.{Consumes-kept, Consumes-trans}}
use Rattle.marple_base.proofs.ReadSteps.{no_text, rises, none_lost, up_to_limit, up_to_end, read_more}
use Rattle.marple_base.proofs.reading.read_input.Goals.{else-chunks-test, then-chunks-test+in_ok-count+then-count-eq0}
use Rattle.marple_base.proofs.reading.read_input.Goals as goal

pub returns-in_err-open : goal.returns-in_err-open
returns-in_err-open g c =
    let was = c.open.ensures in
    let none = none_lost c.args.limit _ _ [] was.left refl in
    record {
      text = no_text c.from_residual.result _ c.from_residual.ensures.0;
      opened = no_text c.from_residual.result _ c.from_residual.ensures.0;
      failed = λ _. c.in_err-open.ensures.cause.failed;
      left = ([], none.0, none.1);
      later = was.cause.later;
      other = was.other;
    }

pub chunks-init : goal.chunks-init
chunks-init g c =
    let was = c.open.ensures in
    let none = none_lost c.args.limit _ _ c.new-text.result was.left c.new-text.ensures in
    record { opened = c.in_ok-open.ensures.opened.1 refl; short = none.1; consumed = none.0; later = was.cause.later; other = was.other }

pub read-requires-clause-opened : goal.read-requires-clause-opened
read-requires-clause-opened g c = c.chunks.invariant.opened

pub returns-in_err-count : goal.returns-in_err-count
returns-in_err-count g c =
    let was = c.chunks.invariant in
    let read = c.read.ensures in
    let result = c.from_residual-in_err-count.result in
    record {
      text = no_text result _ c.from_residual-in_err-count.ensures.0;
      opened = no_text result _ c.from_residual-in_err-count.ensures.0;
      failed = λ _. rises _ _ _ was.later c.in_err-count.ensures.cause.failed;
      left = (c.chunks.text, Consumes-kept _ _ _ _ was.consumed c.in_err-count.ensures.bytes, was.short);
      later = le_trans was.later read.cause.later;
      other = read.other ∙ was.other;
    }

pub same-text : goal.same-text
same-text g c = refl

pub same-text-in-Continue-branch-3 : goal.same-text-in-Continue-branch-3
same-text-in-Continue-branch-3 g c = refl

pub same-text-2 : goal.same-text-2
same-text-2 g c = refl

pub returns-in_err-push_pages-clause-text : goal.returns-in_err-push_pages-clause-text
returns-in_err-push_pages-clause-text g c = no_text c.from_residual-in_err-push_pages.result _ c.from_residual-in_err-push_pages.ensures.0

pub returns-in_err-push_pages-clause-opened : goal.returns-in_err-push_pages-clause-opened
returns-in_err-push_pages-clause-opened g c = no_text c.from_residual-in_err-push_pages.result _ c.from_residual-in_err-push_pages.ensures.0

pub returns-in_err-push_pages-clause-left : goal.returns-in_err-push_pages-clause-left
returns-in_err-push_pages-clause-left g c = (
  _,
  Consumes-trans _ _ _ _ _ c.chunks.invariant.consumed c.in_ok-count.ensures.bytes.0,
  grind
      (arith, common_steps),
)

pub returns-in_err-push_pages-clause-later : goal.returns-in_err-push_pages-clause-later
returns-in_err-push_pages-clause-later g c = le_trans c.chunks.invariant.later c.read.ensures.cause.later

pub returns-in_err-push_pages-clause-other : goal.returns-in_err-push_pages-clause-other
returns-in_err-push_pages-clause-other g c = c.read.ensures.other ∙ c.chunks.invariant.other

pub chunks-preserved : goal.chunks-preserved
chunks-preserved g c =
    let was = c.chunks.invariant in
    let read = c.in_ok-count.ensures in
    let short : length c.chunks.text + c.in_ok-count.count ≤ c.args.limit = grind (arith, common_steps) in
    let next = read_more c.args.limit _ _ _ c.chunks.text c.push_pages.new.text _ _ c.in_ok-count.count was.consumed read.bytes.0
    c.in_ok-push_pages.ensures read.bound.0 short in
    record {
      opened = c.read.ensures.opened;
      short = next.1;
      consumed = next.0;
      later = le_trans was.later c.read.ensures.cause.later;
      other = c.read.ensures.other ∙ was.other;
    }

pub returns : goal.returns
returns g c =
    let was = c.chunks.invariant in
    elim c.chunks-test.branch [
      | else-chunks-test w ↦ rw w.inputs-is record {
        text = up_to_limit c.args.limit _ _ c.chunks.text was.consumed was.short (omega (arith, w.chunks-test.false, c.len.ensures));
        opened = was.opened;
        failed = λ is. cc;
        left = (c.chunks.text, was.consumed, was.short);
        later = was.later;
        other = was.other;
      }
      | then-chunks-test+in_ok-count+then-count-eq0 w ↦
          let read = w.in_ok-count.ensures in
          let room : 0 < length w.read.new.buf = grind (arith, common_steps) in
          let none = ap (λ n. take n w.read.new.buf) w.if-count-eq0.true in
          let all = up_to_end c.args.limit _ _ _ c.chunks.text _ was.consumed was.short none
          read.bytes.0 (read.bytes.1 w.if-count-eq0.true room) in
          rw w.inputs-is record {
            text = all;
            opened = w.read.ensures.opened;
            failed = λ is. cc;
            left = (c.chunks.text, all.consumed, was.short);
            later = le_trans was.later w.read.ensures.cause.later;
            other = w.read.ensures.other ∙ was.other;
          }
    ]
