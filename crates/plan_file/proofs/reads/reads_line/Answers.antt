-- The tokens passed are the names of the fields found, in the order of all fields, and a line with tokens left isn't valid.
use Rattle.std.{proofs.Common.{◌≡◌, ◌∙◌, ap, sym, subst, true, false}, specs.Str.bytes_eq}
use Rattle.plan_file.specs.Lexis.{tokens_left}
use Rattle.plan_file.proofs.ReadsFacts.{IsPassed, step_with, step_other, step_end, left_over, passed_all, text_same, text_other}
use Rattle.plan_file.proofs.reads.reads_line.Goals as goal
use Rattle.plan_file.proofs.reads.reads_line.Goals.{then-left+then-is_text+in_ok-push, then-left+else-is_text, else-left}

pub loop-i-preserved : goal.loop-i-preserved
loop-i-preserved c =
    elim c.if-left.branch [
      | then-left+then-is_text+in_ok-push w ↦
          let words = ap (λ b. tokens_left b c.loop-i.rest.now) w.if-left.true ∙ w.first_token-more.ensures.tokens in
          let test : bytes_eq w.first_token-more.result.0.now w.name.result.now ≡ true = sym w.is_text-then-left.ensures
          ∙ w.if-is_text.true in
          let name = text_same w.first_token-more.result.0.now w.name.result.now test ∙ w.name.ensures in
          rw (w.left-is, w.rest-is)
          (step_with c.args.line.now c.loop-i.found c.if-left.found c.loop-i.i w.field_at-field.result w.first_token-more.result.0.now
          (tokens_left c.loop-i.left c.loop-i.rest.now) (tokens_left w.first_token-more.result.2 w.first_token-more.result.1.now)
          c.loop-i.invariant words w.field_at-field.ensures name (w.found-is ∙ w.in_ok-push.ensures.ok))
      | then-left+else-is_text w ↦
          let words = ap (λ b. tokens_left b c.loop-i.rest.now) w.if-left.true ∙ w.first_token-more.ensures.tokens in
          let test : bytes_eq w.first_token-more.result.0.now w.name.result.now ≡ false = sym w.is_text-then-left.ensures
          ∙ w.if-is_text.false in
          rw (w.found-is, w.left-is, w.rest-is)
          (step_other c.args.line.now c.loop-i.found c.loop-i.i w.field_at-field.result w.first_token-more.result.0.now
          (tokens_left c.loop-i.left c.loop-i.rest.now) (tokens_left w.first_token-more.result.2 w.first_token-more.result.1.now)
          c.loop-i.invariant words w.field_at-field.ensures (λ e. text_other w.first_token-more.result.0.now w.name.result.now test
          (e ∙ sym w.name.ensures)))
      | else-left w ↦ rw (w.found-is, w.left-is, w.rest-is)
          (step_end c.args.line.now c.loop-i.found c.loop-i.i (tokens_left c.loop-i.left c.loop-i.rest.now) c.loop-i.invariant
          (ap (λ b. tokens_left b c.loop-i.rest.now) w.if-left.false))
    ]

pub returns-then-left-2 : goal.returns-then-left-2
returns-then-left-2 c = left_over c.args.line.now c.loop-i.rest.now c.loop-i.found c.loop-i.i c.loop-i-test.false
    (subst (λ b. IsPassed c.args.line.now c.loop-i.found c.loop-i.i (tokens_left b c.loop-i.rest.now)) c.if-left-2.true c.loop-i.invariant)

pub returns-else-left-2 : goal.returns-else-left-2
returns-else-left-2 c = passed_all c.args.line.now c.loop-i.found c.loop-i.i
    (subst (λ b. IsPassed c.args.line.now c.loop-i.found c.loop-i.i (tokens_left b c.loop-i.rest.now)) c.if-left-2.false c.loop-i.invariant)
