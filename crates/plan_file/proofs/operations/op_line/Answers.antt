-- A line `op` has the four tokens of `not` or the five of any other function, and none has six.
use Rattle.std.{proofs.Common.rules, specs.List.slice_split}
use Rattle.plan_file.{specs.Lexis.is_space, proofs.OpFacts.{no_line, no_other_word, six_tokens}}
use Rattle.plan_file.proofs.operations.op_line.Goals as goal

pub returns-then-not-is_text : goal.returns-then-not-is_text
returns-then-not-is_text c =
    no_other_word c.args.fields.now c.args.ops.now c.args.line.now c.in_ok-word.word.now (slice_split is_space c.in_ok-word.rest.now)
    c.in_ok-word.ensures.parts (search rules)

pub returns-in-Some-cut_at_space : goal.returns-in-Some-cut_at_space
returns-in-Some-cut_at_space c = no_line c.args.fields.now c.args.ops.now c.args.line.now (rw (
  c.in_ok-word.ensures.parts,
  c.in_ok-stage.ensures.parts,
  c.in_ok-function.ensures.parts,
  c.in-Some.ensures.parts,
  c.in-Some-cut_at_space.ensures.parts,
) (six_tokens c.in_ok-word.word.now c.in_ok-stage.stage.now c.in_ok-function.function.now c.in-Some.a.now
    c.in-Some-cut_at_space.field-0.0.now c.in-Some-cut_at_space.field-0.1.now))
