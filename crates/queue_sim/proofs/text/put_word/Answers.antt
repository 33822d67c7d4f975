use Rattle.std.proofs.{Common.{arith, rules}, lemmas.Fmt.length-decimal-le}
use Rattle.queue_sim.proofs.text.put_word.Goals as goal

pub write_digits-requires : goal.write_digits-requires
write_digits-requires c = (
  omega (arith, c.requires.0, length-decimal-le 20 c.args.word (omega arith) (omega arith) c.ranges.word.fits),
  search rules,
)

pub returns-in_default-clause-place : goal.returns-in_default-clause-place
returns-in_default-clause-place c = (
  omega (arith, c.write_digits.ensures.start),
  omega (arith, c.write_digits.ensures.start, length-decimal-le 20 c.args.word (omega arith) (omega arith) c.ranges.word.fits),
)
