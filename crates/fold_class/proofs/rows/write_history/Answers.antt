-- A place that is written has the word of its variable, and the writes after it are to other places.
use Rattle.std.proofs.Common.{◌≢◌, ap, ◌∙◌, arith, below_more, get_or-set_same, get_or-set_other}
use Rattle.fold_class.specs.Rows.{fixed_word}
use Rattle.fold_class.proofs.rows.write_history.Goals as goal

pub load_part-part-requires : goal.load_part-part-requires
load_part-part-requires g c = omega (arith, c.requires.places c.loop-i.i 0 c.loop-i-test.true, c.requires.room)

pub loop-i-preserved : goal.loop-i-preserved
loop-i-preserved g c = record {
  words = below_more _ c.loop-i.i
      (λ k h. let off : k ≢ c.loop-i.i = omega arith in get_or-set_other c.loop-i.history c.loop-i.i k _ 0 off
      ∙ c.loop-i.invariant.words k h)
      (get_or-set_same c.loop-i.history c.loop-i.i _ 0 (omega (arith, c.loop-i-test.true, c.loop-i.auto.history, c.requires.history))
      ∙ c.word.ensures ∙ ap fixed_word c.load_part-part.ensures);
  steps = omega (arith, c.loop-i.invariant.steps, c.tick.ensures);
}

pub returns-clause-words : goal.returns-clause-words
returns-clause-words g c i h = c.loop-i.invariant.words i (omega (arith, h, c.loop-i-test.false))
