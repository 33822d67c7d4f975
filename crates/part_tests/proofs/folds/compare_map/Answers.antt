use Rattle.std.proofs.{Common.{arith}, lemmas.Bool.{leb-true}}
use Rattle.part_tests.proofs.MapWords.{elements, words}
use Rattle.part_tests.proofs.folds.compare_map.Goals as goal

pub overflow_add-words : goal.overflow_add-words
overflow_add-words g c = omega (arith, leb-true _ _ c.holds.ensures)

pub overflow_mul-words : goal.overflow_mul-words
overflow_mul-words g c = omega (arith, elements _ c.holds.ensures)

pub overflow_mul-words-2 : goal.overflow_mul-words-2
overflow_mul-words-2 g c = omega (arith, words _ _ c.holds.ensures c.element_words.ensures.most)
