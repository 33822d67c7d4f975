use Rattle.std.proofs.{Common.ap, lemmas.List.{drop_more, drop_all}}
use Rattle.table_printer.{specs.TableText.numbers, proofs.Joined.{written, all_written}}
use Rattle.table_printer.proofs.parts.push_words.Goals as goal

pub words-preserved : goal.words-preserved
words-preserved c = written _ c.words.text _ c.words.is_first _ _ _ (ap numbers
    (drop_more c.args.words.now c.words.word-index 0 c.words-test.true)) c.words.invariant c.in_ok-push_word.ensures

pub returns : goal.returns
returns c = all_written _ c.words.text c.words.is_first _ (ap numbers (drop_all c.words.word-index c.args.words.now c.words-test.false))
    c.words.invariant
