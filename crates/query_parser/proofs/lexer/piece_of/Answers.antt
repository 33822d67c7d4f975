-- The digits of a word are among its bytes, and the word is within the text that begins with it.
use Rattle.std.proofs.{Common.arith, lemmas.List.{length-take, Sums.prefix_len-le-length}}
use Rattle.query_lang.specs.Lexis.{is_word_byte}
use Rattle.query_parser.proofs.Words.{digits_of_word, digits_within}
use Rattle.query_parser.proofs.lexer.piece_of.Goals as goal

pub piece_of_word-requires-clause-digits : goal.piece_of_word-requires-clause-digits
piece_of_word-requires-clause-digits c = rw (c.word_len-len.ensures, c.digits_len.ensures) (λ k h. digits_of_word c.args.bytes.now k h)

pub piece_of_word-requires-clause-within : goal.piece_of_word-requires-clause-within
piece_of_word-requires-clause-within c = omega (
  arith,
  c.word_len-len.ensures,
  c.digits_len.ensures,
  digits_within c.args.bytes.now,
  length-take c.word_len-len.result c.args.bytes.now,
  prefix_len-le-length is_word_byte c.args.bytes.now,
)
