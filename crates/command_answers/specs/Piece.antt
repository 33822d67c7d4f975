-- The text of a piece of a line.
use Rattle.std.specs.Prelude.{ℕ, List, decimal}
use Rattle.command_answers.specs.declared.pieces.Piece.{Piece, TheVariants.{Text, Number}}

abbrev pub piece_text : Piece → List ℕ
piece_text (Text text) = text.now
piece_text (Number number) = decimal number
