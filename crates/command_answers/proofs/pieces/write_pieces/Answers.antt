use Rattle.std.proofs.Common.{[]}
use Rattle.command_answers.specs.{Piece.piece_text, declared.pieces.Piece.TheVariants.Text}
use Rattle.trace_drive.proofs.Pieces.{TakesFront-piece}
use Rattle.command_answers.proofs.pieces.write_pieces.Goals as goal

pub returns-in_err-write-clause-front : goal.returns-in_err-write-clause-front
returns-in_err-write-clause-front g c =
    TakesFront-piece piece_text _ _ _ c.args.pieces.now c.loop-piece.piece-index (Text (record { ref_ptr = (0, 0); now = [] }))
    c.loop-piece-test.true c.loop-piece.invariant.taken c.in_err-write.ensures.front
