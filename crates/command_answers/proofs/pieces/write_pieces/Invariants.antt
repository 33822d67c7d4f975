use Rattle.std.{proofs.Common.{◌≤◌, take}, specs.{List.flat_map, Io.KnownBytes.Appends}}
use Rattle.command_answers.specs.Piece.{piece_text}
use Rattle.command_answers.proofs.pieces.write_pieces.Given as goal

-- the pieces so far were taken, and the count of faults has not fallen
abbrev pub invariant-loop-piece : goal.invariant-loop-piece
invariant-loop-piece g l = record {
  taken : Appends (g.O.Sink.taken l.fn.out) (g.O.Sink.taken l.out) (flat_map piece_text (take l.piece-index l.pieces));
  later : g.O.Sink.faults l.fn.out ≤ g.O.Sink.faults l.out;
}
