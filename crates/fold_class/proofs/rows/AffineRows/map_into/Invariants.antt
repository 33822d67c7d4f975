use Rattle.std.proofs.Common.{◌≡◌, ℕ, ◌+◌, ◌*◌, ◌<◌, length}
use Rattle.fold_code.specs.Machine.{steps_of}
use Rattle.coeff_algebra.specs.Maps.{stored_entry}
use Rattle.fold_class.specs.Rows.{rows_dimension, entry_of}
use Rattle.fold_class.proofs.rows.AffineRows.map_into.Given as goal

abbrev pub invariant-loop-column : goal.invariant-loop-column
invariant-loop-column g l = let m = g.C.Coeff in let d = rows_dimension l.self in record {
  entries : (i c : ℕ) → i < d → c < l.column → stored_entry m.WORDS d l.map i c ≡ m.words (entry_of m.elements l.self l.history l.args i c);
  steps : l.steps ≡ l.initial.steps + l.column * (length l.self.origins + steps_of l.self.code.instrs + d * m.WORDS);
}
