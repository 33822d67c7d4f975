use Rattle.std.proofs.Common.{◌≡◌, ◌+◌, ◌∷◌, length, take}
use Rattle.part_texts.specs.Texts.{field_words}
use Rattle.trace_split.proofs.splitting.part_of.Given as goal

-- the salt and the words so far
abbrev pub invariant-loop-field : goal.invariant-loop-field
invariant-loop-field g l = record {
  size : l.size ≡ l.field-index + 1;
  room : length l.key ≡ 15;
  key : take l.size l.key ≡ l.salt ∷ field_words (take l.field-index l.by) l.packet.words;
}
