-- The partition of a splitting.
use Rattle.std.specs.Prelude.{ℕ, List}
use Rattle.part_texts.specs.Texts.{fields_in, part_by_hash}
use Rattle.trace_split.specs.declared.splitting.Splitting.{Splitting}

-- by a hash of the fields, begun with the salt
abbrev pub by_hash : Splitting → List ℕ → ℕ
by_hash splitting = part_by_hash (fields_in splitting.by) splitting.salt splitting.parts
