use Rattle.std.{proofs.Common.{◌≡◌, ◌+◌, ◌++◌, take}, specs.Prelude.{vec_capacity, vec_len}}
use Rattle.table_rows.proofs.rows.push_few.Given as goal

-- the words so far were added
abbrev pub invariant-loop-word : goal.invariant-loop-word
invariant-loop-word l =
    (l.words.items ≡ l.initial.words.items ++ take l.word-index l.few)
    × (vec_len l.words ≡ vec_len l.initial.words + l.word-index)
    × (vec_capacity l.words ≡ vec_capacity l.initial.words)
