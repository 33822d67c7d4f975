use Rattle.std.proofs.Common.{◌≡◌, ◌++◌, take}
use Rattle.switch_core.proofs.tables.push_texts.Given as goal

-- the texts so far
abbrev pub invariant-loop-text : goal.invariant-loop-text
invariant-loop-text l = l.into ≡ l.initial.into ++ take l.text-index l.texts
