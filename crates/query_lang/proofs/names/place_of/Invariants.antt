use Rattle.std.{proofs.Common.{◌≡◌, ◌<◌, ℕ, [], false, get_or}, specs.Str.bytes_eq}
use Rattle.query_lang.specs.Names.{texts_of}
use Rattle.query_lang.proofs.names.place_of.Given as goal

-- no text so far is the one that is sought
abbrev pub invariant-loop-at : goal.invariant-loop-at
invariant-loop-at l = (k : ℕ) → k < l.at → bytes_eq l.text (get_or (texts_of l.texts) k []) ≡ false
