use Rattle.std.proofs.Common.{◌≡◌, drop}
use Rattle.query_lang.specs.TypedStreams.{meaning_of}
use Rattle.query_types.proofs.views.find_meaning.Given as goal

abbrev pub invariant-loop-one : goal.invariant-loop-one
invariant-loop-one l = meaning_of (drop l.one-index l.known) l.id ≡ meaning_of l.known l.id
