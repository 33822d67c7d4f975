use Rattle.std.proofs.Common.{◌≡◌, drop}
use Rattle.query_lang.specs.Checks.{place_from, place_of}
use Rattle.query_types.proofs.exprs.find_place.Given as goal

abbrev pub invariant-loop-at : goal.invariant-loop-at
invariant-loop-at l = place_from l.at (drop l.at l.names) l.id ≡ place_of l.names l.id
