use Rattle.std.proofs.Common.{◌≡◌, ◌++◌, drop}
use Rattle.query_facts.specs.Parts.{shared_among}
use Rattle.query_facts.proofs.parts.shared_among.Given as goal

abbrev pub invariant-loop-field : goal.invariant-loop-field
invariant-loop-field l = l.found ++ shared_among l.q l.places (drop l.field-index l.fields) ≡ shared_among l.q l.places l.fields
