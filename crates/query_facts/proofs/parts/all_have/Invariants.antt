use Rattle.std.proofs.Common.{◌≡◌, drop}
use Rattle.query_facts.specs.Parts.{all_have}
use Rattle.query_facts.proofs.parts.all_have.Given as goal

abbrev pub invariant-loop-place : goal.invariant-loop-place
invariant-loop-place l = all_have l.q (drop l.place-index l.places) l.field ≡ all_have l.q l.places l.field
