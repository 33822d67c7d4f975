use Rattle.std.proofs.Common.{◌≡◌, drop}
use Rattle.query_facts.specs.Needs.{is_one_of}
use Rattle.query_facts.proofs.needs.is_in.Given as goal

abbrev pub invariant-loop-one : goal.invariant-loop-one
invariant-loop-one l = is_one_of (drop l.one-index l.numbers) l.number ≡ is_one_of l.numbers l.number
