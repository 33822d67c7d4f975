use Rattle.std.proofs.Common.{◌≡◌, map, take}
use Rattle.final_queries.specs.Finals.{name_text}
use Rattle.final_queries.proofs.run.name_copies.Given as goal

-- the names so far
abbrev pub invariant-loop-id : goal.invariant-loop-id
invariant-loop-id l = l.texts ≡ map (name_text l.names) (take l.id-index l.ids)
