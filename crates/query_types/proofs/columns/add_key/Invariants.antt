use Rattle.std.proofs.Common.{◌≡◌, ◌++◌, map, drop}
use Rattle.query_types.proofs.columns.add_key.Given as goal

abbrev pub invariant-loop-id : goal.invariant-loop-id
invariant-loop-id l = l.names ++ map (λ id. record { id = id; span = l.span }) (drop l.id-index l.five) ≡ l.initial.names
    ++ map (λ id. record { id = id; span = l.span }) l.five
