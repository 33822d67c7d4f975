use Rattle.std.proofs.Common.{◌≡◌, ◌++◌, map, drop}
use Rattle.query_types.proofs.columns.add_columns.Given as goal

abbrev pub invariant-loop-name : goal.invariant-loop-name
invariant-loop-name l = l.columns ++ map (λ name. record { name = name; origin = l.origin }) (drop l.name-index l.names)
    ≡ l.initial.columns ++ map (λ name. record { name = name; origin = l.origin }) l.names
