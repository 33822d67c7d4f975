use Rattle.std.proofs.Common.{◌≡◌, ◌≤◌, ◌++◌, map, drop}
use Rattle.query_lang.specs.Streams.{expr_value}
use Rattle.final_queries.proofs.rows.mapped_values_into.Given as goal

-- the values so far, and then those that are left, make the whole
abbrev pub invariant-loop-e : goal.invariant-loop-e
invariant-loop-e g l = record {
  values : l.all.items ++ map (λ e. expr_value e l.row.columns.now) (drop l.e-index l.values) ≡ l.row.values.now
      ++ map (λ e. expr_value e l.row.columns.now) l.values;
  steps : l.fn.steps ≤ l.steps;
}
