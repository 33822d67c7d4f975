use Rattle.enclosed_query.proofs.EndFacts.{ends_give}
use Rattle.enclosed_query.proofs.laws.ends_give_enclosed_tables.Goals as goal

pub returns : goal.returns
returns c = ends_give c.tables_give_bounds.ensures c.closed_give_the_group_table.ensures c.taken_uses_are_in_trace.ensures
