use Rattle.enclosed_query.proofs.HoldingFacts.{tables_hold}
use Rattle.enclosed_query.proofs.laws.shown_tables_hold.Goals as goal

pub returns : goal.returns
returns c = tables_hold c.key_bounds_enclose.ensures c.no_fault_means_bounds.ensures
