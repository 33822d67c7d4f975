use Rattle.marple_laws.proofs.Bounded.{bounds_hold}
use Rattle.marple_laws.proofs.laws.accepted_bounds_hold.Goals as goal

pub returns : goal.returns
returns c =
    bounds_hold c.shown_tables_hold.ensures c.read_packets_are_words.ensures c.accepted_are_valid.ensures c.accepted_start_as_words.ensures
