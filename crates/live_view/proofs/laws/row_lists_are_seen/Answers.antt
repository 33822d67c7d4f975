use Rattle.epoch_model.specs.Machine.{run, empty_machine}
use Rattle.live_view.proofs.Seen.{lists_seen}
use Rattle.live_view.proofs.laws.row_lists_are_seen.Goals as goal

pub returns : goal.returns
returns c g events key room = lists_seen g (run g events (empty_machine g)) key (c.machines_are_well_formed.ensures g events room)
