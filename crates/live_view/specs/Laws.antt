-- What a view has of a running trace.
use Rattle.std.specs.Prelude.{◌≡◌, ◌≤◌, ℕ, List, length, take, Option}
use Rattle.epoch_model.specs.{Driving.{Taken, uses_taken}, Epochs.Geometry, Keys.Key, Laws.{HasRoom, SameEpochs}}
use Rattle.epoch_model.specs.Machine.{Machine, Event, run, empty_machine, row_lists, lists_of, after_packets, end_of}
use Rattle.live_view.specs.Views.{all_epochs, all_closed}

-- After any events a view has the row lists of each key: the closed ones, and then the open one.
abbrev pub RowListsAreSeen : Type 0
RowListsAreSeen = (g : Geometry) (events : List Event) (key : Key) → HasRoom g
    → lists_of key (all_epochs (run g events (empty_machine g))) ≡ row_lists g (run g events (empty_machine g)) key

-- Where a machine has the epochs of a trace after its first packets, in a view it is the machine at the end of a trace
-- that has these packets alone.
abbrev pub ViewsEndTheTrace : Type 0
ViewsEndTheTrace = (g : Geometry) (packets : List (Option Taken)) (number : ℕ) (m : Machine) → number ≤ length packets
    → SameEpochs m (after_packets g (uses_taken 1 packets) number)
    → all_closed m ≡ end_of g (uses_taken 1 (take number packets)) number
