use Rattle.std.proofs.Common.{◌≡◌, List, take}
use Rattle.epoch_model.specs.Machine.{Epoch}
use Rattle.network.specs.Groups.{StoresHold, shared_tables}
use Rattle.network.proofs.groups.group_tables.Given as goal

-- the tables of the groupbys so far
abbrev pub invariant-loop-i : goal.invariant-loop-i
invariant-loop-i g l = (epochs : List (List Epoch)) → StoresHold l.groups epochs
    → l.tables ≡ take l.i (shared_tables l.plan.groups l.groups epochs)
