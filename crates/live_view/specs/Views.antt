-- What a view of a running trace shows.
use Rattle.std.specs.Prelude.{List, [], ◌++◌, length, map, flat_map, reverse}
use Rattle.epoch_model.specs.{Machine.{Epoch, Machine}, Tables.Folding}
use Rattle.final_queries.specs.declared.table.Table.{Table}
use Rattle.stage_plan.specs.declared.group.GroupPlan.{GroupPlan}
use Rattle.switch_core.specs.Pipelines.{tables_of}

-- the open epochs, bucket by bucket, the least recently used one of each first
abbrev pub open_epochs : Machine → List Epoch
open_epochs m = flat_map (λ epochs. reverse epochs) m.recent

-- the closed epochs, and after them each open one
abbrev pub all_epochs : Machine → List Epoch
all_epochs m = m.closed ++ open_epochs m

-- The machine with each open epoch closed, as one more epoch after the closed ones, and all of them merged.
abbrev pub all_closed : Machine → Machine
all_closed m = record { recent = map (λ epochs. []) m.recent; closed = all_epochs m; merged = length (all_epochs m) }

-- The tables of a view: one for each groupby, of the closed epochs and each open one after them.
abbrev pub tables_seen : List GroupPlan → List Folding → List Machine → List Table
tables_seen groups foldings machines = tables_of groups foldings (map all_closed machines)
