-- The table of a groupby: by the uses of the whole trace, and by its closed epochs.
use Rattle.std.specs.Prelude.{◌≡◌, ℕ, List, ◌++◌, length}
use Rattle.query_lang.specs.declared.typed.Class.{Class}
use Rattle.epoch_model.specs.{Epochs.{Use, Geometry}, Machine.{Epoch, end_of}, Laws.{HasRoom, IsInTrace}}
use Rattle.epoch_model.specs.Tables.{Folding, group_rows, group_epochs, closed_rows, closed_epochs}
use Rattle.final_queries.specs.declared.table.{Table.Table, TableKind.TheVariants.Group}

-- What a groupby's table says besides its rows: the names of the groupby, of its keys and of its fold's state variables,
-- and the fold's class and depth.
pub record Heading : Type 0 where
  pub name : List ℕ
  pub key_names : List (List ℕ)
  pub state_names : List (List ℕ)
  pub class : Class
  pub depth : ℕ

-- The table of a groupby that takes these uses of the trace.
abbrev pub group_table : Heading → Folding → Geometry → List Use → Table
group_table heading f g uses = record {
  name = heading.name;
  columns = heading.key_names ++ heading.state_names;
  keys = length heading.key_names;
  kind = Group heading.class heading.depth (group_epochs g uses);
  rows = group_rows f g uses;
}

-- the table of these closed epochs
abbrev pub closed_table : Heading → Folding → List Epoch → Table
closed_table heading f closed = record {
  name = heading.name;
  columns = heading.key_names ++ heading.state_names;
  keys = length heading.key_names;
  kind = Group heading.class heading.depth (closed_epochs closed);
  rows = closed_rows f closed;
}

-- The epochs that are closed at the end of the trace give the groupby's table.
abbrev pub ClosedGiveTheGroupTable : Type 0
ClosedGiveTheGroupTable = (heading : Heading) (f : Folding) (g : Geometry) (uses : List Use) (packets : ℕ) → HasRoom g
    → IsInTrace packets uses
    → closed_table heading f (end_of g uses packets).closed ≡ group_table heading f g uses
