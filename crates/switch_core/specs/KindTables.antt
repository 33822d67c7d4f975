-- The tables of a kind of entries are those of its fold.
use Rattle.std.specs.Prelude.{◌≡◌, ℕ, List}
use Rattle.query_lang.specs.declared.fold.TypedFold.{TypedFold}
use Rattle.epoch_model.specs.{Machine.Epoch, Tables.Folding}
use Rattle.epoch_entry.specs.{Kinds.Sizes, Foldings.{IsKindOf, folding_of}}
use Rattle.final_queries.specs.GroupTable.{Heading, closed_table}

-- Where entries are of a fold's kind, the table of closed epochs by what the entries are folded to is the table by the fold.
abbrev pub TablesAreOfFolds : Type 0
TablesAreOfFolds = (f : TypedFold) (sizes : Sizes) (folding : Folding) (opening absorbing : ℕ)
    → IsKindOf f sizes folding opening absorbing
    → (heading : Heading) (closed : List Epoch) → closed_table heading folding closed ≡ closed_table heading (folding_of f) closed
