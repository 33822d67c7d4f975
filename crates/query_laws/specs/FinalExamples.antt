-- Small finals, typed and refused by the rules.
use Rattle.std.specs.Prelude.{ℕ, ◌+◌, List, [], ◌∷◌, Some, true, false}
use Rattle.query_lang.specs.declared.fold.Op.TheVariants.{Add, Lt}
use Rattle.query_lang.specs.declared.fold.TypedExpr.TheVariants as typed
use Rattle.query_lang.specs.declared.query.{Expr.TheVariants.{Named, Binary}, FinalOp.FinalOp}
use Rattle.query_lang.specs.declared.query.FinalOp.TheVariants.{Filter, Map, Group, Join, Top}
use Rattle.query_lang.specs.declared.query.Key.TheVariants as key
use Rattle.query_lang.specs.declared.typed.PrintOf.TheVariants as place
use Rattle.query_lang.specs.declared.typed.TypedFinalOp.TheVariants as made_by
use Rattle.query_lang.specs.declared.typing.{FoldView.FoldView, Given.Given, Known.Known, MadeFinal.MadeFinal}
use Rattle.query_lang.specs.declared.typing.Meaning.TheVariants as meaning
use Rattle.query_lang.specs.declared.typing.{StreamView.StreamView, TableView.TableView}
use Rattle.query_laws.specs.{FinalRules.HasFinal, TypingExamples.{here, called, first, a_field, mapped, is_above_0, new_column}}

-- the table of the groupby with this number, by one key, whose fold has one variable
abbrev pub group_table : ℕ → ℕ → ℕ → TableView
group_table number id variable = record { place = place.Group number; columns = id ∷ variable ∷ []; keys = 1 }

abbrev pub a_groupby : ℕ → ℕ → ℕ → StreamView
a_groupby number id variable = record {
  number = number + 1;
  columns = a_field id ∷ [];
  hidden = variable ∷ [];
  table = Some (group_table number id variable);
}

-- a final with the columns of the first groupby
abbrev pub final_table : TableView
final_table = record { place = place.Final 0; columns = 1 ∷ 3 ∷ []; keys = 1 }

-- folds of the variable 6 and the argument 3: one without an `emit`, and one with it
abbrev pub without_emit : FoldView
without_emit = record { number = 0; states = 6 ∷ []; args = 3 ∷ []; emits = false }

abbrev pub with_emit : FoldView
with_emit = record { number = 1; states = 6 ∷ []; args = 3 ∷ []; emits = true }

-- three groupbys: two by the key 1, one by the key 2; the final, a stream without a table, and the folds
abbrev pub tables : List Known
tables =
    record { name = 10; meaning = meaning.Stream (a_groupby 0 1 3) }
    ∷ record { name = 11; meaning = meaning.Stream (a_groupby 1 1 4) }
    ∷ record { name = 12; meaning = meaning.Stream (a_groupby 2 2 4) }
    ∷ record { name = 13; meaning = meaning.Final final_table }
    ∷ record { name = 14; meaning = meaning.Stream mapped }
    ∷ record { name = 15; meaning = meaning.Fold without_emit }
    ∷ record { name = 16; meaning = meaning.Fold with_emit }
    ∷ []

abbrev pub three_groupbys : Given
three_groupbys = record { fields = []; groups = 3 }

-- after these the operator makes this
abbrev pub MakesTable : FinalOp → MadeFinal → Type 0
MakesTable op made = HasFinal three_groupbys tables op made

abbrev pub MakesNoTable : FinalOp → Type 0
MakesNoTable op = (made : MadeFinal) → MakesTable op made → ⊥

-- a groupby by one key, of the table and with the fold of these names
abbrev pub table_by : ℕ → ℕ → ℕ → FinalOp
table_by input id fold_id = Group (called input) (key.Named (called id) ∷ []) (called fold_id)

-- that many rows, by the variable 3
abbrev pub first_rows : ℕ → FinalOp
first_rows rows = Top (called 10) (called 3) rows here

abbrev pub MakesRows : ℕ → Type 0
MakesRows rows = MakesTable (first_rows rows) (record { op = made_by.Top 0 1 rows; columns = 1 ∷ 3 ∷ []; keys = 1 })

-- Filters of a table.
pub record FilteredTables : Type 0 where
  -- a filter on the fold's variable, of a groupby and of a final; tables of finals are numbered after those of groupbys
  pub filter_of_a_groupby : MakesTable (Filter (called 10) (is_above_0 3)) (record {
    op = made_by.Filter 0 (typed.Binary Lt (typed.Number 0) (typed.Slot 1));
    columns = 1 ∷ 3 ∷ [];
    keys = 1;
  })
  pub filter_of_a_final : MakesTable (Filter (called 13) (is_above_0 3)) (record {
    op = made_by.Filter 3 (typed.Binary Lt (typed.Number 0) (typed.Slot 1));
    columns = 1 ∷ 3 ∷ [];
    keys = 1;
  })
  pub filter_on_no_column : MakesNoTable (Filter (called 10) (is_above_0 4))
  -- a stream of a `map` has no table, and neither has a fold
  pub filter_of_no_table : MakesNoTable (Filter (called 14) (is_above_0 1))
  pub filter_of_a_fold : MakesNoTable (Filter (called 15) (is_above_0 3))

-- New columns of a table.
pub record MappedTables : Type 0 where
  pub map_of_a_sum : MakesTable (Map (called 10) (new_column 5 (Binary Add here first (Named (called 3))) ∷ [])) (record {
    op = made_by.Map 0 (typed.Binary Add (typed.Slot 0) (typed.Slot 1) ∷ []);
    columns = 1 ∷ 3 ∷ 5 ∷ [];
    keys = 1;
  })
  pub map_to_a_column : MakesNoTable (Map (called 10) (new_column 3 first ∷ []))

-- Groupbys of a table.
pub record GroupedTables : Type 0 where
  -- the fold of a groupby has no `emit`
  pub groupby_of_a_key : MakesTable (table_by 10 1 15) (record {
    op = made_by.Group 0 (0 ∷ []) 0 (1 ∷ []);
    columns = 1 ∷ 6 ∷ [];
    keys = 1;
  })
  pub groupby_with_an_emit : MakesNoTable (table_by 10 1 16)
  pub key_without_a_column : MakesNoTable (table_by 10 2 15)
  pub argument_without_a_column : MakesNoTable (table_by 11 1 15)

-- Two tables joined.
pub record JoinedTables : Type 0 where
  -- two tables with the same keys, and no other column of one name
  pub join_by_the_same_keys : MakesTable (Join (called 10) (called 11)) (record {
    op = made_by.Join 0 1;
    columns = 1 ∷ 3 ∷ 4 ∷ [];
    keys = 1;
  })
  pub join_by_other_keys : MakesNoTable (Join (called 10) (called 12))
  pub join_of_one_name : MakesNoTable (Join (called 10) (called 13))

-- The greatest rows of a table.
pub record RankedTables : Type 0 where
  -- at least one row, and at most 65,536, by a column
  pub top_0 : MakesNoTable (first_rows 0)
  pub top_1 : MakesRows 1
  pub top_5 : MakesRows 5
  pub top_65536 : MakesRows 65536
  pub top_65537 : MakesNoTable (first_rows 65537)
  pub top_by_no_column : MakesNoTable (Top (called 10) (called 4) 5 here)

pub record FinalExamples : Type 0 where
  pub filters : FilteredTables
  pub maps : MappedTables
  pub groupbys : GroupedTables
  pub joins : JoinedTables
  pub tops : RankedTables
