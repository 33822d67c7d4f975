-- The rules of finals.
use Rattle.std.specs.Prelude.{◌≡◌, ℕ, ◌≤◌, false, List, ◌++◌, length}
use Rattle.query_lang.specs.declared.{fold.TypedExpr.TypedExpr, query.{Name.Name, Key.Key, Column.Column, Expr.Expr, FinalOp.FinalOp}}
use Rattle.query_lang.specs.declared.query.FinalOp.TheVariants as ops
use Rattle.query_lang.specs.declared.typed.TypedFinalOp.TheVariants as made_by
use Rattle.query_lang.specs.declared.typing.{FoldView.FoldView, TableView.TableView, Given.Given, Known.Known, MadeFinal.MadeFinal}
use Rattle.query_lang.specs.TypedFinals.{table_number, five_fields, key_columns, other_columns}
use Rattle.query_laws.specs.{ExprRules.{Condition, StandsAt, HasKind}, Context.{IsFold, IsTable}}
use Rattle.query_laws.specs.StreamRules.{HasTypedColumns, new_names, key_ids, HasKeys, HasArguments, AreApart}

pub record OfFilter (groups : ℕ) (known : List Known) (input : Name) (e : Expr) (made : MadeFinal) : Type 0 where
  pub source : TableView
  pub condition : TypedExpr
  pub table : IsTable known input.id source
  pub typed : HasKind source.columns Condition e condition
  pub is : made ≡ record {
    op = made_by.Filter (table_number groups source.place) condition;
    columns = source.columns;
    keys = source.keys;
  }

pub record OfMap (groups : ℕ) (known : List Known) (input : Name) (columns : List Column) (made : MadeFinal) : Type 0 where
  pub source : TableView
  pub values : List TypedExpr
  pub table : IsTable known input.id source
  pub typed : HasTypedColumns source.columns source.columns columns values
  pub is : made ≡ record {
    op = made_by.Map (table_number groups source.place) values;
    columns = source.columns ++ new_names columns;
    keys = source.keys;
  }

-- the fold of a final's groupby has no `emit`
pub record OfGroup (five : List ℕ) (groups : ℕ) (known : List Known) (input : Name) (keys : List Key)
    (fold_name : Name) (made : MadeFinal) : Type 0 where
  pub source : TableView
  pub slots : List ℕ
  pub f : FoldView
  pub arguments : List ℕ
  pub table : IsTable known input.id source
  pub picked : HasKeys source.columns (key_ids five keys) slots
  pub fold : IsFold known fold_name.id f
  pub quiet : f.emits ≡ false
  pub taken : HasArguments source.columns (key_ids five keys) f arguments
  pub is : made ≡ record {
    op = made_by.Group (table_number groups source.place) slots f.number arguments;
    columns = key_ids five keys ++ f.states;
    keys = length (key_ids five keys);
  }

-- both have the same keys, and no other column of the second is a column of the first
pub record OfJoin (groups : ℕ) (known : List Known) (first second : Name) (made : MadeFinal) : Type 0 where
  pub left : TableView
  pub right : TableView
  pub one : IsTable known first.id left
  pub other : IsTable known second.id right
  pub keys : key_columns left ≡ key_columns right
  pub apart : AreApart (other_columns right) left.columns
  pub is : made ≡ record {
    op = made_by.Join (table_number groups left.place) (table_number groups right.place);
    columns = left.columns ++ other_columns right;
    keys = left.keys;
  }

pub record OfTop (groups : ℕ) (known : List Known) (input column : Name) (kept : ℕ) (made : MadeFinal) : Type 0 where
  pub source : TableView
  pub slot : ℕ
  pub table : IsTable known input.id source
  pub stands : StandsAt source.columns slot column.id
  pub some : 1 ≤ kept
  pub few : kept ≤ 65536
  pub is : made ≡ record { op = made_by.Top (table_number groups source.place) slot kept; columns = source.columns; keys = source.keys }

-- What a final's operator makes, where the query has that many groupbys that run while packets pass.
abbrev pub HasFinal : Given → List Known → FinalOp → MadeFinal → Type 0
HasFinal given known (ops.Filter input e) made = OfFilter given.groups known input e made
HasFinal given known (ops.Map input columns) made = OfMap given.groups known input columns made
HasFinal given known (ops.Group input keys fold_name) made = OfGroup (five_fields given.fields) given.groups known input keys fold_name made
HasFinal given known (ops.Join first second) made = OfJoin given.groups known first second made
HasFinal given known (ops.Top input column kept span) made = OfTop given.groups known input column kept made
