-- The rules of streams.
use Rattle.std.specs.Prelude.{◌≡◌, ℕ, ◌+◌, ◌<◌, ◌≤◌, List, [], ◌∷◌, ◌++◌, length, map, flat_map, slice_get, Some, None}
use Rattle.query_lang.specs.declared.{fold.TypedExpr.TypedExpr, query.{Name.Name, Key.Key, Column.Column, Expr.Expr, StreamOp.StreamOp}}
use Rattle.query_lang.specs.declared.query.StreamOp.TheVariants as ops
use Rattle.query_lang.specs.declared.typed.PrintOf.TheVariants as place
use Rattle.query_lang.specs.declared.typed.TypedOp.TheVariants as made_by
use Rattle.query_lang.specs.declared.typing.{FoldView.FoldView, StreamView.StreamView, Known.Known, MadeStream.MadeStream}
use Rattle.query_lang.specs.declared.typing.Origin.TheVariants as origin
use Rattle.query_lang.specs.{declared.typing.StreamColumn.StreamColumn, TypedStreams.{column_names, key_names}}
use Rattle.query_lang.specs.declared.fault.TheConstants.{MAX_GROUPBYS, MAX_KEYS}
use Rattle.query_laws.specs.{ExprRules.{Word, Condition, StandsAt, HasKind}, FoldRules.{IsNew, AreNew}, Context.{IsStream, IsFold}}

-- the new columns of a `map`: their names are new beside those taken and among themselves, and their expressions over these
-- columns are words
abbrev pub HasTypedColumns : List ℕ → List ℕ → List Column → List TypedExpr → Type 0
HasTypedColumns columns taken [] [] = Unit {0}
HasTypedColumns columns taken [] (value ∷ values) = ⊥
HasTypedColumns columns taken (column ∷ rest) [] = ⊥
HasTypedColumns columns taken (column ∷ rest) (value ∷ values) = IsNew column.name.id taken × HasKind columns Word column.value value
    × HasTypedColumns columns (taken ++ column.name.id ∷ []) rest values

abbrev pub new_names : List Column → List ℕ
new_names columns = map (λ column. column.name.id) columns

-- names with their slots among the columns
abbrev pub HasSlots : List ℕ → List ℕ → List ℕ → Type 0
HasSlots columns [] [] = Unit {0}
HasSlots columns [] (slot ∷ slots) = ⊥
HasSlots columns (id ∷ ids) [] = ⊥
HasSlots columns (id ∷ ids) (slot ∷ slots) = StandsAt columns slot id × HasSlots columns ids slots

-- none of these is among those
abbrev pub AreApart : List ℕ → List ℕ → Type 0
AreApart [] others = Unit {0}
AreApart (id ∷ ids) others = IsNew id others × AreApart ids others

-- the names that keys stand for, where `5tuple` stands for these five
abbrev pub key_ids : List ℕ → List Key → List ℕ
key_ids five keys = map (λ key. key.id) (flat_map (key_names five) keys)

-- keys are at most MAX_KEYS columns, and no name is two of them
pub record HasKeys (columns ids slots : List ℕ) : Type 0 where
  pub places : HasSlots columns ids slots
  pub distinct : AreNew [] ids
  pub few : length ids ≤ MAX_KEYS

-- the arguments of a fold are columns, and none of its variables has the name of a key
pub record HasArguments (columns keys : List ℕ) (f : FoldView) (slots : List ℕ) : Type 0 where
  pub places : HasSlots columns f.args slots
  pub apart : AreApart f.states keys

-- a column with this one's name is the same column: the packet's field in both, or made by the same `map`
abbrev pub IsSame : List StreamColumn → StreamColumn → Type 0
IsSame [] column = Unit {0}
IsSame (other ∷ rest) column = (other.name ≡ column.name → other.origin ≡ column.origin) × IsSame rest column

-- columns of one name are the same column
abbrev pub AreSame : List StreamColumn → List StreamColumn → Type 0
AreSame left [] = Unit {0}
AreSame left (column ∷ rest) = IsSame left column × AreSame left rest

-- the columns at these slots
abbrev pub AreAt : List StreamColumn → List ℕ → List StreamColumn → Type 0
AreAt columns [] [] = Unit {0}
AreAt columns [] (one ∷ others) = ⊥
AreAt columns (slot ∷ slots) [] = ⊥
AreAt columns (slot ∷ slots) (one ∷ others) = (slice_get columns slot ≡ Some one) × AreAt columns slots others

-- the slots of the columns that have none of these names, in order, where the first column has this slot
pub data AreOthers (names : List ℕ) : ℕ → List StreamColumn → List ℕ → Type 0 where
  of_none : (slot : ℕ) → AreOthers names slot [] []
  of_named : {slot : ℕ} {column : StreamColumn} {rest : List StreamColumn} {slots : List ℕ}
      → (IsNew column.name names → ⊥) → AreOthers names (slot + 1) rest slots → AreOthers names slot (column ∷ rest) slots
  of_other : {slot : ℕ} {column : StreamColumn} {rest : List StreamColumn} {slots : List ℕ}
      → IsNew column.name names → AreOthers names (slot + 1) rest slots → AreOthers names slot (column ∷ rest) (slot ∷ slots)

pub record OfFilter (known : List Known) (input : Name) (e : Expr) (made : MadeStream) : Type 0 where
  pub source : StreamView
  pub condition : TypedExpr
  pub stream : IsStream known input.id source
  pub typed : HasKind (column_names source.columns) Condition e condition
  pub is : made ≡ record { op = made_by.Filter source.number condition; columns = source.columns; hidden = source.hidden; table = None }

pub record OfMap (known : List Known) (number : ℕ) (input : Name) (columns : List Column) (made : MadeStream) : Type 0 where
  pub source : StreamView
  pub values : List TypedExpr
  pub stream : IsStream known input.id source
  pub typed : HasTypedColumns (column_names source.columns) (column_names source.columns ++ source.hidden) columns values
  pub is : made ≡ record {
    op = made_by.Map source.number values;
    columns = source.columns ++ map (λ name. record { name = name; origin = origin.Map number }) (new_names columns);
    hidden = source.hidden;
    table = None;
  }

-- the columns of the first, and then those of the second whose names the first hasn't
pub record OfZip (known : List Known) (first second : Name) (made : MadeStream) : Type 0 where
  pub left : StreamView
  pub right : StreamView
  pub slots : List ℕ
  pub others : List StreamColumn
  pub one : IsStream known first.id left
  pub other : IsStream known second.id right
  pub same : AreSame left.columns right.columns
  pub new : AreOthers (column_names left.columns) 0 right.columns slots
  pub taken : AreAt right.columns slots others
  pub is : made ≡ record {
    op = made_by.Zip left.number right.number slots;
    columns = left.columns ++ others;
    hidden = left.hidden ++ right.hidden;
    table = None;
  }

-- the columns of the input that are keys
pub record OfGroup (five : List ℕ) (known : List Known) (groups : ℕ) (input : Name) (keys : List Key)
    (fold_name : Name) (made : MadeStream) : Type 0 where
  pub few : groups < MAX_GROUPBYS
  pub source : StreamView
  pub slots : List ℕ
  pub columns : List StreamColumn
  pub f : FoldView
  pub arguments : List ℕ
  pub stream : IsStream known input.id source
  pub picked : HasKeys (column_names source.columns) (key_ids five keys) slots
  pub there : AreAt source.columns slots columns
  pub fold : IsFold known fold_name.id f
  pub taken : HasArguments (column_names source.columns) (key_ids five keys) f arguments
  pub is : made ≡ record {
    op = made_by.Group source.number slots f.number arguments;
    columns = columns;
    hidden = f.states;
    table = Some (record { place = place.Group groups; columns = key_ids five keys ++ f.states; keys = length (key_ids five keys) });
  }

-- What the operator of the stream with this number makes, after that many groupbys.
abbrev pub HasStream : List ℕ → List Known → ℕ → ℕ → StreamOp → MadeStream → Type 0
HasStream five known number groups (ops.Filter input e) made = OfFilter known input e made
HasStream five known number groups (ops.Map input columns) made = OfMap known number input columns made
HasStream five known number groups (ops.Zip first second) made = OfZip known first second made
HasStream five known number groups (ops.Group input keys fold_name) made = OfGroup five known groups input keys fold_name made
