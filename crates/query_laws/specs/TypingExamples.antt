-- Small expressions and streams, typed and refused by the rules.
use Rattle.std.specs.Prelude.{ℕ, List, [], ◌∷◌, map, ◌++◌, length, Some, None, false}
use Rattle.query_lang.specs.declared.{fault.Span.Span, fold.Op.{Op, TheVariants.{Mul, Div, Rem, Add, Sub, Shl, Shr, And, Xor, Or, Eq, Ne}}}
use Rattle.query_lang.specs.declared.fold.{Op.TheVariants.{Lt, Le, Gt, Ge, Both, Either, Max, Min, Sadd, Decay}, TypedExpr.TypedExpr}
use Rattle.query_lang.specs.declared.fold.TypedExpr.TheVariants as typed
use Rattle.query_lang.specs.declared.query.{Column.Column, Expr.{Expr, TheVariants.{Number, Named, Not, Binary, Call}}, Key.Key}
use Rattle.query_lang.specs.declared.query.Key.TheVariants as key
use Rattle.query_lang.specs.declared.query.{Name.Name, StreamOp.{StreamOp, TheVariants.{Filter, Map, Zip, Group}}}
use Rattle.query_lang.specs.declared.typed.PrintOf.TheVariants as place
use Rattle.query_lang.specs.declared.typed.TypedOp.TheVariants as made_by
use Rattle.query_lang.specs.declared.typing.{FoldView.FoldView, Known.Known, MadeStream.MadeStream}
use Rattle.query_lang.specs.declared.typing.Meaning.TheVariants as meaning
use Rattle.query_lang.specs.declared.typing.Origin.TheVariants as origin
use Rattle.query_lang.specs.declared.typing.{StreamColumn.StreamColumn, StreamView.StreamView}
use Rattle.query_laws.specs.{ExprRules.{Kind, Word, Condition, HasKind}, StreamRules.HasStream}

-- where it is doesn't matter here
abbrev pub here : Span
here = record { start = 0; end = 0 }

abbrev pub called : ℕ → Name
called id = record { id = id; span = here }

-- two columns, with the names 1 and 2
abbrev pub two_columns : List ℕ
two_columns = 1 ∷ 2 ∷ []

abbrev pub first : Expr
first = Named (called 1)

abbrev pub second : Expr
second = Named (called 2)

abbrev pub is_less : Expr
is_less = Binary Lt here first second

abbrev pub HasNoForm : Expr → Type 0
HasNoForm e = (k : Kind) (t : TypedExpr) → HasKind two_columns k e t → ⊥

abbrev pub typed_is_less : TypedExpr
typed_is_less = typed.Binary Lt (typed.Slot 0) (typed.Slot 1)

-- the first column and this, as a query writes the operator: four are functions
abbrev pub with_first : Op → Expr → Expr
with_first Max e = Call Max here (first ∷ e ∷ [])
with_first Min e = Call Min here (first ∷ e ∷ [])
with_first Sadd e = Call Sadd here (first ∷ e ∷ [])
with_first Decay e = Call Decay here (first ∷ e ∷ [])
with_first op e = Binary op here first e

-- between the two columns it gives a word, or a condition
abbrev pub GivesWord : Op → Type 0
GivesWord op = HasKind two_columns Word (with_first op second) (typed.Binary op (typed.Slot 0) (typed.Slot 1))

abbrev pub GivesCondition : Op → Type 0
GivesCondition op = HasKind two_columns Condition (with_first op second) (typed.Binary op (typed.Slot 0) (typed.Slot 1))

-- between the first column and this number it gives a word, or has no form
abbrev pub TakesNumber : Op → ℕ → Type 0
TakesNumber op n = HasKind two_columns Word (with_first op (Number n here)) (typed.Binary op (typed.Slot 0) (typed.Number n))

abbrev pub RefusesNumber : Op → ℕ → Type 0
RefusesNumber op n = HasNoForm (with_first op (Number n here))

abbrev pub RefusesColumn : Op → Type 0
RefusesColumn op = HasNoForm (with_first op second)

-- A row for each kind of node and each operator: one that has a typed form, and those that have none.
pub record ExpressionExamples : Type 0 where
  pub column : HasKind two_columns Word first (typed.Slot 0)
  pub no_column : HasNoForm (Named (called 3))
  pub greater : GivesWord Max
  pub one_argument : HasNoForm (Call Max here (first ∷ []))
  pub sum : HasKind two_columns Word (Binary Add here first (Number 7 here)) (typed.Binary Add (typed.Slot 0) (typed.Number 7))
  pub sum_of_a_condition : HasNoForm (Binary Add here is_less second)
  pub product : GivesWord Mul
  pub difference : GivesWord Sub
  pub conjunction_of_bits : GivesWord And
  pub exclusive_disjunction_of_bits : GivesWord Xor
  pub disjunction_of_bits : GivesWord Or
  pub less : GivesWord Min
  pub saturating_sum : GivesWord Sadd
  pub comparison : HasKind two_columns Condition is_less typed_is_less
  pub equal : GivesCondition Eq
  pub other : GivesCondition Ne
  pub at_most : GivesCondition Le
  pub above : GivesCondition Gt
  pub at_least : GivesCondition Ge
  pub both : HasKind two_columns Condition (Binary Both here is_less is_less) (typed.Binary Both typed_is_less typed_is_less)
  pub both_of_words : HasNoForm (Binary Both here first second)
  pub either : HasKind two_columns Condition (Binary Either here is_less is_less) (typed.Binary Either typed_is_less typed_is_less)
  pub either_of_words : HasNoForm (Binary Either here first second)
  pub negation : HasKind two_columns Condition (Not here is_less) (typed.Not typed_is_less)
  pub negation_of_a_word : HasNoForm (Not here first)
  -- what is divided by is a number other than 0
  pub quotient : TakesNumber Div 1
  pub divided_by_zero : RefusesNumber Div 0
  pub divided_by_a_column : RefusesColumn Div
  pub remainder : TakesNumber Rem 1
  pub remainder_by_zero : RefusesNumber Rem 0
  pub remainder_by_a_column : RefusesColumn Rem
  -- what is shifted by, and what halves a decay, is a number below 64
  pub shift : TakesNumber Shl 63
  pub shifted_by_64 : RefusesNumber Shl 64
  pub shifted_by_a_column : RefusesColumn Shl
  pub shift_right : TakesNumber Shr 63
  pub shifted_right_by_64 : RefusesNumber Shr 64
  pub shifted_right_by_a_column : RefusesColumn Shr
  pub decay : TakesNumber Decay 63
  pub decay_by_64 : RefusesNumber Decay 64
  pub decay_by_a_column : RefusesColumn Decay

abbrev pub a_field : ℕ → StreamColumn
a_field id = record { name = id; origin = origin.Field }

-- the stream of a groupby by the key 1, whose fold has the variable 3
abbrev pub by_key : StreamView
by_key = record {
  number = 1;
  columns = a_field 1 ∷ [];
  hidden = 3 ∷ [];
  table = Some (record { place = place.Group 0; columns = 1 ∷ 3 ∷ []; keys = 1 });
}

-- the stream of a `map` that makes a column with the name 2, and one that has the packet's field of that name
abbrev pub mapped : StreamView
mapped = record { number = 2; columns = a_field 1 ∷ record { name = 2; origin = origin.Map 2 } ∷ []; hidden = []; table = None }

abbrev pub unmapped : StreamView
unmapped = record { number = 3; columns = a_field 1 ∷ a_field 2 ∷ []; hidden = []; table = None }

-- a fold with the variable 3 and the argument 2, and one whose variable has the name 1
abbrev pub of_one_argument : FoldView
of_one_argument = record { number = 0; states = 3 ∷ []; args = 2 ∷ []; emits = false }

abbrev pub of_no_argument : FoldView
of_no_argument = record { number = 1; states = 1 ∷ []; args = []; emits = false }

-- a packet's fields, of which five are those of `5tuple`
abbrev pub five_names : List ℕ
five_names = 21 ∷ 22 ∷ 23 ∷ 24 ∷ 25 ∷ []

abbrev pub fields : StreamView
fields = record { number = 0; columns = map a_field (2 ∷ 21 ∷ 22 ∷ 23 ∷ 24 ∷ 25 ∷ 26 ∷ 27 ∷ 28 ∷ 29 ∷ []); hidden = []; table = None }

-- the stream of a `zip`, with a column that has the name of a hidden state
abbrev pub zipped : StreamView
zipped = record { number = 3; columns = a_field 1 ∷ a_field 3 ∷ []; hidden = 3 ∷ []; table = None }

abbrev pub items_before : List Known
items_before =
    record { name = 10; meaning = meaning.Stream by_key }
    ∷ record { name = 11; meaning = meaning.Stream mapped }
    ∷ record { name = 12; meaning = meaning.Stream unmapped }
    ∷ record { name = 13; meaning = meaning.Fold of_one_argument }
    ∷ record { name = 14; meaning = meaning.Fold of_no_argument }
    ∷ record { name = 15; meaning = meaning.Stream fields }
    ∷ record { name = 16; meaning = meaning.Stream zipped }
    ∷ []

-- after these the operator makes this, as stream 4 and after one groupby
abbrev pub Makes : StreamOp → MadeStream → Type 0
Makes op made = HasStream [] items_before 4 1 op made

abbrev pub MakesNothing : StreamOp → Type 0
MakesNothing op = (made : MadeStream) → Makes op made → ⊥

-- 0 is less than this column
abbrev pub is_above_0 : ℕ → Expr
is_above_0 id = Binary Lt here (Number 0 here) (Named (called id))

-- a new column of a `map`, by its name and value
abbrev pub new_column : ℕ → Expr → Column
new_column id value = record { name = called id; value = value }

-- a groupby by one key, of the stream and with the fold of these names
abbrev pub grouped_by : ℕ → ℕ → ℕ → StreamOp
grouped_by input id fold_id = Group (called input) (key.Named (called id) ∷ []) (called fold_id)

-- keys of the packet's fields, by their names
abbrev pub keys_named : List ℕ → List Key
keys_named ids = map (λ id. key.Named (called id)) ids

abbrev pub eight_keys : List ℕ
eight_keys = 21 ∷ 22 ∷ 23 ∷ 24 ∷ 25 ∷ 26 ∷ 27 ∷ 28 ∷ []

-- the groupby of packets by keys of these names and slots, whose argument is the column of slot 0
abbrev pub by_fields : List ℕ → List ℕ → MadeStream
by_fields ids slots = record {
  op = made_by.Group 0 slots 0 (0 ∷ []);
  columns = map a_field ids;
  hidden = 3 ∷ [];
  table = Some (record { place = place.Group 1; columns = ids ++ 3 ∷ []; keys = length ids });
}

-- Filters of a stream.
pub record FilterExamples : Type 0 where
  -- a filter on the key, and none on the fold's state; and a fold is no stream
  pub filter_on_the_key : Makes (Filter (called 10) (is_above_0 1)) (record {
    op = made_by.Filter 1 (typed.Binary Lt (typed.Number 0) (typed.Slot 0));
    columns = a_field 1 ∷ [];
    hidden = 3 ∷ [];
    table = None;
  })
  pub filter_on_a_state : MakesNothing (Filter (called 10) (is_above_0 3))
  pub filter_of_a_fold : MakesNothing (Filter (called 13) (is_above_0 2))
  -- a column is found before a hidden state of its name
  pub filter_on_a_column_with_a_states_name : Makes (Filter (called 16) (is_above_0 3)) (record {
    op = made_by.Filter 3 (typed.Binary Lt (typed.Number 0) (typed.Slot 1));
    columns = a_field 1 ∷ a_field 3 ∷ [];
    hidden = 3 ∷ [];
    table = None;
  })

-- New columns of a stream.
pub record MapExamples : Type 0 where
  -- a new column, after those of the input
  pub map_of_a_sum : Makes (Map (called 12) (new_column 5 (Binary Add here first second) ∷ [])) (record {
    op = made_by.Map 3 (typed.Binary Add (typed.Slot 0) (typed.Slot 1) ∷ []);
    columns = a_field 1 ∷ a_field 2 ∷ record { name = 5; origin = origin.Map 4 } ∷ [];
    hidden = [];
    table = None;
  })
  -- its name is new beside the columns, the states and the other new columns; and it is a word of the input's columns alone
  pub map_to_a_column : MakesNothing (Map (called 12) (new_column 2 first ∷ []))
  pub map_to_a_state : MakesNothing (Map (called 10) (new_column 3 first ∷ []))
  pub map_to_one_name : MakesNothing (Map (called 12) (new_column 5 first ∷ new_column 5 second ∷ []))
  pub map_of_a_condition : MakesNothing (Map (called 12) (new_column 5 is_less ∷ []))
  pub map_of_a_new_column : MakesNothing (Map (called 12) (new_column 5 first ∷ new_column 6 (Named (called 5)) ∷ []))

-- Two streams side by side.
pub record ZipExamples : Type 0 where
  -- the key and the mapped column side by side; but a mapped column isn't the packet's field of its name
  pub zip_of_one_column : Makes (Zip (called 10) (called 11)) (record {
    op = made_by.Zip 1 2 (1 ∷ []);
    columns = a_field 1 ∷ record { name = 2; origin = origin.Map 2 } ∷ [];
    hidden = 3 ∷ [];
    table = None;
  })
  pub zip_of_a_mapped_column : MakesNothing (Zip (called 11) (called 12))

-- Groupbys of a stream.
pub record GroupExamples : Type 0 where
  -- the second column is the fold's argument; the table has the key and then the fold's variable
  pub groupby_of_a_key : Makes (grouped_by 12 1 13) (record {
    op = made_by.Group 3 (0 ∷ []) 0 (1 ∷ []);
    columns = a_field 1 ∷ [];
    hidden = 3 ∷ [];
    table = Some (record { place = place.Group 1; columns = 1 ∷ 3 ∷ []; keys = 1 });
  })
  -- no key is given twice, a key is a column and no state, the fold's arguments are columns, and its variables have no key's name
  pub key_twice : MakesNothing (Group (called 12) (key.Named (called 1) ∷ key.Named (called 1) ∷ []) (called 13))
  pub key_without_a_column : MakesNothing (grouped_by 12 5 13)
  pub key_is_a_state : MakesNothing (grouped_by 10 3 14)
  pub argument_without_a_column : MakesNothing (grouped_by 10 1 13)
  pub variable_with_a_keys_name : MakesNothing (grouped_by 12 1 14)
  -- there are at most eight keys; `5tuple` stands for five
  pub eight_fields : Makes (Group (called 15) (keys_named eight_keys) (called 13))
      (by_fields eight_keys (1 ∷ 2 ∷ 3 ∷ 4 ∷ 5 ∷ 6 ∷ 7 ∷ 8 ∷ []))
  pub nine_fields : MakesNothing (Group (called 15) (keys_named (29 ∷ eight_keys)) (called 13))
  pub five_tuple : HasStream five_names items_before 4 1 (Group (called 15) (key.FiveTuple here ∷ []) (called 13))
      (by_fields five_names (1 ∷ 2 ∷ 3 ∷ 4 ∷ 5 ∷ []))
  pub ninth_groupby : (made : MadeStream) → HasStream [] items_before 4 8 (grouped_by 12 1 13) made → ⊥

pub record StreamExamples : Type 0 where
  pub filters : FilterExamples
  pub maps : MapExamples
  pub zips : ZipExamples
  pub groupbys : GroupExamples
