-- Which typed queries are valid: what they name is there, conditions, words and constants are where they are allowed, and the limits
-- are kept.
use Rattle.std.specs.Prelude.{◌≡◌, ℕ, zero, suc, ◌+◌, ◌-◌, ◌<◌, ◌≤◌, true, false, List, [], ◌∷◌, ◌++◌, length, map, sum_by, All, slice_get}
use Rattle.std.specs.Prelude.{Option, Some, None, option_map, unwrap_or}
use Rattle.marple_base.specs.declared.field.TheConstants.{FIELDS}
use Rattle.query_lang.specs.declared.{fold.{TypedExpr.TypedExpr, TypedFold.TypedFold}, typed.PrintOf.PrintOf}
use Rattle.query_lang.specs.declared.typed.PrintOf.TheVariants as printed
use Rattle.query_lang.specs.declared.typed.{TypedFinal.TypedFinal, TypedFinalOp.TypedFinalOp}
use Rattle.query_lang.specs.declared.typed.TypedFinalOp.TheVariants as final
use Rattle.query_lang.specs.declared.typed.TypedOp.{TypedOp}
use Rattle.query_lang.specs.declared.typed.TypedOp.TheVariants as op
use Rattle.query_lang.specs.{declared.typed.{TypedQuery.TypedQuery, TypedStream.TypedStream}, Terms.term_of}
use Rattle.query_lang.specs.{Folds.{IsValidTerm, is_condition, term_nodes, IsValidFold, fold_states, fold_args}, Streams.{Taking, takings}}
use Rattle.query_lang.specs.declared.fault.TheConstants.{MAX_BINDINGS, MAX_GROUPBYS, MAX_KEYS, MAX_NODES}

-- an expression over a row of this many slots
abbrev pub IsValidExpr : ℕ → TypedExpr → Type 0
IsValidExpr slots e = IsValidTerm slots (term_of e) × (term_nodes (term_of e) ≤ MAX_NODES)

abbrev pub IsValidCondition : ℕ → TypedExpr → Type 0
IsValidCondition slots e = IsValidExpr slots e × (is_condition (term_of e) ≡ true)

abbrev pub IsValidWord : ℕ → TypedExpr → Type 0
IsValidWord slots e = IsValidExpr slots e × (is_condition (term_of e) ≡ false)

-- the new columns of one `map`
abbrev pub AreValidWords : ℕ → List TypedExpr → Type 0
AreValidWords slots values = All (IsValidWord slots) values × (sum_by (λ e. term_nodes (term_of e)) values ≤ MAX_NODES)

abbrev pub AreSlots : ℕ → List ℕ → Type 0
AreSlots slots list = All (λ slot. slot < slots) list

-- the keys and the fold's arguments of a groupby over a row of so many slots
pub record IsValidGroup (folds : List TypedFold) (slots : ℕ) (keys : List ℕ) (fold_number : ℕ) (args : List ℕ) : Type 0 where
  pub keys_are_slots : AreSlots slots keys
  pub some_keys : 0 < length keys
  pub most_keys : length keys ≤ MAX_KEYS
  pub is_fold : fold_number < length folds
  pub args_are_slots : AreSlots slots args
  pub all_args : option_map fold_args (slice_get folds fold_number) ≡ Some (length args)

-- how many slots a row of the stream with this number has: the packets' stream has one for each field
abbrev pub stream_width : List TypedStream → ℕ → ℕ
stream_width streams zero = FIELDS
stream_width streams (suc i) = unwrap_or (option_map (λ one. length one.columns) (slice_get streams i)) 0

-- an operator on the streams before it, which makes rows of this many slots
abbrev pub IsValidOp : List TypedFold → List TypedStream → ℕ → TypedOp → Type 0
IsValidOp folds before width (op.Filter input condition) =
    (input ≤ length before) × IsValidCondition (stream_width before input) condition × (width ≡ stream_width before input)
IsValidOp folds before width (op.Map input values) =
    (input ≤ length before) × AreValidWords (stream_width before input) values × (width ≡ stream_width before input + length values)
IsValidOp folds before width (op.Zip left right slots) =
    (left ≤ length before) × (right ≤ length before) × AreSlots (stream_width before right) slots
    × (width ≡ stream_width before left + length slots)
IsValidOp folds before width (op.Group input keys f args) =
    (input ≤ length before) × IsValidGroup folds (stream_width before input) keys f args × (width ≡ length keys)

-- a name among this many
abbrev pub AreNames : ℕ → List ℕ → Type 0
AreNames names list = All (λ id. id < names) list

-- a stream after others
pub record IsValidStream (names : ℕ) (folds : List TypedFold) (before : List TypedStream) (one : TypedStream) : Type 0 where
  pub name : one.name.id < names
  pub columns : AreNames names one.columns
  pub operator : IsValidOp folds before (length one.columns) one.op

abbrev pub AreValidStreams : ℕ → List TypedFold → List TypedStream → List TypedStream → Type 0
AreValidStreams names folds before [] = Unit {0}
AreValidStreams names folds before (one ∷ rest) = IsValidStream names folds before one
    × AreValidStreams names folds (before ++ one ∷ []) rest

-- how many columns a table has, and how many of them are keys
pub record Shape : Type 0 where
  pub width : ℕ
  pub keys : ℕ

-- the table of a groupby has its keys and the fold's state variables
abbrev pub group_shape : List TypedFold → Taking → Shape
group_shape folds t = record {
  width = length t.keys
      + unwrap_or (option_map fold_states (slice_get folds t.fold_number)) 0;
  keys = length t.keys;
}

abbrev pub final_shape : TypedFinal → Shape
final_shape one = record { width = length one.columns; keys = one.keys }

-- the shapes of the tables in the order of their numbers: groupbys, and then these finals
abbrev pub shapes : List TypedFold → List TypedStream → List TypedFinal → List Shape
shapes folds streams finals = map (group_shape folds) (takings streams) ++ map final_shape finals

abbrev pub shape_at : List Shape → ℕ → Shape
shape_at tables number = unwrap_or (slice_get tables number) (record { width = 0; keys = 0 })

-- a fold without an `emit`
abbrev pub IsQuiet : Option TypedFold → Type 0
IsQuiet None = Unit {0}
IsQuiet (Some f) = f.emit ≡ None

-- an operator on the tables before it, which makes a table of this shape
abbrev pub IsValidFinalOp : List TypedFold → List Shape → Shape → TypedFinalOp → Type 0
IsValidFinalOp folds tables made (final.Filter input condition) =
    (input < length tables) × IsValidCondition (shape_at tables input).width condition × (made ≡ shape_at tables input)
IsValidFinalOp folds tables made (final.Map input values) =
    (input < length tables) × AreValidWords (shape_at tables input).width values
    × (made.width ≡ (shape_at tables input).width + length values) × (made.keys ≡ (shape_at tables input).keys)
IsValidFinalOp folds tables made (final.Group input keys f args) =
    (input < length tables) × IsValidGroup folds (shape_at tables input).width keys f args × IsQuiet (slice_get folds f)
    × (made ≡ group_shape folds (record { input = input; keys = keys; fold_number = f; args = args }))
IsValidFinalOp folds tables made (final.Join left right) =
    (left < length tables) × (right < length tables) × ((shape_at tables left).keys ≡ (shape_at tables right).keys)
    × (made.width ≡ (shape_at tables left).width + ((shape_at tables right).width - (shape_at tables right).keys))
    × (made.keys ≡ (shape_at tables left).keys)
IsValidFinalOp folds tables made (final.Top input column kept) =
    (input < length tables) × (column < (shape_at tables input).width) × (0 < kept) × (kept ≤ 65536)
    × (made ≡ shape_at tables input)

-- a final after the groupbys and other finals
pub record IsValidFinal (names : ℕ) (folds : List TypedFold) (tables : List Shape) (one : TypedFinal) : Type 0 where
  pub name : one.name.id < names
  pub columns : AreNames names one.columns
  pub keys : one.keys ≤ length one.columns
  pub operator : IsValidFinalOp folds tables (final_shape one) one.op

abbrev pub AreValidFinals : ℕ → List TypedFold → List Shape → List TypedFinal → Type 0
AreValidFinals names folds tables [] = Unit {0}
AreValidFinals names folds tables (one ∷ rest) = IsValidFinal names folds tables one
    × AreValidFinals names folds (tables ++ final_shape one ∷ []) rest

abbrev pub IsQueryTable : TypedQuery → PrintOf → Type 0
IsQueryTable q (printed.Group number) = number < length (takings q.streams)
IsQueryTable q (printed.Final number) = number < length q.finals

-- the numbers of names that a fold has
pub record HasNames (names : ℕ) (f : TypedFold) : Type 0 where
  pub name : f.name.id < names
  pub states : AreNames names f.state_names
  pub args : AreNames names f.arg_names

pub record IsValidQuery (q : TypedQuery) : Type 0 where
  pub folds : All IsValidFold q.folds
  pub fold_names : All (HasNames (length q.names)) q.folds
  pub streams : AreValidStreams (length q.names) q.folds [] q.streams
  pub finals : AreValidFinals (length q.names) q.folds (shapes q.folds q.streams []) q.finals
  pub prints : All (IsQueryTable q) q.prints
  pub most_bindings : length q.streams + length q.finals ≤ MAX_BINDINGS
  pub most_groupbys : length (takings q.streams) ≤ MAX_GROUPBYS
