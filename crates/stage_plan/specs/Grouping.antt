-- The groupbys of a plan against what the query says of them.
use Rattle.std.specs.Prelude.{◌≡◌, ℕ, ◌<◌, ◌≤◌, List, length, option_map, slice_get, Option, Some, None}
use Rattle.fold_class.specs.Program.{IsProgram, IsProgramOf}
use Rattle.query_lang.specs.declared.{fold.TypedFold.TypedFold, typed.TypedOp.{TypedOp, TheVariants.{Filter, Map, Zip, Group}}}
use Rattle.query_lang.specs.{declared.typed.{TypedQuery.TypedQuery, TypedStream.TypedStream}, Folds.fold_args, Streams.Taking}
use Rattle.query_lang.specs.{TypedQueries.AreNames, declared.fault.TheConstants.{MAX_ARGS, MAX_KEYS, MAX_STATES}}
use Rattle.stage_plan.specs.{declared.group.GroupPlan.GroupPlan, Shape.{group_shape, shape_with}}

-- a groupby of a fold with these numbers of keys and arguments: its name and those of its keys are there, there are 1 to 8 keys,
-- and the fold takes as many arguments
pub record FitsFold (q : TypedQuery) (one : TypedStream) (number keys args : ℕ) : Type 0 where
  pub name : one.name.id < length q.names
  pub key_names : AreNames (length q.names) one.columns
  pub some_keys : 0 < length one.columns
  pub most_keys : length one.columns ≤ MAX_KEYS
  pub all_keys : length one.columns ≡ keys
  pub is_fold : number < length q.folds
  pub all_args : option_map fold_args (slice_get q.folds number) ≡ Some args

-- the same of a stream's operator, where it is a groupby
abbrev pub FitsGroup : TypedQuery → TypedStream → TypedOp → Type 0
FitsGroup q one (Filter input condition) = Unit {0}
FitsGroup q one (Map input values) = Unit {0}
FitsGroup q one (Zip left right slots) = Unit {0}
FitsGroup q one (Group input keys f args) = FitsFold q one f (length keys) (length args)

-- the groupby's shape is that of the stream
abbrev pub IsGroupShape : TypedQuery → TypedStream → ℕ → ℕ → GroupPlan → Type 0
IsGroupShape q one number args group =
    Some (group_shape group) ≡ option_map (shape_with q.names one.name.id one.columns args) (slice_get q.folds number)

-- a groupby of a fold with these numbers of keys and arguments
pub record IsGroupFor (folds : List TypedFold) (number words row_words : ℕ) (group : GroupPlan) : Type 0 where
  pub program : (f : TypedFold) → slice_get folds number ≡ Some f → IsProgramOf f group.program
  pub is_program : IsProgram group.program
  pub some_keys : 0 < length group.key_names
  pub most_keys : length group.key_names ≤ MAX_KEYS
  pub most_states : length group.state_names ≤ MAX_STATES
  pub states : length group.state_names ≡ length group.program.layout.initial
  pub keys : length group.key_names ≡ words
  pub args : group.program.layout.args ≡ row_words
  pub most_args : row_words ≤ MAX_ARGS

-- the groupbys of these takings, in order
abbrev pub AreGroupsOf : List TypedFold → List Taking → List GroupPlan → Type 0
AreGroupsOf folds takings groups = (i : ℕ) (t : Taking) (group : GroupPlan) → slice_get takings i ≡ Some t
    → slice_get groups i ≡ Some group
    → IsGroupFor folds t.fold_number (length t.keys) (length t.args) group

-- the groupby of a stream, where it is one
abbrev pub IsGroupOf : List TypedFold → Option Taking → Option GroupPlan → Type 0
IsGroupOf folds None None = Unit {0}
IsGroupOf folds (Some t) (Some group) = IsGroupFor folds t.fold_number (length t.keys) (length t.args) group
IsGroupOf folds _ _ = ⊥
