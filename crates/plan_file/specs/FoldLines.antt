-- The line `fold`: the class, the depth and the bounds of a group's fold.
use Rattle.std.specs.Prelude.{◌≡◌, ℕ, ◌≤◌, List, [], ◌∷◌, length, codes, Some, None}
use Rattle.query_lang.specs.declared.{fold.TypedFold.TypedFold, typed.Class.Class}
use Rattle.query_lang.specs.Folds.{block_count, block_nodes, fold_args, fold_block, fold_states}
use Rattle.query_lang.specs.declared.fault.TheConstants.{MAX_NODES, MAX_STATEMENTS}
use Rattle.fold_class.specs.{Kinds.class_of, Depth.IsDepth}
use Rattle.stage_plan.specs.Shape.{class_word}
use Rattle.plan_file.specs.{declared.{lexemes.Lexeme.Lexeme, made.{Group.Group, Folded.Folded}}, Lexis.{tokens, number}, Bodies.IsBody}

-- a fold of a group, with its state variables, its arguments and the statements of its body
pub record IsFoldOf (group : Group) (fold : TypedFold) : Type 0 where
  pub words : List Lexeme
  pub has_body : group.body ≡ Some words
  pub body : IsBody (length group.initial) (length group.args) words (fold_block fold)
  pub states : fold_states fold ≡ length group.initial
  pub args : fold_args fold ≡ length group.args
  pub initial : fold.initial ≡ group.initial
  pub emit : fold.emit ≡ None

-- `fold CLASS K n s`
pub record IsFoldWords (line : List ℕ) (class : Class) (depth nodes statements : ℕ) : Type 0 where
  pub depth_token : List ℕ
  pub nodes_token : List ℕ
  pub statements_token : List ℕ
  pub words : tokens line ≡ codes "fold" ∷ class_word class ∷ depth_token ∷ nodes_token ∷ statements_token ∷ []
  pub depth_is : number depth_token ≡ Some depth
  pub nodes_are : number nodes_token ≡ Some nodes
  pub statements_are : number statements_token ≡ Some statements

-- bounds that a fold's nodes and statements don't exceed, at most MAX_NODES and MAX_STATEMENTS
pub record AreBounds (fold : TypedFold) (nodes statements : ℕ) : Type 0 where
  pub enough_nodes : block_nodes (fold_block fold) ≤ nodes
  pub most_nodes : nodes ≤ MAX_NODES
  pub enough_statements : block_count (fold_block fold) ≤ statements
  pub most_statements : statements ≤ MAX_STATEMENTS

-- `fold CLASS K n s`, with the class and the depth of the group's fold, and bounds on its nodes and statements
pub record IsFoldLine (before : Group) (line : List ℕ) (after : Folded) : Type 0 where
  pub valid : IsFoldWords line after.class after.depth after.nodes after.statements
  pub fold : TypedFold
  pub is_fold : IsFoldOf before fold
  pub class : after.class ≡ class_of fold
  pub depth : IsDepth fold after.depth
  pub bounds : AreBounds fold after.nodes after.statements
  pub made : after.group ≡ before
