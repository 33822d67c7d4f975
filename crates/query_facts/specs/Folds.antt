-- What a fold is.
use Rattle.query_lang.specs.declared.fold.TypedFold.{TypedFold}
use Rattle.fold_code.specs.Additive.{is_additive}
use Rattle.fold_class.specs.{Depth.depth_of, Kinds.{class_of, algebra_of}, Step.history_places}
use Rattle.enclosure_folds.specs.Kinds.{is_monotone}
use Rattle.query_facts.specs.declared.folds.FoldFacts.{FoldFacts}

-- The facts of a fold, each by its definition.
abbrev pub fold_facts : TypedFold → FoldFacts
fold_facts f = record {
  class = class_of f;
  algebra = algebra_of f;
  depth = depth_of f;
  history = history_places f;
  additive = is_additive f;
  monotone = is_monotone f;
}
