use Rattle.std.proofs.Common.{◌≡◌, ◌≤◌, [], drop, length}
use Rattle.query_lang.specs.{TypedFolds.args_from, declared.fault.TheConstants.MAX_ARGS}
use Rattle.query_types.proofs.folds.check_args.Given as goal

abbrev pub invariant-loop-arg : goal.invariant-loop-arg
invariant-loop-arg l = record {
  given : args_from l.states l.found (drop l.arg-index l.args) ≡ args_from l.states [] l.args;
  most : length l.found ≤ MAX_ARGS;
}
