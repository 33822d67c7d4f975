-- A fold has no Other where the kinds after its body, from those it starts with, have none.
use Rattle.std.proofs.Common.{subst, sym}
use Rattle.query_lang.specs.{Blocks.block_of, Folds.{fold_states, fold_args}, declared.fault.TheConstants.MAX_STATES}
use Rattle.fold_class.{specs.Walk.{AssignsBelow, flag_in}, proofs.{ReadLemmas.valid_below, LinearLemmas.kept_from}}
use Rattle.fold_class.proofs.kept.has_no_other.Goals as goal

pub walk_block-requires-clause-below : goal.walk_block-requires-clause-below
walk_block-requires-clause-below g c =
    let f = c.args.f.now in
    subst (λ z. AssignsBelow MAX_STATES (block_of z)) (sym c.as_slice.ensures)
    (valid_below MAX_STATES (fold_states f) (fold_args f) (block_of f.body) c.requires.valid.states c.requires.valid.statements)

pub returns : goal.returns
returns g c =
    kept_from (g.O.Operators.roles c.args.operators.now) c.args.f.now (flag_in c.args.fixed.now) c.len-states.result c.as_slice.result.now
    c.first_kinds-kinds.result c.walk_block.new.kinds c.none_other.result
    c.len-states.ensures c.as_slice.ensures c.first_kinds-kinds.ensures c.walk_block.ensures c.none_other.ensures
