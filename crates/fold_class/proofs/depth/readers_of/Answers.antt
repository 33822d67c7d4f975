-- With Other for only one variable at first, those that are Other after the body are those that read it.
use Rattle.std.proofs.Common.{ap, ◌∙◌, sym, subst, refl, arith, ◌∷◌, [], set}
use Rattle.query_lang.specs.{Blocks.block_of, Folds.{fold_states, fold_args}, declared.fault.TheConstants.MAX_STATES}
use Rattle.fold_class.specs.{declared.class.Kind.TheVariants.{Pure, Other}, Kinds.kinds_after, Walk.{kinds_in, outside, AssignsBelow}}
use Rattle.fold_class.proofs.ReadLemmas.{valid_below, column_shows, start_is}
use Rattle.fold_class.proofs.depth.readers_of.Goals as goal

pub walk_block-requires-clause-below : goal.walk_block-requires-clause-below
walk_block-requires-clause-below c =
    let f = c.args.f.now in
    subst (λ z. AssignsBelow MAX_STATES (block_of z)) (sym c.as_slice.ensures)
    (valid_below MAX_STATES (fold_states f) (fold_args f) (block_of f.body) c.requires.valid.states c.requires.valid.statements)

pub returns : goal.returns
returns c =
    let f = c.args.f.now in
    let pures = Pure ∷ Pure ∷ Pure ∷ Pure ∷ Pure ∷ Pure ∷ Pure ∷ Pure ∷ [] in
    column_shows f c.args.u _ c.walk_block.new.kinds c.requires.variable
    (start_is pures c.args.u (refl, (refl, (refl, (refl, (refl, (refl, (refl, (refl, tt))))))))
    (omega (arith, c.requires.variable, c.requires.valid.states)))
    (c.walk_block.ensures ∙ ap (λ z. kinds_after outside (block_of z) (kinds_in (set pures c.args.u Other))) c.as_slice.ensures)
