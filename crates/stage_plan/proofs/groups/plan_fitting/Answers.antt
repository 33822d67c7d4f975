-- The number of a groupby's fold finds it, and with its program and names the group is sound and has its shape.
use Rattle.std.{proofs.Common.{◌∙◌, sym, ap}, specs.Prelude.slice_get}
use Rattle.query_lang.specs.{Folds.IsValidFold, TypedQueries.HasNames}
use Rattle.stage_plan.proofs.Groupings.{args_are, fitting_shape, fitting_sound, of_found}
use Rattle.stage_plan.proofs.groups.plan_fitting.Goals as goal

pub classify-requires-clause-valid : goal.classify-requires-clause-valid
classify-requires-clause-valid c = of_found IsValidFold c.args.q.now.folds c.args.number c.fold_of-f.result.now c.requires.folds
    (ap (λ l. slice_get l c.args.number) (sym c.as_slice.ensures) ∙ c.fold_of-f.ensures)

pub texts_of-requires-2 : goal.texts_of-requires-2
texts_of-requires-2 c = rw c.as_slice-3.ensures (of_found (HasNames _) c.args.q.now.folds c.args.number c.fold_of-f.result.now
    c.requires.names (ap (λ l. slice_get l c.args.number) (sym c.as_slice.ensures) ∙ c.fold_of-f.ensures)).states

pub returns-clause-shape : goal.returns-clause-shape
returns-clause-shape c =
    let found = ap (λ l. slice_get l c.args.number) (sym c.as_slice.ensures) ∙ c.fold_of-f.ensures in
    fitting_shape c.args.q.now c.args.one.now _ _ _ _ found
    c.in_ok-program.ensures c.in_ok-text_of.ensures (rw c.as_slice-2.ensures at c.in_ok-texts_of.ensures)
    (rw c.as_slice-3.ensures at c.in_ok-texts_of-2.ensures)
    (args_are c.args.q.now.folds c.args.number _ _ found c.requires.fits.all_args)

pub returns-clause-sound : goal.returns-clause-sound
returns-clause-sound c =
    let found = ap (λ l. slice_get l c.args.number) (sym c.as_slice.ensures) ∙ c.fold_of-f.ensures in
    fitting_sound c.args.q.now.folds c.args.q.now.names _ _ _ c.args.one.now.columns _ _ found
    c.in_ok-program.ensures (rw c.as_slice-2.ensures at c.in_ok-texts_of.ensures)
    (rw c.as_slice-3.ensures at c.in_ok-texts_of-2.ensures)
    c.requires.fits.some_keys c.requires.fits.most_keys c.requires.fits.all_keys
    (args_are c.args.q.now.folds c.args.number _ _ found c.requires.fits.all_args)
