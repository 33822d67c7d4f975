-- The code run on a key's row, made with the initial state where it is new, holds one more epoch of that one row.
use Rattle.std.proofs.Common.{◌≡◌, ◌∷◌, [], false, refl, sym, ap, ◌∙◌, length}
use Rattle.backing_store.specs.Store.{counted}
use Rattle.query_lang.specs.Folds.{initial_state}
use Rattle.final_queries.specs.Grouped.{whole_folding}
use Rattle.final_queries.proofs.grouped.fold_args_in.Goals as goal

pub returns-clause-ok : goal.returns-clause-ok
returns-clause-ok g c f epochs code starts held =
    let old = c.args.store.now in
    let key = c.args.key.now in
    let was = c.row_mut-state.result.now in
    let middle = c.row_for.new.self in
    let made : middle ≡ counted old key (initial_state f) false = c.in_ok-place.ensures.ok
    ∙ ap (λ ws. counted old key ws false) (sym starts) in
    let long : length was ≡ c.args.code.now.states = c.row_mut-state.ensures.length
    ∙ (ap (λ s. s.state_words) c.in_ok-place.ensures.ok ∙ sym c.requires.states) in
    c.merged_epochs_are_held.ensures (whole_folding f) old middle _ key c.in_ok-place.place was c.exec.new.state (c.args.args.now ∷ [])
    c.invariant.ensures c.invariant-2.ensures c.requires.key (ap length starts ∙ c.requires.initial) made c.in_ok-place.ensures.place
    c.row_mut-state.ensures.value (c.exec.auto.state ∙ c.row_mut-state.ensures.length) refl
    (λ h. c.exec.ensures.step ∙ code.step was c.args.args.now (long ∙ code.states)) epochs held
