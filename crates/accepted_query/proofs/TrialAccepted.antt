-- The query of a trial is accepted, by computing the definitions.
use Rattle.std.{proofs.Common.{◌≡◌, Bool, true, false, ◌∷◌, refl, ap, ◌∙◌}, specs.Prelude.{Ok, Err}}
use Rattle.query_lang.specs.declared.query.Item.TheVariants as item
use Rattle.query_lang.specs.{declared.{typed.TypedQuery.TypedQuery, typing.{Earlier.Earlier, Given.Given}}, Lexis.{reserved, cut}}
use Rattle.query_lang.specs.{Checks.{Checked, and_then}, Typing.{given_of, start_of, typed_names, items_checked, ended, with_fold, checked}}
use Rattle.query_grammar.specs.{Reading.{expr_at, stmt_at}, Texts.parsed_text}
use Rattle.accepted_query.{specs.{Accepted.{accepted, staged}, TrialQuery.trial_query}, proofs.TrialSteps.fold_next}
use Rattle.accepted_query.proofs.TrialParts.{at, count_fold, lost_fold, oos_fold, deepest_fold, trial_names, trial_rest, trial_read}
use Rattle.accepted_query.proofs.TrialTyped.{count_typed, count_is, lost_typed, lost_is, oos_typed, oos_is, deepest_typed, deepest_is}

read : parsed_text trial_query ≡ Ok trial_read
unfolding trial_query reserved cut expr_at stmt_at
read = refl

abbrev given : Given
given = given_of (typed_names trial_names) trial_read.items

abbrev start : Earlier
start = start_of (typed_names trial_names)

abbrev folds : Earlier
folds = with_fold (with_fold (with_fold (with_fold start count_typed) lost_typed) oos_typed) deepest_typed

items : items_checked given start trial_read.items ≡ items_checked given folds trial_rest
items =
    fold_next given start count_fold count_typed (item.Fold lost_fold ∷ item.Fold oos_fold ∷ item.Fold deepest_fold ∷ trial_rest) refl
    count_is
    ∙ fold_next given (with_fold start count_typed) lost_fold lost_typed (item.Fold oos_fold ∷ item.Fold deepest_fold ∷ trial_rest) refl
    lost_is
    ∙ fold_next given (with_fold (with_fold start count_typed) lost_typed) oos_fold oos_typed (item.Fold deepest_fold ∷ trial_rest) refl
    oos_is
    ∙ fold_next given (with_fold (with_fold (with_fold start count_typed) lost_typed) oos_typed) deepest_fold deepest_typed trial_rest refl
    deepest_is

-- what is left of its acceptance, after the folds
abbrev pub after_folds : Checked TypedQuery
after_folds = and_then (and_then (items_checked given folds trial_rest) (ended (typed_names trial_names) (at 540 540))) staged

pub trial_is : accepted trial_query ≡ after_folds
unfolding accepted
trial_is =
    ap (λ r. and_then r (λ q. and_then (checked q) staged)) read
    ∙ ap (λ r. and_then (and_then r (ended (typed_names trial_names) (at 540 540))) staged) items

-- whether no fault is found
abbrev is_fine : Checked TypedQuery → Bool
is_fine (Ok q) = true
is_fine (Err fault) = false

found : (r : Checked TypedQuery) → is_fine r ≡ true → (q : TypedQuery) × (r ≡ Ok q)
found (Ok q) fine = (q, refl)
found (Err fault) fine = cc

fine : is_fine after_folds ≡ true
fine = refl

pub trial_accepted : (q : TypedQuery) × (accepted trial_query ≡ Ok q)
trial_accepted = found (accepted trial_query) (ap is_fine trial_is ∙ fine)
