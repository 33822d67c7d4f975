-- A fold keeps the number of its state variables.
use Rattle.std.proofs.Common.{◌≡◌, ℕ, Bool, true, false, List, [], ◌∷◌, ◌++◌, length, set, refl, ◌∙◌, if◌then◌else◌, length-set}
use Rattle.query_lang.specs.{Words.holds, Blocks.{Block, End, Set, Fork}, declared.fold.TypedFold.TypedFold}
use Rattle.query_lang.specs.Folds.{term_value, after, body, folded, fold_block, fold_states, initial_state, IsValidFold}

after_length : (b : Block) (args state : List ℕ) → length (after b args state) ≡ length state
after_length End args state = refl
after_length (Set v e rest) args state = after_length rest args (set state v (term_value e (state ++ args)))
    ∙ length-set state v (term_value e (state ++ args))
after_length (Fork c a b rest) args state =
    after_length rest args (if holds (term_value c (state ++ args)) then after a args state else after b args state)
    ∙ either (holds (term_value c (state ++ args))) (after_length a args state) (after_length b args state)
  where
    either : (h : Bool) → length (after a args state) ≡ length state → length (after b args state) ≡ length state
        → length (if h then after a args state else after b args state) ≡ length state
    either true p q = p
    either false p q = q

folded_length : (f : TypedFold) (state : List ℕ) (rows : List (List ℕ)) → length (folded f state rows) ≡ length state
folded_length f state [] = refl
folded_length f state (row ∷ rows) = folded_length f (body f state row) rows ∙ after_length (fold_block f) row state

pub states_length : (f : TypedFold) (rows : List (List ℕ)) → IsValidFold f → length (folded f (initial_state f) rows) ≡ fold_states f
states_length f rows valid = folded_length f (initial_state f) rows ∙ valid.starts
