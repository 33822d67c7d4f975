-- The epochs of a key cut its rows.
use Rattle.std.proofs.Common.{◌≡◌, ◌<◌, cond, List, [], ◌∷◌, ◌++◌, map, filter, reverse, length, refl, sym, ap, ◌∙◌, append-nil}
use Rattle.std.{proofs.{Common.{append_assoc, arith, length-append}, lemmas.List.Elements.All-from_recursion}, specs.List.AllByRecursion}
use mathlib.Core.List.{reverse_aux}
use Rattle.epoch_model.specs.{Keys.{Key, ArgRow}, Laws.EpochsCutTheRows}
use Rattle.epoch_model.{specs.Epochs.{Use, Geometry, is_use_of, goes_on, onto_last, epochs_back, epochs}, proofs.KeyLists.by_test}
use Rattle.epoch_model.proofs.Rows.{joined, joined-append}

abbrev pub IsPiece : List ArgRow → Type 0
IsPiece rows = 0 < length rows

-- of uses from the latest one back: the rows of the key, in the order of the trace
abbrev pub rows_back : Key → List Use → List ArgRow
rows_back key [] = []
rows_back key (u ∷ earlier) = cond (is_use_of key u) (rows_back key earlier ++ u.row ∷ []) (rows_back key earlier)

onto_last-joined : (row : ArgRow) (pieces : List (List ArgRow)) → joined (onto_last row pieces) ≡ joined pieces ++ row ∷ []
onto_last-joined row [] = refl
onto_last-joined row (piece ∷ []) = append-nil (piece ++ row ∷ []) ∙ ap (λ rows. rows ++ row ∷ []) (sym (append-nil piece))
onto_last-joined row (piece ∷ next ∷ pieces) = ap (λ rows. piece ++ rows) (onto_last-joined row (next ∷ pieces))
    ∙ sym (append_assoc piece (joined (next ∷ pieces)) (row ∷ []))

epochs_back-joined : (g : Geometry) (earlier : List Use) (key : Key) → joined (epochs_back g earlier key) ≡ rows_back key earlier
epochs_back-joined g [] key = refl
epochs_back-joined g (u ∷ earlier) key =
    let rest = epochs_back-joined g earlier key in
    by_test (is_use_of key u) (λ e. by_test (goes_on g earlier u)
    (λ h. rw (e, h) (onto_last-joined u.row (epochs_back g earlier key) ∙ ap (λ rows. rows ++ u.row ∷ []) rest))
    (λ h. rw (e, h) (joined-append (epochs_back g earlier key) ((u.row ∷ []) ∷ []) ∙ ap (λ rows. rows ++ u.row ∷ []) rest)))
    (λ e. rw e rest)

rows_back-reverse : (key : Key) (uses earlier : List Use) → rows_back key (reverse_aux uses earlier) ≡ rows_back key earlier
    ++ map (λ u. u.row) (filter (is_use_of key) uses)
rows_back-reverse key [] earlier = sym (append-nil (rows_back key earlier))
rows_back-reverse key (u ∷ uses) earlier = by_test (is_use_of key u)
    (λ e. rows_back-reverse key uses (u ∷ earlier) ∙ rw e (append_assoc (rows_back key earlier) (u.row ∷ [])
    (map (λ x. x.row) (filter (is_use_of key) uses)))) (λ e. rows_back-reverse key uses (u ∷ earlier) ∙ rw e refl)

pub onto_last-pieces : (row : ArgRow) (pieces : List (List ArgRow)) → AllByRecursion IsPiece pieces
    → AllByRecursion IsPiece (onto_last row pieces)
onto_last-pieces row [] a = (omega arith, tt)
onto_last-pieces row (piece ∷ []) a = (omega (arith, length-append piece (row ∷ [])), tt)
onto_last-pieces row (piece ∷ next ∷ pieces) a = (a.0, onto_last-pieces row (next ∷ pieces) a.1)

pub more_pieces : (row : ArgRow) (pieces : List (List ArgRow)) → AllByRecursion IsPiece pieces
    → AllByRecursion IsPiece (pieces ++ (row ∷ []) ∷ [])
more_pieces row [] a = (omega arith, tt)
more_pieces row (piece ∷ pieces) a = (a.0, more_pieces row pieces a.1)

epochs_back-pieces : (g : Geometry) (earlier : List Use) (key : Key) → AllByRecursion IsPiece (epochs_back g earlier key)
epochs_back-pieces g [] key = tt
epochs_back-pieces g (u ∷ earlier) key =
    let rest = epochs_back-pieces g earlier key in
    by_test (is_use_of key u) (λ e. by_test (goes_on g earlier u) (λ h. rw (e, h) (onto_last-pieces u.row (epochs_back g earlier key) rest))
    (λ h. rw (e, h) (more_pieces u.row (epochs_back g earlier key) rest))) (λ e. rw e rest)

pub epochs-pieces : (g : Geometry) (uses : List Use) (key : Key) → AllByRecursion IsPiece (epochs g uses key)
unfolding epochs
epochs-pieces g uses key = epochs_back-pieces g _ _

pub epochs_cut_the_rows_lem : EpochsCutTheRows
unfolding epochs
epochs_cut_the_rows_lem g uses key = (
  epochs_back-joined g (reverse uses) key ∙ rows_back-reverse key uses [],
  All-from_recursion IsPiece (epochs g uses key) (epochs-pieces g uses key),
)
