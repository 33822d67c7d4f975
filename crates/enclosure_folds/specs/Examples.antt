-- The bounds of keys of small folds, computed.
use Rattle.std.specs.Prelude.{◌≡◌, ℕ, Bool, List, [], ◌∷◌, map}
use Rattle.query_lang.specs.{declared.fold.TypedFold.TypedFold, Blocks.Block, Folds.initial_state}
use Rattle.epoch_model.specs.Keys.{ArgRow}
use Rattle.enclosure_folds.specs.{MonotoneExamples.HasBody, Bounds.{low_bound, high_bound, is_exact}}
use Rattle.epoch_entry.specs.Bounds.{bounds_after}

-- the bounds of a key with these row lists, of a fold whose one variable starts at 0, and whether they are marked exact
abbrev pub AreKeyBounds : Block → List (List ArgRow) → ℕ → ℕ → Bool → Type 0
AreKeyBounds block lists low high mark = (f : TypedFold) → HasBody f 1 block → initial_state f ≡ 0 ∷ [] →
    (low_bound 1 (map (bounds_after f) lists) ≡ low ∷ []) × (high_bound 1 (map (bounds_after f) lists) ≡ high ∷ []) ×
    (is_exact (low_bound 1 (map (bounds_after f) lists)) (high_bound 1 (map (bounds_after f) lists)) ≡ mark)

-- the row lists of a key with one argument row in its one epoch, and of one with two epochs of one row
abbrev pub one_epoch : ℕ → List (List ArgRow)
one_epoch a = ((a ∷ []) ∷ []) ∷ []

abbrev pub two_epochs : ℕ → ℕ → List (List ArgRow)
two_epochs a b = ((a ∷ []) ∷ []) ∷ ((b ∷ []) ∷ []) ∷ []
