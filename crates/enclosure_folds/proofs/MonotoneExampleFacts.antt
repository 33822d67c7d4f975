-- The examples, from their definitions.
use Rattle.std.proofs.Common.{◌≡◌, ℕ, ◌-◌, ◌^◌, Bool, nat_lt, if◌then◌else◌, List, [], ◌∷◌, replicate, ap, ◌∙◌}
use Rattle.query_lang.specs.{declared.fold.TypedFold.TypedFold, Words.op_value, Blocks.Block, Folds.{after, fold_block, folded}}
use Rattle.fold_class.specs.{declared.class.Kind.TheVariants.{Pure, Affine}, Tables.all_below, Kinds.{kinds_after, is_no_other}}
use Rattle.enclosure_folds.specs.{Kinds.{role, is_monotone}, MonotoneExamples.{HasBody, AreBounds, decayed_sum, clamped}}
use Rattle.epoch_entry.specs.Bounds.{least_state, greatest_state}

abbrev pub walk : ℕ → Block → Bool
walk n b = all_below n (λ v. is_no_other (kinds_after role b (λ s. if nat_lt s n then Affine else Pure) v))

pub found : (n : ℕ) (b : Block) (f : TypedFold) → HasBody f n b → is_monotone f ≡ walk n b
found n b f h = ap (λ z. walk z (fold_block f)) h.0 ∙ ap (walk n) h.1

abbrev one_row : ℕ → ℕ → Block → List ℕ → List ℕ
one_row n start b row = after b row (replicate n start)

from_least : (n : ℕ) (b : Block) (f : TypedFold) (row : List ℕ) → HasBody f n b → folded f (least_state f) (row ∷ []) ≡ one_row n 0 b row
from_least n b f row h = ap (λ z. one_row z 0 (fold_block f) row) h.0 ∙ ap (λ z. one_row n 0 z row) h.1

from_greatest : (n : ℕ) (b : Block) (f : TypedFold) (row : List ℕ) → HasBody f n b
    → folded f (greatest_state f) (row ∷ []) ≡ one_row n (2 ^ 64 - 1) b row
from_greatest n b f row h = ap (λ z. one_row z (2 ^ 64 - 1) (fold_block f) row) h.0 ∙ ap (λ z. one_row n (2 ^ 64 - 1) z row) h.1

pub decayed_sum_bounds : AreBounds decayed_sum (8 ∷ []) (8 ∷ []) (9223372036854775816 ∷ [])
unfolding op_value
decayed_sum_bounds f h = (from_least 1 _ f _ h, from_greatest 1 _ f _ h)

pub clamped_bounds : AreBounds clamped (20 ∷ []) (10 ∷ []) (10 ∷ [])
unfolding op_value
clamped_bounds f h = (from_least 1 _ f _ h, from_greatest 1 _ f _ h)
