-- Folds that are translations, and folds that are not.
use Rattle.std.{specs.Prelude.{◌≡◌, ℕ, Bool, true, false, ◌==◌}, proofs.Common.refl}
use Rattle.query_lang.specs.{declared.fold.Op.TheVariants.{Add, Sub, Mul, Ne, Gt, Max}, Terms.{Literal, Read, Operation}}
use Rattle.query_lang.specs.Blocks.{Block, End, Set, Fork}
use Rattle.fold_class.specs.{declared.class.Algebra.TheVariants.{Sums, Maxima}, Translations.is_moving}

-- if (last != seq) { n = n + 1; } last = seq + len; where `last` is of the history
abbrev first : ℕ → Bool
first v = v == 0

abbrev out_of_order : Block
out_of_order = Fork (Operation Ne (Read 0) (Read 2)) (Set 1 (Operation Add (Read 1) (Literal 1)) End) End
    (Set 0 (Operation Add (Read 2) (Read 3)) End)

pub out_of_order_moves : is_moving Sums 2 first true out_of_order ≡ true
out_of_order_moves = refl

abbrev none : ℕ → Bool
none v = false

-- m = max(m, size)
pub greatest_moves : is_moving Maxima 1 none true (Set 0 (Operation Max (Read 0) (Read 1)) End) ≡ true
greatest_moves = refl

-- s = s + len - 40, grouped from the left
pub difference_moves : is_moving Sums 1 none true (Set 0 (Operation Sub (Operation Add (Read 0) (Read 1)) (Literal 40)) End) ≡ true
difference_moves = refl

-- s = len - s, s = 2 * s, and a sum under a condition on the sum are no moves
pub turned_is_none : is_moving Sums 1 none true (Set 0 (Operation Sub (Read 1) (Read 0)) End) ≡ false
turned_is_none = refl

pub product_is_none : is_moving Sums 1 none true (Set 0 (Operation Mul (Literal 2) (Read 0)) End) ≡ false
product_is_none = refl

pub guarded_is_none : is_moving Sums 1 none true
    (Fork (Operation Gt (Read 0) (Literal 5)) (Set 0 (Operation Add (Read 0) (Literal 1)) End) End End) ≡ false
guarded_is_none = refl
