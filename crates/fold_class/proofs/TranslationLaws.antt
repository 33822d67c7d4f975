-- One step, and rows, of a translation.
use Rattle.std.proofs.Common.{◌≡◌, ℕ, ◌+◌, ◌%◌, ◌^◌, ◌<◌, max, true, false, ◌&&◌, nat_lt, List, [], ◌∷◌, length, slice_index, sym, ap, ◌∙◌}
use Rattle.std.proofs.{Common.arith, lemmas.Bool.Decides.nat_tests}
use Rattle.query_lang.specs.{declared.fold.{Op.{Op, TheVariants.{Add, Sub, Max}}, TypedFold.TypedFold}, Words.{IsWord, AreWords, op_value}}
use Rattle.query_lang.specs.Folds.{body, folded, fold_states, fold_args, fold_block, IsValidFold}
use Rattle.fold_class.specs.{declared.class.Algebra.{Algebra, TheVariants.{Sums, Maxima}}, Depth.is_history, Translations.translated}
use Rattle.fold_class.specs.Translations.{moves_left, moves_right, is_remembered, SameHistory, AreAlikeStates, AreMoved, HasZeros}
use Rattle.fold_class.proofs.{History.{length-after, rows_agree_within, within_more}, Moves.{Related, block_keeps}}

remembered : (f : TypedFold) (v : ℕ) → v < fold_states f → is_remembered f v ≡ is_history f v
remembered f v lt = let t : nat_lt v (fold_states f) ≡ true = grind (arith, nat_tests) in ap (λ b. b && is_history f v) t

-- one step from two states, by a relation of their linear variables that each move keeps
step_related : (algebra : Algebra) (R : ℕ → ℕ → ℕ → Type 0)
    (left : (v : ℕ) (op : Op) (x y w : ℕ) → moves_left algebra op ≡ true → R v x y → R v (op_value op x w) (op_value op y w))
    (right : (v : ℕ) (op : Op) (x y w : ℕ) → moves_right algebra op ≡ true → R v x y → R v (op_value op w x) (op_value op w y))
    (f : TypedFold) (args xs ys : List ℕ) → AreAlikeStates algebra f xs ys → ((v : ℕ) → v < fold_states f → is_history f v ≡ false
    → R v (slice_index xs v) (slice_index ys v)) →
    (v : ℕ) → v < fold_states f → is_history f v ≡ false → R v (slice_index (body f xs args) v) (slice_index (body f ys args) v)
step_related algebra R left right f args xs ys a related v lt k = after.related v lt (remembered f v lt ∙ k)
  where
    after : Related algebra (fold_states f) (is_remembered f) R left right (body f xs args) (body f ys args)
    after = block_keeps algebra (fold_states f) (is_remembered f) R left right (fold_args f) (fold_block f) true args xs ys
        a.valid.statements a.first_long a.second_long a.translates (record {
          same = λ s lt k. a.same s lt (sym (remembered f s lt) ∙ k);
          related = λ s lt k. related s lt (sym (remembered f s lt) ∙ k);
        })

-- a move of one word and of the same word, moved by t
move_left : (algebra : Algebra) (t : ℕ) (op : Op) (x y w : ℕ) → moves_left algebra op ≡ true → y ≡ translated algebra t x
    → op_value op y w ≡ translated algebra t (op_value op x w)
unfolding op_value
move_left Sums t Add x y w h e = omega (arith, e)
move_left Sums t Sub x y w h e = omega (arith, e)
move_left Sums t _ x y w h e = cc
move_left Maxima t Max x y w h e = omega (arith, e)
move_left Maxima t _ x y w h e = cc

move_right : (algebra : Algebra) (t : ℕ) (op : Op) (x y w : ℕ) → moves_right algebra op ≡ true → y ≡ translated algebra t x
    → op_value op w y ≡ translated algebra t (op_value op w x)
unfolding op_value
move_right Sums t Add x y w h e = omega (arith, e)
move_right Sums t _ x y w h e = cc
move_right Maxima t Max x y w h e = omega (arith, e)
move_right Maxima t _ x y w h e = cc

-- one step carries the history from two states with the same history to the same history
pub step_history : (f : TypedFold) (args xs ys : List ℕ) → IsValidFold f → length xs ≡ fold_states f → length ys ≡ fold_states f
    → SameHistory f xs ys → SameHistory f (body f xs args) (body f ys args)
step_history f args xs ys valid hx hy same v lt k = rows_agree_within f (args ∷ []) (fold_states f) xs ys valid hx hy same v lt
    (within_more f (fold_states f) 1 v k)

alike_after : (algebra : Algebra) (f : TypedFold) (args xs ys : List ℕ) → AreAlikeStates algebra f xs ys
    → AreAlikeStates algebra f (body f xs args) (body f ys args)
alike_after algebra f args xs ys a = record {
  valid = a.valid;
  translates = a.translates;
  first_long = length-after (fold_block f) args xs ∙ a.first_long;
  second_long = length-after (fold_block f) args ys ∙ a.second_long;
  same = step_history f args xs ys a.valid a.first_long a.second_long a.same;
}

pub step_moves : (algebra : Algebra) (f : TypedFold) (table : ℕ → ℕ) (args xs ys : List ℕ) → AreAlikeStates algebra f xs ys
    → AreMoved algebra f table xs ys → AreMoved algebra f table (body f xs args) (body f ys args)
step_moves algebra f table args xs ys a move =
    step_related algebra (λ v x y. y ≡ translated algebra (table v) x) (λ v op x y w m e. move_left algebra (table v) op x y w m e)
    (λ v op x y w m e. move_right algebra (table v) op x y w m e) f args xs ys a move

-- sums: the same is added to both
cross_left : (p q : ℕ) (op : Op) (x y w : ℕ) → moves_left Sums op ≡ true → (x + q) % 2 ^ 64 ≡ (y + p) % 2 ^ 64
    → (op_value op x w + q) % 2 ^ 64 ≡ (op_value op y w + p) % 2 ^ 64
unfolding op_value
cross_left p q Add x y w h e = omega (arith, e)
cross_left p q Sub x y w h e = omega (arith, e)
cross_left p q _ x y w h e = cc

cross_right : (p q : ℕ) (op : Op) (x y w : ℕ) → moves_right Sums op ≡ true → (x + q) % 2 ^ 64 ≡ (y + p) % 2 ^ 64
    → (op_value op w x + q) % 2 ^ 64 ≡ (op_value op w y + p) % 2 ^ 64
unfolding op_value
cross_right p q Add x y w h e = omega (arith, e)
cross_right p q _ x y w h e = cc

pub step_sums : (f : TypedFold) (args xs ys : List ℕ) (v : ℕ) → AreAlikeStates Sums f xs ys → v < fold_states f → is_history f v ≡ false →
    (slice_index (body f xs args) v + slice_index ys v) % 2 ^ 64 ≡ (slice_index (body f ys args) v + slice_index xs v) % 2 ^ 64
step_sums f args xs ys v a lt k = step_related Sums (λ v x y. (x + slice_index ys v) % 2 ^ 64 ≡ (y + slice_index xs v) % 2 ^ 64)
    (λ v op x y w m e. cross_left (slice_index xs v) (slice_index ys v) op x y w m e)
    (λ v op x y w m e. cross_right (slice_index xs v) (slice_index ys v) op x y w m e) f args xs ys a (λ v lt k. omega arith) v lt k

-- maxima: the greater of each and the same word
abbrev Common : ℕ → ℕ → ℕ → ℕ → Type 0
Common p q x y = (b : ℕ) × (x ≡ max p b) × (y ≡ max q b)

common_left : (p q : ℕ) (op : Op) (x y w : ℕ) → moves_left Maxima op ≡ true → Common p q x y
    → Common p q (op_value op x w) (op_value op y w)
unfolding op_value
common_left p q Max x y w h c = (max c.0 w, omega (arith, c.1), omega (arith, c.2))
common_left p q _ x y w h c = cc

common_right : (p q : ℕ) (op : Op) (x y w : ℕ) → moves_right Maxima op ≡ true → Common p q x y
    → Common p q (op_value op w x) (op_value op w y)
unfolding op_value
common_right p q Max x y w h c = (max c.0 w, omega (arith, c.1), omega (arith, c.2))
common_right p q _ x y w h c = cc

pub step_maxima : (f : TypedFold) (args xs ys : List ℕ) (v : ℕ) → AreAlikeStates Maxima f xs ys → v < fold_states f → is_history f v ≡ false
    → (b : ℕ) × (slice_index (body f xs args) v ≡ max (slice_index xs v) b) × (slice_index (body f ys args) v ≡ max (slice_index ys v) b)
step_maxima f args xs ys v a lt k = step_related Maxima (λ v x y. Common (slice_index xs v) (slice_index ys v) x y)
    (λ v op x y w m e. common_left (slice_index xs v) (slice_index ys v) op x y w m e)
    (λ v op x y w m e. common_right (slice_index xs v) (slice_index ys v) op x y w m e)
    f args xs ys a (λ v lt k. (0, omega arith, omega arith)) v lt k

-- rows, one by one
pub rows_moves : (algebra : Algebra) (f : TypedFold) (table : ℕ → ℕ) (rows : List (List ℕ)) (xs ys : List ℕ)
    → AreAlikeStates algebra f xs ys → AreMoved algebra f table xs ys → AreMoved algebra f table (folded f xs rows) (folded f ys rows)
rows_moves algebra f table [] xs ys a move = move
rows_moves algebra f table (row ∷ rows) xs ys a move = rows_moves algebra f table rows (body f xs row) (body f ys row)
    (alike_after algebra f row xs ys a) (step_moves algebra f table row xs ys a move)

from_zero : (algebra : Algebra) (x z : ℕ) → IsWord x → z ≡ 0 → x ≡ translated algebra x z
from_zero Sums x z h e = omega (arith, h, e)
from_zero Maxima x z h e = omega (arith, h, e)

pub rows_from_zeros : (algebra : Algebra) (f : TypedFold) (rows : List (List ℕ)) (zeros state : List ℕ)
    → AreAlikeStates algebra f zeros state → AreWords state → HasZeros f zeros →
    AreMoved algebra f (slice_index state) (folded f zeros rows) (folded f state rows)
rows_from_zeros algebra f rows zeros state a words none = rows_moves algebra f (slice_index state) rows zeros state a
    (λ v lt k. let long = a.second_long in from_zero algebra (slice_index state v) (slice_index zeros v)
    (words v 0 (omega (arith, lt, long))) (none v lt k))
