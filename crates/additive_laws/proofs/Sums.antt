-- The state after rows as a sum, and rows in any order.
use Rattle.std.proofs.Common.{◌≡◌, ℕ, ◌+◌, ◌%◌, ◌^◌, ◌<◌, List, [], ◌∷◌, ◌++◌, length, slice_index, refl, sym, ap, ◌∙◌, subst, arith}
use Rattle.std.proofs.lemmas.List.{ext_get_or, Elements.All-get_or, Sums.{sum_by-cons, sum_by-append}, Sorted.sum_by-IsPermutation}
use Rattle.std.specs.List.{sum_by, Sorted.IsPermutation}
use Rattle.epoch_model.specs.Keys.{ArgRow}
use Rattle.query_lang.specs.{declared.fold.TypedFold.TypedFold, Words.IsWord, Folds.{body, folded, fold_states, fold_block}}
use Rattle.additive_laws.{specs.{Amounts.amount, Laws.IsAdditiveFrom}, proofs.Adding.{length-amount, plus_at, step_adds, step_stays}}
use Rattle.fold_code.proofs.BlockLemmas.{length-after}

pub length-folded : (f : TypedFold) (state : List ℕ) (rows : List ArgRow) → length (folded f state rows) ≡ length state
length-folded f state [] = refl
length-folded f state (row ∷ rows) = length-folded f (body f state row) rows ∙ length-after (fold_block f) row state

-- what a list of rows adds to a variable, before the remainder is taken
abbrev pub total : TypedFold → ℕ → List ArgRow → ℕ
total f v rows = sum_by (λ row. slice_index (amount f row) v) rows

pub state_is_a_sum : (f : TypedFold) (state : List ℕ) (rows : List ArgRow) (v : ℕ) → IsAdditiveFrom f state → v < fold_states f →
    slice_index (folded f state rows) v ≡ (slice_index state v + total f v rows) % 2 ^ 64
state_is_a_sum f state [] v h lt =
    let small : slice_index state v < 2 ^ 64 = All-get_or IsWord state v 0 (subst (λ n. v < n) (sym h.size) lt) h.words in
    omega arith
state_is_a_sum f state (row ∷ rows) v h lt =
    let first : slice_index (body f state row) v ≡ (slice_index state v + slice_index (amount f row) v) % 2 ^ 64 =
    ap (λ s. slice_index s v) (step_adds f state row h) ∙ plus_at state (amount f row) v (h.size ∙ sym (length-amount f row))
    (subst (λ n. v < n) (sym h.size) lt) in
    state_is_a_sum f (body f state row) rows v (step_stays row h) lt ∙ ap (λ n. (n + total f v rows) % 2 ^ 64) first
    ∙ carry (slice_index state v) (slice_index (amount f row) v) (total f v rows)
    ∙ ap (λ n. (slice_index state v + n) % 2 ^ 64) (sym (sum_by-cons (λ r. slice_index (amount f r) v) row rows))
  where
    carry : (x y z : ℕ) → ((x + y) % 2 ^ 64 + z) % 2 ^ 64 ≡ (x + (y + z)) % 2 ^ 64
    carry x y z = omega arith

-- rows with the same sums lead to the same state
pub same_totals : {f : TypedFold} {state : List ℕ} (rows others : List ArgRow) → IsAdditiveFrom f state
    → ((v : ℕ) → total f v rows ≡ total f v others) → folded f state rows ≡ folded f state others
same_totals {f} {state} rows others h e =
    ext_get_or 0 (folded f state rows) (folded f state others) (length-folded f state rows ∙ sym (length-folded f state others))
    (λ v lt. at v (subst (λ n. v < n) (length-folded f state rows ∙ h.size) lt))
  where
    at : (v : ℕ) → v < fold_states f → slice_index (folded f state rows) v ≡ slice_index (folded f state others) v
    at v lt = state_is_a_sum f state rows v h lt ∙ ap (λ n. (slice_index state v + n) % 2 ^ 64) (e v)
        ∙ sym (state_is_a_sum f state others v h lt)

pub any_order : (f : TypedFold) (state : List ℕ) (rows others : List ArgRow) → IsAdditiveFrom f state → IsPermutation rows others
    → folded f state rows ≡ folded f state others
any_order f state rows others h p = same_totals rows others h (λ v. sym
    (sum_by-IsPermutation (λ row. slice_index (amount f row) v) rows others p))

pub exchanged : (f : TypedFold) (state : List ℕ) (before after : List ArgRow) (a b : ArgRow) → IsAdditiveFrom f state
    → folded f state (before ++ a ∷ b ∷ after) ≡ folded f state (before ++ b ∷ a ∷ after)
exchanged f state before after a b h = same_totals (before ++ a ∷ b ∷ after) (before ++ b ∷ a ∷ after) h each
  where
    each : (v : ℕ) → total f v (before ++ a ∷ b ∷ after) ≡ total f v (before ++ b ∷ a ∷ after)
    each v =
        let g : ArgRow → ℕ = λ row. slice_index (amount f row) v in
        sum_by-append g before (a ∷ b ∷ after)
        ∙ ap (λ n. sum_by g before + n) (sum_by-cons g a (b ∷ after) ∙ ap (λ n. g a + n) (sum_by-cons g b after)
        ∙ swapped (g a) (g b) (sum_by g after) ∙ sym (sum_by-cons g b (a ∷ after) ∙ ap (λ n. g b + n) (sum_by-cons g a after)))
        ∙ sym (sum_by-append g before (b ∷ a ∷ after))
      where
        swapped : (x y z : ℕ) → x + (y + z) ≡ y + (x + z)
        swapped x y z = omega arith
