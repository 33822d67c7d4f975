-- The laws of monotone folds.
use Rattle.std.proofs.Common.{◌≡◌, ℕ, suc, ◌-◌, ◌^◌, ◌<◌, ◌≤◌, Bool, true, false, nat_lt, if◌then◌else◌, List, [], ◌∷◌, ◌++◌, All, length}
use Rattle.std.proofs.{Common.{slice_index, refl, sym, ap, ◌∙◌, subst, arith}, lemmas.Bool.Decides.nat_tests}
use Rattle.std.proofs.lemmas.List.{get_or_append_left, get_or-append_right, length-replicate, get_or-replicate}
use Rattle.std.proofs.lemmas.List.{Elements.{AllZip-get_or, length_all_zip}, Sums.fold-append}
use Rattle.query_lang.specs.{declared.fold.TypedFold.TypedFold, Words.AreWords}
use Rattle.query_lang.specs.Folds.{body, folded, initial_state, fold_states, fold_args, fold_block, IsValidFold}
use Rattle.fold_class.proofs.{History.length-after, TableLemmas.below_at}
use Rattle.fold_class.specs.{declared.class.Kind.TheVariants.{Pure as Free, Affine as Rising}, Kinds.{kinds_from, end_kinds, is_no_other}}
use Rattle.epoch_entry.{proofs.FoldLemmas.{word_at, body_words, length-body, length-folded}, specs.Bounds.{least_state, greatest_state}}
use Rattle.enclosure_folds.{specs.{Kinds.{role, none_fixed, is_monotone}, States.IsAtMost}, proofs.Ties.{Tied, Ties, tied_order}}
use Rattle.enclosure_folds.proofs.Runs.{block_tied}

-- order by place

at_most : (xs ys : List ℕ) → length xs ≡ length ys → ((i : ℕ) → i < length xs → slice_index xs i ≤ slice_index ys i) → IsAtMost xs ys
at_most [] [] e h = tt
at_most [] (y ∷ ys) e h = absurd (omega (arith, e))
at_most (x ∷ xs) [] e h = absurd (omega (arith, e))
at_most (x ∷ xs) (y ∷ ys) e h = (h 0 (omega arith), at_most xs ys (omega (arith, e)) (λ i lt. h (suc i) (omega (arith, lt))))

both_at_most : (xs ys : List ℕ) → IsAtMost xs ys → IsAtMost ys xs → xs ≡ ys
both_at_most [] [] p q = refl
both_at_most [] (y ∷ ys) p q = absurd p
both_at_most (x ∷ xs) [] p q = absurd p
both_at_most (x ∷ xs) (y ∷ ys) p q = let e : x ≡ y = omega (arith, p.0, q.0) in ap (λ z. z ∷ xs) e
    ∙ ap (λ z. y ∷ z) (both_at_most xs ys p.1 q.1)

-- one step

start_tied : (f : TypedFold) (low high args : List ℕ) → length low ≡ fold_states f → length high ≡ fold_states f → IsAtMost low high
    → Ties (kinds_from none_fixed f) (low ++ args) (high ++ args)
start_tied f low high args hl hh h s = place _ refl
  where
    place : (b : Bool) → nat_lt s (fold_states f) ≡ b → Tied (if nat_lt s (fold_states f) then Rising else Free)
        (slice_index (low ++ args) s) (slice_index (high ++ args) s)
    place true t =
        let lt : s < fold_states f = grind (arith, nat_tests) in
        let in_low : s < length low = omega (arith, lt, hl) in
        let in_high : s < length high = omega (arith, lt, hh) in
        let el = get_or_append_left low args 0 s in_low in
        let eh = get_or_append_left high args 0 s in_high in
        let le = AllZip-get_or _ _ _ s 0 0 h in_low in
        rw t (omega (arith, el, eh, le))
    place false t =
        let ge : fold_states f ≤ s = grind (arith, nat_tests) in
        rw t (get_or-append_right low args (fold_states f) s 0 hl ge ∙ sym (get_or-append_right high args (fold_states f) s 0 hh ge))

pub keeps_step : (f : TypedFold) (low high args : List ℕ) → IsValidFold f → is_monotone f ≡ true → length low ≡ fold_states f
    → IsAtMost low high → IsAtMost (body f low args) (body f high args)
keeps_step f low high args valid mono hl h = at_most (body f low args) (body f high args) (ll ∙ sym lh) each
  where
    hh : length high ≡ fold_states f
    hh = sym (length_all_zip _ _ _ h) ∙ hl

    ll : length (body f low args) ≡ fold_states f
    ll = length-after (fold_block f) _ _ ∙ hl

    lh : length (body f high args) ≡ fold_states f
    lh = length-after (fold_block f) args high ∙ hh

    each : (i : ℕ) → i < length (body f low args) → slice_index (body f low args) i ≤ slice_index (body f high args) i
    each i lt =
        let inside : i < fold_states f = omega (arith, lt, ll) in
        let in_high : i < length (body f high args) = omega (arith, inside, lh) in
        let el : slice_index (body f low args ++ args) i ≡ slice_index (body f low args) i =
        get_or_append_left (body f low args) args 0 i lt in
        let eh : slice_index (body f high args ++ args) i ≡ slice_index (body f high args) i =
        get_or_append_left (body f high args) args 0 i in_high in
        let le = tied_order (end_kinds role none_fixed f i) (slice_index (body f low args ++ args) i)
        (slice_index (body f high args ++ args) i)
        (below_at (fold_states f) (λ v. is_no_other (end_kinds role none_fixed f v)) i inside mono)
        (block_tied (fold_states f) (fold_args f) args (fold_block f) (kinds_from none_fixed f) low high valid.statements hl hh
        (start_tied f low high args hl hh h) i) in
        omega (arith, el, eh, le)

-- many steps

pub keeps_rows : (f : TypedFold) (low high : List ℕ) (rows : List (List ℕ)) → IsValidFold f → is_monotone f ≡ true
    → length low ≡ fold_states f → IsAtMost low high → IsAtMost (folded f low rows) (folded f high rows)
keeps_rows f low high [] valid mono hl h = h
keeps_rows f low high (row ∷ rows) valid mono hl h =
    keeps_rows f (body f low row) (body f high row) rows valid mono (length-after (fold_block f) row low ∙ hl)
    (keeps_step f low high row valid mono hl h)

-- words stay words

folded_words : (f : TypedFold) (state : List ℕ) (rows : List (List ℕ)) → IsValidFold f → length state ≡ fold_states f → AreWords state
    → All AreWords rows → AreWords (folded f state rows)
folded_words f state [] valid long hs hr = hs
folded_words f state (row ∷ rows) valid long hs hr =
    folded_words f (body f state row) rows valid (length-body f state row ∙ long)
    (body_words f state row valid long hs (hr 0 [] (omega arith))) (λ k d lt. hr (suc k) d (omega (arith, lt)))

-- the least and the greatest state

least_is : (f : TypedFold) (state : List ℕ) → length state ≡ fold_states f → IsAtMost (least_state f) state
least_is f state hs = at_most (least_state f) state (length-replicate {A = ℕ} (fold_states f) 0 ∙ sym hs)
    (λ i lt. each i (omega (arith, lt, length-replicate {A = ℕ} (fold_states f) 0)))
  where
    each : (i : ℕ) → i < fold_states f → slice_index (least_state f) i ≤ slice_index state i
    each i lt = omega (arith, get_or-replicate {A = ℕ} (fold_states f) i 0 0 lt)

greatest_is : (f : TypedFold) (state : List ℕ) → length state ≡ fold_states f → AreWords state → IsAtMost state (greatest_state f)
greatest_is f state hs words = at_most state (greatest_state f) (hs ∙ sym (length-replicate {A = ℕ} (fold_states f) (2 ^ 64 - 1)))
    (λ i lt. each i (omega (arith, lt, hs)))
  where
    each : (i : ℕ) → i < fold_states f → slice_index state i ≤ slice_index (greatest_state f) i
    each i lt = omega (arith, get_or-replicate {A = ℕ} (fold_states f) i (2 ^ 64 - 1) 0 lt, word_at state i words)

-- the last rows alone

pub least_below : (f : TypedFold) (earlier last : List (List ℕ)) → IsValidFold f → is_monotone f ≡ true
    → IsAtMost (folded f (least_state f) last) (folded f (initial_state f) (earlier ++ last))
least_below f earlier last valid mono =
    let middle = folded f (initial_state f) earlier in
    let long = length-folded f _ earlier ∙ valid.starts in
    rw (fold-append (body f) (initial_state f) earlier last) (keeps_rows f (least_state f) middle last valid mono
    (length-replicate {A = ℕ} (fold_states f) 0) (least_is f middle long))

pub greatest_above : (f : TypedFold) (earlier last : List (List ℕ)) → IsValidFold f → is_monotone f ≡ true → AreWords (initial_state f)
    → All AreWords earlier → IsAtMost (folded f (initial_state f) (earlier ++ last)) (folded f (greatest_state f) last)
greatest_above f earlier last valid mono words rows =
    let middle = folded f (initial_state f) earlier in
    let long = length-folded f _ earlier ∙ valid.starts in
    rw (fold-append (body f) (initial_state f) earlier last) (keeps_rows f middle (greatest_state f) last valid mono long
    (greatest_is f middle long
    (folded_words f (initial_state f) earlier valid valid.starts words rows)))

pub exact : (f : TypedFold) (earlier last : List (List ℕ)) → IsValidFold f → is_monotone f ≡ true → AreWords (initial_state f)
    → All AreWords earlier → folded f (least_state f) last ≡ folded f (greatest_state f) last →
    folded f (initial_state f) (earlier ++ last) ≡ folded f (least_state f) last
exact f earlier last valid mono words rows e =
    both_at_most (folded f (initial_state f) (earlier ++ last)) (folded f (least_state f) last)
    (subst (λ z. IsAtMost (folded f (initial_state f) (earlier ++ last)) z) (sym e) (greatest_above f earlier last valid mono words rows))
    (least_below f earlier last valid mono)
