-- A block that only adds does the same from every state: it adds to it.
use Rattle.std.proofs.Common.{◌≡◌, ℕ, zero, suc, ◌+◌, ◌%◌, ◌^◌, ◌<◌, Bool, true, false, ◌&&◌, List, [], ◌∷◌, ◌++◌, length, set, replicate}
use Rattle.std.proofs.{Common.{slice_index, refl, sym, ap, ◌∙◌, subst, arith, if◌then◌else◌, length-set}, lemmas.Bool.Decides.nat_tests}
use Rattle.std.proofs.lemmas.List.{get_or_append_left, length-replicate, Elements.{All-nil, All-cons, All-head, All-tail}}
use Rattle.epoch_model.specs.Keys.{ArgRow}
use Rattle.query_lang.specs.declared.fold.{Op.{Op, TheVariants.{Add, Sub}}, TypedFold.TypedFold}
use Rattle.query_lang.specs.{Words.{holds, op_value, IsWord, AreWords}, Terms.{Term, Literal, Read, Negation, Operation}}
use Rattle.query_lang.specs.Blocks.{Block, End, Set, Fork}
use Rattle.query_lang.specs.Folds.{term_value, after, body, fold_states, fold_args, fold_block, IsValidBlock}
use Rattle.fold_code.specs.Additive.{no_variable, names_no_state, adds_or_subtracts, is_variable, is_increment, is_additive_block}
use Rattle.fold_code.proofs.BlockLemmas.{and_three, and_true_left, and_true_right, length-after, known_value, idle}
use Rattle.additive_laws.specs.{Amounts.{zeros, amount, plus}, Laws.IsAdditiveFrom}

pub length-plus : (xs ys : List ℕ) → length (plus xs ys) ≡ length xs
length-plus [] ys = refl
length-plus (x ∷ xs) [] = refl
length-plus (x ∷ xs) (y ∷ ys) = ap suc (length-plus xs ys)

pub words-plus : (xs ys : List ℕ) → AreWords xs → AreWords (plus xs ys)
words-plus [] ys h = All-nil IsWord
words-plus (x ∷ xs) [] h = h
words-plus (x ∷ xs) (y ∷ ys) h = All-cons IsWord ((x + y) % 2 ^ 64) (plus xs ys) (omega arith) (words-plus xs ys (All-tail IsWord x xs h))

pub plus_at : (xs ys : List ℕ) (v : ℕ) → length xs ≡ length ys → v < length xs
    → slice_index (plus xs ys) v ≡ (slice_index xs v + slice_index ys v) % 2 ^ 64
plus_at [] ys v e h = absurd (omega arith)
plus_at (x ∷ xs) [] v e h = absurd (omega arith)
plus_at (x ∷ xs) (y ∷ ys) zero e h = refl
plus_at (x ∷ xs) (y ∷ ys) (suc v) e h = plus_at xs ys v (omega arith) (omega arith)

pub plus_zeros : (xs : List ℕ) → AreWords xs → plus xs (replicate (length xs) 0) ≡ xs
plus_zeros [] h = refl
plus_zeros (x ∷ xs) h =
    let small : x < 2 ^ 64 = All-head IsWord x xs h in
    let same : (x + 0) % 2 ^ 64 ≡ x = omega arith in
    ap (λ z. z ∷ plus xs (replicate (length xs) 0)) same ∙ ap (λ zs. x ∷ zs) (plus_zeros xs (All-tail IsWord x xs h))

-- what an operator that adds or subtracts makes of a sum
op_sum : (op : Op) → adds_or_subtracts op ≡ true → (x z w : ℕ) → op_value op ((x + z) % 2 ^ 64) w ≡ (x + op_value op z w) % 2 ^ 64
unfolding op_value
op_sum Add h x z w = omega arith
op_sum Sub h x z w = omega arith
op_sum _ h x z w = cc

plus_set : (op : Op) → adds_or_subtracts op ≡ true → (xs zs : List ℕ) (v w : ℕ) → length xs ≡ length zs →
    set (plus xs zs) v (op_value op (slice_index (plus xs zs) v) w) ≡ plus xs (set zs v (op_value op (slice_index zs v) w))
plus_set op h [] zs v w e = refl
plus_set op h (x ∷ xs) [] v w e = absurd (omega arith)
plus_set op h (x ∷ xs) (z ∷ zs) zero w e = ap (λ n. n ∷ plus xs zs) (op_sum op h x z w)
plus_set op h (x ∷ xs) (z ∷ zs) (suc v) w e = ap (λ ns. (x + z) % 2 ^ 64 ∷ ns) (plus_set op h xs zs v w (omega arith))

module _ (states : ℕ) where
  variable_value : {v : ℕ} (e : Term) (args xs : List ℕ) → is_variable v e ≡ true → v < length xs
      → term_value e (xs ++ args) ≡ slice_index xs v
  variable_value {v} (Read s) args xs h lt = let same : s ≡ v = grind (arith, nat_tests) in ap (slice_index (xs ++ args)) same
      ∙ get_or_append_left xs args 0 v lt
  variable_value (Literal n) args xs h lt = cc
  variable_value (Negation e) args xs h lt = cc
  variable_value (Operation op a b) args xs h lt = cc

  -- an assignment adds the same to every state
  set_adds : {v : ℕ} (e : Term) (args xs zs : List ℕ) → is_increment states v e ≡ true → v < states → length xs ≡ states
      → length zs ≡ states → set (plus xs zs) v (term_value e (plus xs zs ++ args)) ≡ plus xs (set zs v (term_value e (zs ++ args)))
  set_adds (Literal n) args xs zs h lt ex ez = cc
  set_adds (Read s) args xs zs h lt ex ez = cc
  set_adds (Negation e) args xs zs h lt ex ez = cc
  set_adds {v} (Operation op a b) args xs zs h lt ex ez =
      let ps = plus xs zs in
      let ep : length ps ≡ states = length-plus xs zs ∙ ex in
      let adds = and_true_left (adds_or_subtracts op) (is_variable v a && names_no_state states b) h in
      let right = and_true_right (adds_or_subtracts op) (is_variable v a && names_no_state states b) h in
      let is_v = and_true_left (is_variable v a) (names_no_state states b) right in
      let free = and_true_right (is_variable v a) (names_no_state states b) right in
      let w = term_value b (zs ++ args) in
      ap (λ n. set ps v (op_value op n (term_value b (ps ++ args)))) (variable_value a args ps is_v (subst (λ n. v < n) (sym ep) lt))
      ∙ ap (λ n. set ps v (op_value op (slice_index ps v) n)) (known_value states no_variable args ps zs b ep ez (λ s lt k. cc) free)
      ∙ plus_set op adds xs zs v w (ex ∙ sym ez)
      ∙ ap (λ n. plus xs (set zs v (op_value op n w))) (sym (variable_value a args zs is_v (subst (λ n. v < n) (sym ez) lt)))

  block_adds : (nargs : ℕ) (b : Block) (args xs zs : List ℕ) → IsValidBlock states nargs b → is_additive_block states true b ≡ true
      → length xs ≡ states → length zs ≡ states → after b args (plus xs zs) ≡ plus xs (after b args zs)
  block_adds nargs End args xs zs valid h ex ez = refl
  block_adds nargs (Set v e rest) args xs zs valid h ex ez =
      let front = and_true_left (is_increment states v e) (is_additive_block states true rest) h in
      let more = and_true_right (is_increment states v e) (is_additive_block states true rest) h in
      ap (after rest args) (set_adds e args xs zs front valid.0 ex ez)
      ∙ block_adds nargs rest args xs (set zs v (term_value e (zs ++ args))) valid.3 more ex
      (length-set zs v (term_value e (zs ++ args)) ∙ ez)
  block_adds nargs (Fork c a b rest) args xs zs valid h ex ez =
      let inner = names_no_state states c in
      let parts = and_three _ _ _ h in
      let next = if holds (term_value c (zs ++ args)) then after a args zs else after b args zs in
      ap (after rest args) (branch inner refl parts.0 parts.1.0 (λ g. block_adds nargs a args xs zs valid.2 g ex ez)
      (λ g. block_adds nargs b args xs zs valid.3 g ex ez))
      ∙ block_adds nargs rest args xs next valid.4 parts.1.1 ex (size (holds (term_value c (zs ++ args))))
    where
      size : (t : Bool) → length (if t then after a args zs else after b args zs) ≡ states
      size true = length-after a args zs ∙ ez
      size false = length-after b args zs ∙ ez

      same : (t u : Bool) → t ≡ u → after a args (plus xs zs) ≡ plus xs (after a args zs)
          → after b args (plus xs zs) ≡ plus xs (after b args zs) →
          (if t then after a args (plus xs zs) else after b args (plus xs zs)) ≡ plus xs (if u then after a args zs else after b args zs)
      same true true e p q = p
      same true false e p q = cc
      same false true e p q = cc
      same false false e p q = q

      still : (t u : Bool) → after a args (plus xs zs) ≡ plus xs zs → after b args (plus xs zs) ≡ plus xs zs → after a args zs ≡ zs
          → after b args zs ≡ zs →
          (if t then after a args (plus xs zs) else after b args (plus xs zs)) ≡ plus xs (if u then after a args zs else after b args zs)
      still true true p q r s = p ∙ ap (plus xs) (sym r)
      still true false p q r s = p ∙ ap (plus xs) (sym s)
      still false true p q r s = q ∙ ap (plus xs) (sym r)
      still false false p q r s = q ∙ ap (plus xs) (sym s)

      branch : (t : Bool) → names_no_state states c ≡ t → is_additive_block states t a ≡ true → is_additive_block states t b ≡ true →
          (is_additive_block states true a ≡ true → after a args (plus xs zs) ≡ plus xs (after a args zs)) →
          (is_additive_block states true b ≡ true → after b args (plus xs zs) ≡ plus xs (after b args zs)) →
          (if holds (term_value c (plus xs zs ++ args)) then after a args (plus xs zs) else after b args (plus xs zs))
          ≡ plus xs (if holds (term_value c (zs ++ args)) then after a args zs else after b args zs)
      branch true e ga gb ia ib = same (holds (term_value c (plus xs zs ++ args))) (holds (term_value c (zs ++ args)))
          (ap holds (known_value states no_variable args (plus xs zs) zs c (length-plus xs zs ∙ ex) ez (λ s lt k. cc) e)) (ia ga) (ib gb)
      branch false e ga gb ia ib = still (holds (term_value c (plus xs zs ++ args))) (holds (term_value c (zs ++ args)))
          (idle states no_variable (is_increment states) a args (plus xs zs) ga)
          (idle states no_variable (is_increment states) b args (plus xs zs) gb)
          (idle states no_variable (is_increment states) a args zs ga) (idle states no_variable (is_increment states) b args zs gb)

pub length-amount : (f : TypedFold) (row : ArgRow) → length (amount f row) ≡ fold_states f
length-amount f row = length-after (fold_block f) row (zeros f) ∙ length-replicate (fold_states f) 0

pub step_adds : (f : TypedFold) (state : List ℕ) (row : ArgRow) → IsAdditiveFrom f state → body f state row ≡ plus state (amount f row)
step_adds f state row h =
    let same : plus state (zeros f) ≡ state = ap (λ n. plus state (replicate n 0)) (sym h.size) ∙ plus_zeros state h.words in
    ap (λ s. body f s row) (sym same)
    ∙ block_adds (fold_states f) (fold_args f) (fold_block f) row state (zeros f) h.valid.statements h.additive h.size
    (length-replicate (fold_states f) 0)

-- the state after a row is one for the fold again
pub step_stays : {f : TypedFold} {state : List ℕ} (row : ArgRow) → IsAdditiveFrom f state → IsAdditiveFrom f (body f state row)
step_stays {f} {state} row h = record {
  valid = h.valid;
  additive = h.additive;
  size = length-after (fold_block f) row state ∙ h.size;
  words = subst AreWords (sym (step_adds f state row h)) (words-plus state (amount f row) h.words);
}
