-- What a block leaves of a state, and what a check that passes says of that.
use Rattle.std.proofs.Common.{◌≡◌, ℕ, ◌<◌, ◌≤◌, Bool, true, false, not, ◌&&◌, ◌||◌, nat_lt, if◌then◌else◌, List, ◌++◌, length, set}
use Rattle.std.proofs.{Common.{slice_index, refl, sym, ap, ◌∙◌, arith, length-set}, lemmas.Bool.Decides.nat_tests}
use Rattle.std.proofs.lemmas.List.{get_or_append_left, get_or-append_right}
use Rattle.query_lang.specs.{Words.{flag, holds, op_value}, Terms.{Term, Literal, Read, Negation, Operation}}
use Rattle.query_lang.specs.{Blocks.{Block, End, Set, Fork}, Folds.{term_value, after}}
use Rattle.fold_code.specs.Checks.{names_known, all_pass}

pub and_true_left : (a b : Bool) → (a && b) ≡ true → a ≡ true
and_true_left true b e = refl
and_true_left false b e = e

pub and_true_right : (a b : Bool) → (a && b) ≡ true → b ≡ true
and_true_right true b e = e
and_true_right false b e = cc

-- what passes at a fork: both blocks, and what follows
pub and_three : (a b c : Bool) → ((a && b) && c) ≡ true → (a ≡ true) × ((b ≡ true) × (c ≡ true))
and_three a b c e =
    let front = and_true_left (a && b) c e in (and_true_left a b front, (and_true_right a b front, and_true_right (a && b) c e))

pub length-after : (b : Block) (args state : List ℕ) → length (after b args state) ≡ length state
length-after End args state = refl
length-after (Set v e rest) args state = length-after rest args (set state v (term_value e (state ++ args)))
    ∙ length-set state v (term_value e (state ++ args))
length-after (Fork c a b rest) args state = length-after rest _ _ ∙ either _ (length-after a _ _) (length-after b _ _)
  where
    either : (h : Bool) → length (after a args state) ≡ length state → length (after b args state) ≡ length state
        → length (if h then after a args state else after b args state) ≡ length state
    either true p q = p
    either false p q = q

module _ (states : ℕ) (known : ℕ → Bool) where
  slots_same : (args xs ys : List ℕ) (s : ℕ) → length xs ≡ states → length ys ≡ states
      → ((v : ℕ) → v < states → known v ≡ true → slice_index xs v ≡ slice_index ys v) →
      (not (nat_lt s states) || known s) ≡ true → slice_index (xs ++ args) s ≡ slice_index (ys ++ args) s
  slots_same args xs ys s hx hy same h = at (nat_lt s states) refl h
    where
      at : (b : Bool) → nat_lt s states ≡ b → (not b || known s) ≡ true → slice_index (xs ++ args) s ≡ slice_index (ys ++ args) s
      at true t k =
          let lt : s < states = grind (arith, nat_tests) in
          get_or_append_left xs args 0 s (omega arith) ∙ same s lt k ∙ sym (get_or_append_left ys args 0 s (omega arith))
      at false t k =
          let ge : states ≤ s = grind (arith, nat_tests) in
          get_or-append_right xs args (length xs) s 0 refl (omega arith)
          ∙ sym (get_or-append_right ys args (length xs) s 0 (hy ∙ sym hx) (omega arith))

  -- an expression that names known variables and arguments alone is the same over states with the same known variables
  pub known_value : (args xs ys : List ℕ) (e : Term) → length xs ≡ states → length ys ≡ states
      → ((v : ℕ) → v < states → known v ≡ true → slice_index xs v ≡ slice_index ys v) →
      names_known states known e ≡ true → term_value e (xs ++ args) ≡ term_value e (ys ++ args)
  known_value args xs ys (Literal n) hx hy same h = refl
  known_value args xs ys (Read s) hx hy same h = slots_same args xs ys s hx hy same h
  known_value args xs ys (Negation e) hx hy same h = ap (λ z. flag (not (holds z))) (known_value _ _ _ e hx hy same h)
  known_value args xs ys (Operation op a b) hx hy same h =
      ap (λ z. op_value op z (term_value b (xs ++ args))) (known_value _ _ _ a hx hy same (and_true_left _ _ h))
      ∙ ap (op_value op (term_value a (ys ++ args))) (known_value _ _ _ b hx hy same (and_true_right _ _ h))

  module _ (passes : ℕ → Term → Bool) where
    -- where the conditions around a block are not known, it assigns no variable
    pub idle : (b : Block) (args state : List ℕ) → all_pass states known passes false b ≡ true → after b args state ≡ state
    idle End _ _ h = refl
    idle (Set v e _) _ _ h = cc
    idle (Fork c a b rest) args state h =
        let parts = and_three _ _ _ h in
        cc (
          either (holds (term_value c (state ++ args))) (idle a _ _ parts.0) (idle b _ _ parts.1.0),
          idle rest args state parts.1.1,
        )
      where
        either : (h : Bool) → after a args state ≡ state → after b args state ≡ state
            → (if h then after a args state else after b args state) ≡ state
        either true p q = p
        either false p q = q

-- a slot that is no state variable is an argument
pub argument_is : (states s : ℕ) → (not (nat_lt s states) || false) ≡ true → states ≤ s
argument_is states s h = at (nat_lt s states) refl h
  where
    at : (b : Bool) → nat_lt s states ≡ b → (not b || false) ≡ true → states ≤ s
    at true t k = cc
    at false t k = grind (arith, nat_tests)
