-- The wants after each token read what is left just as the first want reads all, so none is left where a body ends.
use Rattle.std.proofs.Common.{◌≡◌, ℕ, ◌+◌, ◌<◌, ◌≤◌, Bool, true, false, List, [], ◌∷◌, ◌++◌, length, drop, get_or, refl, sym, ap, ◌∙◌}
use Rattle.std.proofs.{Common.{subst, arith, add-one, drop-cons}, lemmas.{Bool.Decides.nat_tests, List.{drop_all, nil_from_length}}}
use Rattle.std.specs.Prelude.{MatchBool, ◌==◌, vec_len}
use Rattle.query_lang.specs.Blocks as blocks
use Rattle.query_lang.specs.declared.fault.TheConstants.{MAX_NESTING}
use Rattle.plan_file.specs.declared.lexemes.Lexeme.{Lexeme}
use Rattle.plan_file.specs.declared.lexemes.Lexeme.TheVariants as word
use Rattle.plan_file.specs.{declared.wants.Want.{Want, TheVariants.Block}, Bodies.IsBody, Wants.{Steps, Sticks}}
use Rattle.plan_file.proofs.Wanted.{StackReads, body_read, read_body, step_goes, step_back, step_sticks, ends_read, ends_empty}
use Rattle.plan_file.proofs.wants.is_body.Goals as goal
use Rattle.plan_file.proofs.wants.is_body.Goals.{then-closed, else-closed}

yes : (A B : Type 0) (b : Bool) → b ≡ true → MatchBool b A B → A
yes A B true e h = h
yes A B false e h = cc

no : (A B : Type 0) (b : Bool) → b ≡ false → MatchBool b A B → B
no A B true e h = cc
no A B false e h = h

-- the token at a place is the first of those from there on
cut : (ws : List Lexeme) (i : ℕ) → i < length ws → drop i ws ++ word.Close ∷ [] ≡ get_or ws i word.Set
    ∷ (drop (i + 1) ws ++ word.Close ∷ [])
cut ws i lt = rw (add-one, drop-cons ws i word.Set) refl

-- after the last token only the closing brace is left
closing : (ws : List Lexeme) (i : ℕ) → length ws ≤ i → drop i ws ++ word.Close ∷ [] ≡ word.Close ∷ []
closing ws i le = ap (λ l. l ++ word.Close ∷ []) (drop_all i ws le)

abbrev Answer : Bool → ℕ → ℕ → List Lexeme → Type 0
Answer r states args words = MatchBool r ((body : blocks.Block) × IsBody states args words body)
    ((body : blocks.Block) → IsBody states args words body → ⊥)

finish : (states args : ℕ) (words : List Lexeme) (old new : List Want) (r : Bool) → r ≡ (length new == 0)
    → Steps states (states + args) word.Close old new
    → (StackReads states args (Block MAX_NESTING ∷ []) (words ++ word.Close ∷ []) → StackReads states args old (word.Close ∷ []))
    → (StackReads states args old (word.Close ∷ []) → StackReads states args (Block MAX_NESTING ∷ []) (words ++ word.Close ∷ []))
    → Answer r states args words
finish states args words old new true e s goes back =
    let none : length new ≡ 0 = grind (arith, nat_tests) in
    read_body states args words (back (step_back states args old new word.Close [] s
    (ends_read states args new (nil_from_length new none))))
finish states args words old new false e s goes back = λ body b.
    let none : new ≡ [] = ends_empty states args new (step_goes states args old new word.Close [] s
    (goes (body_read states args words body b))) in
    let size : length new ≡ 0 = ap length none in
    grind (arith, nat_tests)

refuse : (states args : ℕ) (words : List Lexeme) (old : List Want) (r : Bool) → r ≡ false → Sticks states (states + args) word.Close old
    → (StackReads states args (Block MAX_NESTING ∷ []) (words ++ word.Close ∷ []) → StackReads states args old (word.Close ∷ []))
    → Answer r states args words
refuse states args words old true e s goes = cc
refuse states args words old false e s goes = λ body b. step_sticks states args old word.Close [] s
    (goes (body_read states args words body b))

pub returns-then-not-fits : goal.returns-then-not-fits
returns-then-not-fits c = λ body b.
    let old : List Want = c.loop-word.wants.items in
    let w : Lexeme = get_or c.args.words.now c.loop-word.word-index word.Set in
    let stuck : Sticks c.args.states (c.args.states + c.args.args) w old =
    no _ _ c.in_ok-fits.fits c.if-not-fits.true c.in_ok-fits.ensures in
    step_sticks c.args.states c.args.args old w (drop (c.loop-word.word-index + 1) c.args.words.now ++ word.Close ∷ []) stuck
    (subst (StackReads c.args.states c.args.args old) (cut c.args.words.now c.loop-word.word-index c.loop-word-test.true)
    (c.loop-word.invariant.goes (body_read c.args.states c.args.args c.args.words.now body b)))

pub loop-word-preserved : goal.loop-word-preserved
loop-word-preserved c =
    let old : List Want = c.loop-word.wants.items in
    let new : List Want = c.step.new.wants.items in
    let w : Lexeme = get_or c.args.words.now c.loop-word.word-index word.Set in
    let rest : List Lexeme = drop (c.loop-word.word-index + 1) c.args.words.now ++ word.Close ∷ [] in
    let steps : Steps c.args.states (c.args.states + c.args.args) w old new =
    yes _ _ c.in_ok-fits.fits c.if-not-fits.false c.in_ok-fits.ensures in
    let same = cut c.args.words.now c.loop-word.word-index c.loop-word-test.true in
    record {
      goes = λ p. step_goes c.args.states c.args.args old new w rest steps
          (subst (StackReads c.args.states c.args.args old) same (c.loop-word.invariant.goes p));
      back = λ p. c.loop-word.invariant.back (subst (StackReads c.args.states c.args.args old) (sym same)
          (step_back c.args.states c.args.args old new w rest steps p));
    }

pub returns : goal.returns
returns c =
    let old : List Want = c.loop-word.wants.items in
    let same = closing c.args.words.now c.loop-word.word-index (omega (arith, c.loop-word-test.false)) in
    let goes : StackReads c.args.states c.args.args (Block MAX_NESTING ∷ []) (c.args.words.now ++ word.Close ∷ [])
    → StackReads c.args.states c.args.args old (word.Close ∷ [])
    = λ p. subst (StackReads c.args.states c.args.args old) same (c.loop-word.invariant.goes p) in
    let back : StackReads c.args.states c.args.args old (word.Close ∷ [])
    → StackReads c.args.states c.args.args (Block MAX_NESTING ∷ []) (c.args.words.now ++ word.Close ∷ [])
    = λ p. c.loop-word.invariant.back (subst (StackReads c.args.states c.args.args old) (sym same) p) in
    let len : vec_len c.step-2.new.wants ≡ length c.step-2.new.wants.items = omega (arith, c.step-2.new.wants.ok) in
    elim c.if-closed.branch [
      | then-closed w ↦ finish c.args.states c.args.args c.args.words.now old c.step-2.new.wants.items c.if-closed.result
          (w.result-is ∙ w.is_empty.ensures ∙ ap (λ n. n == 0) len)
          (yes _ _ c.in_ok-closed.closed w.if-closed.true c.in_ok-closed.ensures) goes back
      | else-closed w ↦ refuse c.args.states c.args.args c.args.words.now old c.if-closed.result (w.result-is ∙ w.if-closed.false)
          (no _ _ c.in_ok-closed.closed w.if-closed.false c.in_ok-closed.ensures) goes
    ]
