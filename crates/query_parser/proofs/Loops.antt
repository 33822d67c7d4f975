-- One turn of a loop that reads the same thing repeatedly.
use Rattle.std.proofs.Common.{◌≡◌, ℕ, zero, suc, ◌+◌, ◌-◌, ◌<◌, ◌≤◌, Bool, true, false, List, [], ◌∷◌, ◌++◌, refl, sym, ap, ◌∙◌, arith}
use Rattle.std.proofs.Common.{append_assoc, inl, inr, ◌⊎◌}
use Rattle.query_lang.specs.declared.{token.Token.Token, fault.Span.Span, query.Expr.Expr}
use Rattle.query_grammar.specs.{declared.stop.{Counts.Counts, Stop.Stop}, Grammar.negated}
use Rattle.query_grammar.specs.Parser.{Outcome, Done, Stopped, Parser, and_then, next_is, turns}
use Rattle.query_parser.specs.{declared.{halt.Halt.Halt, reader.Reader.Reader}, Reads.{Fails, StopsAt}}
use Rattle.query_lang.specs.declared.query.Expr.TheVariants as exprs
use Rattle.query_parser.specs.declared.halt.Halt.TheVariants as halts

-- what the turns that are left give, and what was read before them
abbrev pub finished : {A B : Type 0} → (List A → B) → Outcome (List A) → Outcome B
finished f o = and_then o (λ others c rest. Done (f others) c rest)

-- what was read so far, before what is still read
abbrev pub later : {A : Type 0} → List A → List A → List A
later found others = found ++ others

module _ {A B : Type 0} (starts : Token → Bool) (p : Parser A) (total : Outcome B) where
  one_turn : (n i : ℕ) (c : Counts) (ts : List Token) → i < n → next_is starts ts ≡ true
      → turns (n - i) starts p c ts ≡ and_then (p c ts) (λ a c' rest. and_then (turns (n - (i + 1)) starts p c' rest)
      (λ others c'' rest'. Done (a ∷ others) c'' rest'))
  one_turn n i c ts lt h = let k : n - i ≡ suc (n - (i + 1)) = omega arith in rw (k, h) refl

  pub goes_on : (f g : List A → B) (n i : ℕ) (c : Counts) (ts : List Token) (a : A) (d : Counts) (rest : List Token) → i < n
      → next_is starts ts ≡ true
      → p c ts ≡ Done a d rest → ((others : List A) → g others ≡ f (a ∷ others)) → finished f (turns (n - i) starts p c ts) ≡ total
      → finished g (turns (n - (i + 1)) starts p d rest) ≡ total
  goes_on f g n i c ts a d rest lt h e same so_far = go (turns (n - (i + 1)) starts p d rest)
      ∙ ap (finished f) (sym (one_turn n i c ts lt h ∙ rw e refl)) ∙ so_far
    where
      go : (o : Outcome (List A)) → finished g o ≡ finished f (and_then o (λ others c'' rest'. Done (a ∷ others) c'' rest'))
      go (Done others c'' rest') = ap (λ (b : B). Done b c'' rest') (same others)
      go (Stopped k r) = refl

  -- a turn that fails is how the whole fails
  pub fails : (f : List A → B) (n i : ℕ) (c : Counts) (ts : List Token) (x : Halt) (to : Reader) → i < n → next_is starts ts ≡ true
      → Fails x to (p c ts) → finished f (turns (n - i) starts p c ts) ≡ total → Fails x to total
  fails f n i c ts halts.Memory to lt h e so_far = tt
  fails f n i c ts (halts.At x) to lt h e so_far = sym so_far ∙ ap (finished f) (one_turn n i c ts lt h) ∙ rw e refl

  pub ends : (f : List A → B) (n i : ℕ) (c : Counts) (ts : List Token) → (n ≤ i) ⊎ (next_is starts ts ≡ false)
      → finished f (turns (n - i) starts p c ts) ≡ total → total ≡ Done (f []) c ts
  ends f n i c ts (inl le) so_far = let k : n - i ≡ 0 = omega arith in sym so_far ∙ rw k refl
  ends f n i c ts (inr other) so_far = sym so_far ∙ ap (finished f) (none (n - i))
    where
      none : (m : ℕ) → turns m starts p c ts ≡ Done [] c ts
      none zero = refl
      none (suc m) = rw other refl

-- what stops at a fault fails
pub stops_fails : {A : Type 0} (x : Halt) (to : Reader) (o : Outcome A) → StopsAt x to o → Fails x to o
stops_fails halts.Memory to o h = tt
stops_fails (halts.At x) to o h = h

-- what fails as a part of it does
module _ {A B : Type 0} (part : Outcome A) (whole : Outcome B) (all : (k : Stop) (rest : List Token) → part ≡ Stopped k rest
    → whole ≡ Stopped k rest) where
  pub fails_in : (x : Halt) (to : Reader) → Fails x to part → Fails x to whole
  fails_in halts.Memory to h = tt
  fails_in (halts.At k) to h = all k to.rest.now h

  pub stops_in : (x : Halt) (to : Reader) → StopsAt x to part → Fails x to whole
  stops_in halts.Memory to h = tt
  stops_in (halts.At k) to h = all k to.rest.now h

-- more of a list
module _ {A : Type 0} (starts : Token → Bool) (p : Parser A) (total : Outcome (List A)) where
  pub more_list : (found longer : List A) (n i : ℕ) (c : Counts) (ts : List Token) (a : A) (d : Counts) (rest : List Token) → i < n
      → next_is starts ts ≡ true → p c ts ≡ Done a d rest
      → longer ≡ found ++ a ∷ [] → finished (later found) (turns (n - i) starts p c ts) ≡ total
      → finished (later longer) (turns (n - (i + 1)) starts p d rest) ≡ total
  more_list found longer n i c ts a d rest lt h e is so_far =
      goes_on starts p total (later found) (later longer) n i c ts a d rest lt h e (λ others. rw is (append_assoc found (a ∷ []) others))
      so_far

  pub ends_list : (found : List A) (n i : ℕ) (c : Counts) (ts : List Token) → (n ≤ i) ⊎ (next_is starts ts ≡ false)
      → finished (later found) (turns (n - i) starts p c ts) ≡ total → total ≡ Done found c ts
  ends_list found n i c ts way so_far = ends starts p total (later found) n i c ts way so_far
      ∙ ap (λ (xs : List A). Done xs c ts) (go found)
    where
      go : (xs : List A) → xs ++ [] ≡ xs
      go [] = refl
      go (x ∷ xs) = ap (λ (ys : List A). x ∷ ys) (go xs)

-- ---- what comes before an expression is added beginning with the last

pub negated_more : (spans : List Span) (last : Span) (e : Expr) → negated (spans ++ last ∷ []) e ≡ negated spans (exprs.Not last e)
negated_more [] last e = refl
negated_more (span ∷ spans) last e = ap (exprs.Not span) (negated_more spans last e)
