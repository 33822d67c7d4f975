-- A chain of turns keeps that a parser meets its language.
use Rattle.std.proofs.Common.{◌≡◌, ℕ, zero, suc, ◌<◌, ◌≤◌, Bool, true, false, cond, List, [], ◌∷◌, ◌++◌, length, Option, Some, None, refl}
use Rattle.std.proofs.{Common.{sym, ap, ◌∙◌, append_assoc, arith, inl, inr, ◌⊎◌}, lemmas.List.{append-nil, length-append}}
use Rattle.query_lang.specs.declared.token.Token.{Token}
use Rattle.query_grammar.specs.{declared.stop.Counts.Counts, Language.{Language, Leaf, tokens_of, Chain, Chained}}
use Rattle.query_grammar.specs.Parser.{Limits, Outcome, Done, Stopped, Parser, and_then, next_is, linked, next_turn, chain_turns, chained}
use Rattle.query_grammar.proofs.Parses.{Apart, Keeps, SameNext, Found, Meets, Reads, reads, passes, Begins, nothing, something, Parses}
use Rattle.query_grammar.proofs.Parses.{starts_of, next_starts, next_clear, next_of, same_next, fewer, tokens-append, pays_both}

module _ {A B : Type 0} (m : Limits) (T : Language (A ⊎ B)) (p : Parser (A ⊎ B)) (test : Token → Bool)
    (pm : (c : Counts) (ts : List Token) → Meets m T p c ts (p c ts)) (pb : (w : List Leaf) (v : A ⊎ B) → T w v → Begins test false w) where
  -- what is left after a turn is shorter
  shorter : (c : Counts) (ts : List Token) (v : A ⊎ B) (d : Counts) (rest : List Token) → Found m T p c ts v d rest
      → length rest < length ts
  shorter c ts v d rest h =
      let s = starts_of (pb h.front v h.means) in
      let e : ts ≡ tokens_of (s.0 ∷ s.1) ++ rest = h.split ∙ ap (λ (w : List Leaf). tokens_of w ++ rest) s.2 in
      rw e (omega (arith, length-append (tokens_of s.1) rest))

  turn : Counts → List Token → (Counts → List Token → Outcome (List A × Option B)) → Outcome (List A × Option B)
  turn c ts after = cond (next_is test ts) (and_then (p c ts) (next_turn after)) (Done ([], None) c ts)

  -- a turn goes on with shorter lists alone
  turn_same : (c : Counts) (ts : List Token) (f g : Counts → List Token → Outcome (List A × Option B))
      → ((d : Counts) (rest : List Token) → length rest < length ts → f d rest ≡ g d rest) → turn c ts f ≡ turn c ts g
  unfolding turn
  turn_same c ts f g h = go (p c ts) (pm c ts)
    where
      go : (o : Outcome (A ⊎ B)) → Meets m T p c ts o → cond (next_is test ts) (and_then o (next_turn f)) (Done ([], None) c ts) ≡ cond
          (next_is test ts) (and_then o (next_turn g)) (Done ([], None) c ts)
      go (Done (inl a) d rest) e = ap (λ (x : Outcome (List A × Option B)). cond (next_is test ts) (linked a x) (Done ([], None) c ts))
          (h d rest (shorter c ts (inl a) d rest e))
      go (Done (inr b) d rest) e = refl
      go (Stopped k rest) e = refl

  enough : (n k : ℕ) (c : Counts) (ts : List Token) → length ts ≤ n → length ts ≤ k → chain_turns n test p c ts ≡ chain_turns k test p c ts
  unfolding turn
  enough zero zero c ts a b = refl
  enough zero (suc k) c [] a b = refl
  enough zero (suc k) c (t ∷ ts) a b = absurd (omega arith)
  enough (suc n) zero c [] a b = refl
  enough (suc n) zero c (t ∷ ts) a b = absurd (omega arith)
  enough (suc n) (suc k) c ts a b = turn_same c ts (chain_turns n test p) (chain_turns k test p)
      (λ d rest lt. enough n k d rest (omega arith) (omega arith))

  again_turn : (c : Counts) (ts : List Token) → chained test p c ts ≡ turn c ts (chained test p)
  unfolding turn
  again_turn c [] = refl
  again_turn c (t ∷ ts) = turn_same c (t ∷ ts) (chain_turns (length ts) test p) (chained test p)
      (λ d rest lt. enough (length ts) (length rest) d rest (omega arith) (omega arith))

  pub chain_false : (c : Counts) (ts : List Token) → next_is test ts ≡ false → chained test p c ts ≡ Done ([], None) c ts
  unfolding turn
  chain_false c ts e = again_turn c ts ∙ rw e refl

  pub chain_true : (c : Counts) (ts : List Token) → next_is test ts ≡ true
      → chained test p c ts ≡ and_then (p c ts) (next_turn (chained test p))
  unfolding turn
  chain_true c ts e = again_turn c ts ∙ rw e refl

  chained_meets : (n : ℕ) (c : Counts) (ts : List Token) → length ts ≤ n → Meets m (Chained T) (chained test p) c ts (chained test p c ts)
  chained_meets zero c [] h = record { front = []; split = refl; means = refl; pays = refl; again = λ x s. rw s refl }
  chained_meets zero c (t ∷ ts) h = absurd (omega arith)
  chained_meets (suc n) c ts h = choose (λ d rest lt. chained_meets n d rest lt) (next_is test ts) refl
    where
      same : (w : List Leaf) (rest x : List Token) → ts ≡ tokens_of w ++ rest → SameNext rest x
          → next_is test (tokens_of w ++ x) ≡ next_is test ts
      same w rest x e s = same_next test ts (tokens_of w ++ x) (next_of w rest x ts e s)

      both : next_is test ts ≡ true → (a : A) (d : Counts) (mid : List Token) → Found m T p c ts (inl a) d mid
          → (o : Outcome (List A × Option B)) → Meets m (Chained T) (chained test p) d mid o
          → Meets m (Chained T) (chained test p) c ts (linked a o)
      both e a d mid f (Done v e2 rest) g = record {
        front = f.front ++ g.front;
        split = f.split ∙ ap (λ (x : List Token). tokens_of f.front ++ x) g.split ∙ sym (tokens-append f.front g.front rest);
        means = (f.front, g.front, refl, f.means, g.means);
        pays = pays_both m c d e2 f.front g.front f.pays g.pays;
        again = λ x s. ap (chained test p c) (tokens-append f.front g.front x)
            ∙ chain_true c (tokens_of f.front ++ (tokens_of g.front ++ x))
            (same f.front mid (tokens_of g.front ++ x) f.split (next_of g.front rest x mid g.split s) ∙ e)
            ∙ ap (λ (o : Outcome (A ⊎ B)). and_then o (next_turn (chained test p)))
            (f.again (tokens_of g.front ++ x) (next_of g.front rest x mid g.split s)) ∙ ap (linked a) (g.again x s);
      }
      both e a d mid f (Stopped k rest) g = record {
        front = f.front ++ g.front;
        split = f.split ∙ ap (λ (x : List Token). tokens_of f.front ++ x) g.split ∙ sym (tokens-append f.front g.front rest);
        counts = g.counts;
        pays = pays_both m c d g.counts f.front g.front f.pays g.pays;
        more = g.more;
        value = (a ∷ g.value.0, g.value.1);
        begins = (f.front, g.front ++ g.more, append_assoc f.front g.front g.more, f.means, g.begins);
        cause = g.cause;
        again = λ x s. ap (chained test p c) (tokens-append f.front g.front x)
            ∙ chain_true c (tokens_of f.front ++ (tokens_of g.front ++ x))
            (same f.front mid (tokens_of g.front ++ x) f.split (next_of g.front rest x mid g.split s) ∙ e)
            ∙ ap (λ (o : Outcome (A ⊎ B)). and_then o (next_turn (chained test p)))
            (f.again (tokens_of g.front ++ x) (next_of g.front rest x mid g.split s)) ∙ ap (linked a) (g.again x s);
      }

      halted_with : (v : A ⊎ B) (w : List Leaf) → T w v → (u : List A × Option B) × Chained T w u
      halted_with (inl a) w t = ((a ∷ [], None), (w, [], sym (append-nil w), t, refl))
      halted_with (inr b) w t = (([], Some b), t)

      one : ((d : Counts) (rest : List Token) → length rest ≤ n → Meets m (Chained T) (chained test p) d rest (chained test p d rest))
          → next_is test ts ≡ true
          → (o : Outcome (A ⊎ B)) → Meets m T p c ts o → Meets m (Chained T) (chained test p) c ts (and_then o (next_turn (chained test p)))
      one ih e (Done (inl a) d mid) f = both e a d mid f (chained test p d mid) (ih d mid (omega (arith, shorter c ts (inl a) d mid f)))
      one ih e (Done (inr b) d mid) f = record {
        front = f.front;
        split = f.split;
        means = f.means;
        pays = f.pays;
        again = λ x s. chain_true c (tokens_of f.front ++ x) (same f.front mid x f.split s ∙ e)
            ∙ ap (λ (o : Outcome (A ⊎ B)). and_then o (next_turn (chained test p))) (f.again x s);
      }
      one ih e (Stopped k rest) f = let u = halted_with f.value (f.front ++ f.more) f.begins in record {
        front = f.front;
        split = f.split;
        counts = f.counts;
        pays = f.pays;
        more = f.more;
        value = u.0;
        begins = u.1;
        cause = f.cause;
        again = λ x s. chain_true c (tokens_of f.front ++ x) (same f.front rest x f.split s ∙ e)
            ∙ ap (λ (o : Outcome (A ⊎ B)). and_then o (next_turn (chained test p))) (f.again x s);
      }

      choose : ((d : Counts) (rest : List Token) → length rest ≤ n → Meets m (Chained T) (chained test p) d rest (chained test p d rest))
          → (b : Bool) → next_is test ts ≡ b → Meets m (Chained T) (chained test p) c ts (chained test p c ts)
      choose ih true e = rw (chain_true c ts e) (one ih e (p c ts) (pm c ts))
      choose ih false e = rw (chain_false c ts e)
          (record { front = []; split = refl; means = refl; pays = refl; again = λ x s. chain_false c x (same_next test ts x s ∙ e) })

  chained_begins : (w : List Leaf) (v : List A) (o : Option B) → Chain T w v o → Begins test true w
  chained_begins w [] None h = rw h nothing
  chained_begins w [] (Some b) h = let s = starts_of (pb w (inr b) h) in rw s.2 (something s.0 s.1 s.3)
  chained_begins w (a ∷ others) o h =
      let s = starts_of (pb h.0 (inl a) h.3) in
      let e : w ≡ s.0 ∷ (s.1 ++ h.1) = h.2 ∙ ap (λ (x : List Leaf). x ++ h.1) s.2 in
      rw e (something s.0 (s.1 ++ h.1) s.3)

  last_read : (c : Counts) (w : List Leaf) (b : B) (rest : List Token) → next_is test (tokens_of w ++ rest) ≡ true
      → Reads m p c w (inr b) rest → Reads m (chained test p) c w ([], Some b) rest
  last_read c w b rest t (passes k y l x d e n i s o) = passes k y l x d e n i
      (chain_true c (tokens_of w ++ rest) t ∙ ap (λ (z : Outcome (A ⊎ B)). and_then z (next_turn (chained test p))) s) o
  last_read c w b rest t (reads d pay e) = reads d pay (chain_true c (tokens_of w ++ rest) t
      ∙ ap (λ (o : Outcome (A ⊎ B)). and_then o (next_turn (chained test p))) e)

  both_read : (c : Counts) (u w : List Leaf) (a : A) (v : List A × Option B) (rest : List Token)
      → next_is test (tokens_of u ++ (tokens_of w ++ rest)) ≡ true
      → Reads m p c u (inl a) (tokens_of w ++ rest) → ((d : Counts) → Reads m (chained test p) d w v rest)
      → Reads m (chained test p) c (u ++ w) (a ∷ v.0, v.1) rest
  both_read c u w a v rest t (passes k y l x d e n i s o) g = passes k y l (x ++ w) d
      (ap (λ (z : List Leaf). z ++ w) e ∙ append_assoc y (l ∷ x) w) n i
      (ap (chained test p c) (tokens-append u w rest) ∙ one ∙ ap (λ (z : List Token). Stopped k (l.token ∷ z))
      (sym (tokens-append x w rest))) o
    where
      one : chained test p c (tokens_of u ++ (tokens_of w ++ rest)) ≡ Stopped k (l.token ∷ (tokens_of x ++ (tokens_of w ++ rest)))
      one = chain_true c (tokens_of u ++ (tokens_of w ++ rest)) t ∙ ap (λ (z : Outcome (A ⊎ B)). and_then z (next_turn (chained test p))) s
  both_read c u w a v rest t (reads d pay e) g = go (g d)
    where
      one : chained test p c (tokens_of (u ++ w) ++ rest) ≡ linked a (chained test p d (tokens_of w ++ rest))
      one = ap (chained test p c) (tokens-append u w rest) ∙ chain_true c (tokens_of u ++ (tokens_of w ++ rest)) t
          ∙ ap (λ (o : Outcome (A ⊎ B)). and_then o (next_turn (chained test p))) e

      go : Reads m (chained test p) d w v rest → Reads m (chained test p) c (u ++ w) (a ∷ v.0, v.1) rest
      go (reads d2 pay2 e2) = reads d2 (pays_both m c d d2 u w pay pay2) (one ∙ ap (linked a) e2)
      go (passes k y l x d2 e2 n i s o) = passes k (u ++ y) l x d2 (ap (λ (z : List Leaf). u ++ z) e2 ∙ sym (append_assoc u y (l ∷ x)))
          (pays_both m c d d2 u y pay n) i (one ∙ ap (linked a) s) o

  chained_complete : (on goes_on : Token → Bool) → Apart test on → Keeps goes_on test → Keeps goes_on on
      → ((c : Counts) (w : List Leaf) (v : A ⊎ B) (rest : List Token) → T w v → next_is on rest ≡ false → Reads m p c w v rest)
      → (v : List A) (o : Option B) (c : Counts) (w : List Leaf) (rest : List Token) → Chain T w v o → next_is goes_on rest ≡ false
      → Reads m (chained test p) c w (v, o) rest
  chained_complete on goes_on apart ends keeps pc [] None c w rest h clear =
      rw h (reads c refl (chain_false c rest (fewer test goes_on rest ends clear)))
  chained_complete on goes_on apart ends keeps pc [] (Some b) c w rest h clear =
      last_read c w b rest (next_starts rest (pb w (inr b) h)) (pc c w (inr b) rest h (fewer on goes_on rest keeps clear))
  chained_complete on goes_on apart ends keeps pc (a ∷ others) o c w rest h clear =
      rw h.2 (both_read c h.0 h.1 a (others, o) rest (next_starts (tokens_of h.1 ++ rest) (pb h.0 (inl a) h.3))
      (pc c h.0 (inl a) (tokens_of h.1 ++ rest) h.3 (next_clear on rest (chained_begins h.1 others o h.4)
      (λ n. fewer on goes_on rest keeps clear) apart)) (λ d. chained_complete on goes_on apart ends keeps pc others o d h.1 rest h.4 clear))

pub parses_chained : {A B : Type 0} {m : Limits} {T : Language (A ⊎ B)} {p : Parser (A ⊎ B)} {test on : Token → Bool}
    → (goes_on : Token → Bool) → Parses m T p test on false → Apart test on → Keeps goes_on test → Keeps goes_on on
    → Parses m (Chained T) (chained test p) test goes_on true
parses_chained {A} {B} {m} {T} {p} {test} {on} goes_on f apart ends keeps = record {
  meets = λ c ts. chained_meets m T p test f.meets f.begins (length ts) c ts (omega arith);
  complete = λ c w v rest h clear. chained_complete m T p test f.meets f.begins on goes_on apart ends keeps f.complete v.0 v.1 c w rest h
      clear;
  begins = λ w v h. chained_begins m T p test f.meets f.begins w v.0 v.1 h;
  sample = ([], ([], None), refl);
}
