-- One parser or the other, at most one, and one that stops at a bracket.
use Rattle.std.proofs.Common.{◌≡◌, Bool, true, false, cond, List, [], ◌∷◌, ◌++◌, Option, Some, None, refl, ap, ◌∙◌, inl, inr, ◌⊎◌}
use Rattle.query_lang.specs.declared.{fault.Span.Span, token.Token.Token}
use Rattle.query_grammar.specs.Language.{Language, Plain, Leaf, tokens_of, Word, Then, AtMostOnce, Either, Meaning}
use Rattle.query_grammar.specs.declared.stop.{Counts.Counts, Stop.TheVariants.{Unexpected, Nesting}}
use Rattle.query_grammar.specs.Parser.{Limits, Limited, Outcome, Done, Stopped, Parser, and_then, next_is, at_most_once, either}
use Rattle.query_grammar.proofs.Parses.{Apart, Keeps, Widens, halts_here, meets_as, meets_by, SameNext, Meets, Reads, Begins, Parses}
use Rattle.query_grammar.proofs.Parses.{next_of, same_next}
use Rattle.query_grammar.proofs.Parses.{starts_of, next_starts, next_clear, fewer, wider, is_some_of, reads, passes, nothing, something}

-- ---- one or the other

module _ {A : Type 0} (m : Limits) (L M : Language A) (p q : Parser A) (test : Token → Bool) where
  either_true : (x : List Token) (c : Counts) → next_is test x ≡ true → either test p q c x ≡ p c x
  either_true x c e = rw e refl

  either_false : (x : List Token) (c : Counts) → next_is test x ≡ false → either test p q c x ≡ q c x
  either_false x c e = rw e refl

  either_meets : ((c : Counts) (ts : List Token) → Meets m L p c ts (p c ts)) → ((c : Counts) (ts : List Token) → Meets m M q c ts (q c ts))
      → (c : Counts) (ts : List Token) → Meets m (Either L M) (either test p q) c ts (either test p q c ts)
  either_meets pm qm c ts = go (next_is test ts) refl
    where
      same : (w : List Leaf) (rest x : List Token) → ts ≡ tokens_of w ++ rest → SameNext rest x
          → next_is test (tokens_of w ++ x) ≡ next_is test ts
      same w rest x e s = same_next test ts (tokens_of w ++ x) (next_of w rest x ts e s)

      go : (b : Bool) → next_is test ts ≡ b → Meets m (Either L M) (either test p q) c ts (cond b (p c ts) (q c ts))
      go true e = meets_as m p (either test p q) (λ w v h. inl h) (λ w rest x k s. either_true (tokens_of w ++ x) c (same w rest x k s ∙ e))
          (p c ts) (pm c ts)
      go false e = meets_as m q (either test p q) (λ w v h. inr h) (λ w rest x k s. either_false (tokens_of w ++ x) c
          (same w rest x k s ∙ e)) (q c ts) (qm c ts)

  reads_left : (c : Counts) (w : List Leaf) (a : A) (rest : List Token) → next_is test (tokens_of w ++ rest) ≡ true → Reads m p c w a rest
      → Reads m (either test p q) c w a rest
  reads_left c w a rest t (reads d pay e) = reads d pay (either_true (tokens_of w ++ rest) c t ∙ e)
  reads_left c w a rest t (passes k y l x d e n i s o) = passes k y l x d e n i (either_true (tokens_of w ++ rest) c t ∙ s) o

  reads_right : (c : Counts) (w : List Leaf) (a : A) (rest : List Token) → next_is test (tokens_of w ++ rest) ≡ false → Reads m q c w a rest
      → Reads m (either test p q) c w a rest
  reads_right c w a rest t (reads d pay e) = reads d pay (either_false (tokens_of w ++ rest) c t ∙ e)
  reads_right c w a rest t (passes k y l x d e n i s o) = passes k y l x d e n i (either_false (tokens_of w ++ rest) c t ∙ s) o

  pub parses_either : {on starts' on' : Token → Bool} → (starts goes_on : Token → Bool) → Parses m L p test on false
      → Parses m M q starts' on' false → Apart starts' test → Widens test starts → Widens starts' starts
      → Keeps goes_on on → Keeps goes_on on' → Parses m (Either L M) (either test p q) starts goes_on false
  parses_either {on} {starts'} {on'} starts goes_on f g apart wide wide' keeps keeps' = record {
    meets = either_meets f.meets g.meets;
    complete = λ c w v rest h clear. complete c w v rest clear h;
    begins = λ w v h. begins w v h;
    sample = (f.sample.0, f.sample.1, inl f.sample.2);
  }
    where
      complete : (c : Counts) (w : List Leaf) (v : A) (rest : List Token) → next_is goes_on rest ≡ false → L w v ⊎ M w v
          → Reads m (either test p q) c w v rest
      complete c w v rest clear (inl h) = reads_left c w v rest (next_starts rest (f.begins w v h))
          (f.complete c w v rest h (fewer on goes_on rest keeps clear))
      complete c w v rest clear (inr h) = reads_right c w v rest (next_clear test rest (g.begins w v h) (λ n. absurd cc) apart)
          (g.complete c w v rest h (fewer on' goes_on rest keeps' clear))

      begins : (w : List Leaf) (v : A) → L w v ⊎ M w v → Begins starts false w
      begins w v (inl h) = wider wide (f.begins w v h)
      begins w v (inr h) = wider wide' (g.begins w v h)

-- ---- at most once

module _ {A : Type 0} (m : Limits) (L : Language A) (p : Parser A) (test : Token → Bool) where
  once_true : (x : List Token) (c : Counts) → next_is test x ≡ true → at_most_once test p c x ≡ and_then (p c x)
      (λ a c' rest. Done (Some a) c' rest)
  once_true x c e = rw e refl

  once_false : (x : List Token) (c : Counts) → next_is test x ≡ false → at_most_once test p c x ≡ Done None c x
  once_false x c e = rw e refl

  once_meets : ((c : Counts) (ts : List Token) → Meets m L p c ts (p c ts)) → (c : Counts) (ts : List Token)
      → Meets m (AtMostOnce L) (at_most_once test p) c ts (at_most_once test p c ts)
  once_meets pm c ts = go (next_is test ts) refl
    where
      same : (w : List Leaf) (rest x : List Token) → ts ≡ tokens_of w ++ rest → SameNext rest x
          → next_is test (tokens_of w ++ x) ≡ next_is test ts
      same w rest x e s = same_next test ts (tokens_of w ++ x) (next_of w rest x ts e s)

      go : (b : Bool) → next_is test ts ≡ b → Meets m (AtMostOnce L) (at_most_once test p) c ts
          (cond b (and_then (p c ts) (λ a c' rest. Done (Some a) c' rest)) (Done None c ts))
      go true e = meets_by m (AtMostOnce L) p (at_most_once test p) Some (λ w v h. h)
          (λ w rest x k s. once_true (tokens_of w ++ x) c (same w rest x k s ∙ e)) (p c ts) (pm c ts)
      go false e = record { front = []; split = refl; means = refl; pays = refl; again = λ x s. once_false x c (same_next test ts x s ∙ e) }

  once_reads : (c : Counts) (w : List Leaf) (a : A) (rest : List Token) → next_is test (tokens_of w ++ rest) ≡ true → Reads m p c w a rest
      → Reads m (at_most_once test p) c w (Some a) rest
  once_reads c w a rest t (reads d pay e) = reads d pay (once_true (tokens_of w ++ rest) c t ∙ rw e refl)
  once_reads c w a rest t (passes k y l x d e n i s o) = passes k y l x d e n i (once_true (tokens_of w ++ rest) c t ∙ rw s refl) o

  pub parses_once : {on : Token → Bool} → (goes_on : Token → Bool) → Parses m L p test on false → Keeps goes_on test → Keeps goes_on on
      → Parses m (AtMostOnce L) (at_most_once test p) test goes_on true
  parses_once {on} goes_on f apart keeps = record {
    meets = once_meets f.meets;
    complete = λ c w v rest h clear. complete c w v rest clear h;
    begins = λ w v h. begins w v h;
    sample = ([], None, refl);
  }
    where
      complete : (c : Counts) (w : List Leaf) (v : Option A) (rest : List Token) → next_is goes_on rest ≡ false → AtMostOnce L w v
          → Reads m (at_most_once test p) c w v rest
      complete c w None rest clear h = rw h (reads c refl (once_false rest c (fewer test goes_on rest apart clear)))
      complete c w (Some a) rest clear h = once_reads c w a rest (next_starts rest (f.begins w a h))
          (f.complete c w a rest h (fewer on goes_on rest keeps clear))

      begins : (w : List Leaf) (v : Option A) → AtMostOnce L w v → Begins test true w
      begins w None h = rw h nothing
      begins w (Some a) h = let s = starts_of (f.begins w a h) in rw s.2 (something s.0 s.1 s.3)

-- ---- a bracket that would be one too many

module _ {A B : Type 0} (L : Language A) (takes : Token → Option Span) (f : Span × A → B) where
  abbrev stopped_by : Option Span → List Token → Outcome B
  stopped_by None ts = Stopped Unexpected ts
  stopped_by (Some u) ts = Stopped Nesting ts

  pub parses_blocked : (p : Parser B) → ((c : Counts) → p c [] ≡ Stopped Unexpected [])
      → ((c : Counts) (t : Token) (ts : List Token) → p c (t ∷ ts) ≡ stopped_by (takes t) (t ∷ ts))
      → (goes_on : Token → Bool) (t0 : Token) (s0 : Span) → takes t0 ≡ Some s0 → (w : List Leaf) (a : A) → L w a
      → Parses Limited (Meaning f (Then (Word Plain takes) L)) p (λ t. is_some_of (takes t)) goes_on false
  parses_blocked p nil cons goes_on t0 s0 h0 w a la = record {
    meets = λ c ts. meets c ts;
    complete = λ c u v rest h clear. rw (h.1.2 ∙ ap (λ (x : List Leaf). x ++ h.1.1) h.1.3.1) (complete c u v rest h);
    begins = λ u v h. rw (h.1.2 ∙ ap (λ (x : List Leaf). x ++ h.1.1) h.1.3.1) (something (record { role = Plain; token = h.1.3.0 }) h.1.1
        (ap is_some_of h.1.3.2));
    sample = (record { role = Plain; token = t0 } ∷ w, f (s0, a), sampled);
  }
    where
      sampled : Meaning f (Then (Word Plain takes) L) (record { role = Plain; token = t0 } ∷ w) (f (s0, a))
      sampled = ((s0, a), (record { role = Plain; token = t0 } ∷ [], w, refl, (t0, refl, h0), la), refl)

      stop : (c : Counts) (t : Token) (ts : List Token) (o : Option Span) → takes t ≡ o
          → Meets Limited (Meaning f (Then (Word Plain takes) L)) p c (t ∷ ts) (stopped_by o (t ∷ ts))
      stop c t ts None e = halts_here Unexpected (record { role = Plain; token = t0 } ∷ w) (f (s0, a)) sampled tt
          (λ x s. rw s.1 (cons c t s.0 ∙ rw e refl))
      stop c t ts (Some u) e = halts_here Nesting (record { role = Plain; token = t } ∷ w) (f (u, a))
          ((u, a), (record { role = Plain; token = t } ∷ [], w, refl, (t, refl, e), la), refl)
          (record { role = Plain; token = t }, w, ts, refl, refl, refl) (λ x s. rw s.1 (cons c t s.0 ∙ rw e refl))

      meets : (c : Counts) (ts : List Token) → Meets Limited (Meaning f (Then (Word Plain takes) L)) p c ts (p c ts)
      meets c [] = rw (nil c) (halts_here Unexpected (record { role = Plain; token = t0 } ∷ w) (f (s0, a)) sampled tt (λ x s. rw s (nil c)))
      meets c (t ∷ ts) = rw (cons c t ts) (stop c t ts (takes t) refl)

      complete : (c : Counts) (u : List Leaf) (v : B) (rest : List Token) → (h : Meaning f (Then (Word Plain takes) L) u v)
          → Reads Limited p c ((record { role = Plain; token = h.1.3.0 } ∷ []) ++ h.1.1) v rest
      complete c u v rest h = passes Nesting [] (record { role = Plain; token = h.1.3.0 }) h.1.1 c refl refl refl
          (cons c h.1.3.0 (tokens_of h.1.1 ++ rest) ∙ rw h.1.3.2 refl) refl
