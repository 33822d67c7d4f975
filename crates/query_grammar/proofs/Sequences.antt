-- One parser after the other keeps that each meets its language, and so does another meaning.
use Rattle.std.proofs.Common.{◌≡◌, Bool, true, false, List, ◌∷◌, ◌++◌, refl, sym, ap, ◌∙◌, append_assoc}
use Rattle.query_lang.specs.declared.token.Token.{Token}
use Rattle.query_grammar.specs.{Language.{Language, Leaf, tokens_of, Then, Meaning}, declared.stop.{Counts.Counts, Stop.Stop}}
use Rattle.query_grammar.specs.Parser.{Limits, Outcome, Done, Stopped, Parser, and_then, followed_by, mapped}
use Rattle.query_grammar.proofs.Parses.{Apart, meets_by}
use Rattle.query_grammar.proofs.Parses.{Keeps, Widens, pays_both, tokens-append, Found, Halted, Meets, Reads, Begins, Parses, next_of}
use Rattle.query_grammar.proofs.Parses.{starts_of, next_clear, fewer, wider, cause_more, reads, passes, nothing, something}

module _ {A B : Type 0} (m : Limits) (L : Language A) (M : Language B) (p : Parser A) (q : Parser B) where
  then_done : (c : Counts) (ts : List Token) (a : A) (d : Counts) (mid : List Token) (b : B) (e : Counts) (rest : List Token)
      → Found m L p c ts a d mid → Found m M q d mid b e rest → Found m (Then L M) (followed_by p q) c ts (a, b) e rest
  then_done c ts a d mid b e rest f g = record {
    front = f.front ++ g.front;
    split = f.split ∙ ap (λ (x : List Token). tokens_of f.front ++ x) g.split ∙ sym (tokens-append f.front g.front rest);
    means = (f.front, g.front, refl, f.means, g.means);
    pays = pays_both m c d e f.front g.front f.pays g.pays;
    again = λ x h. ap (followed_by p q c) (tokens-append f.front g.front x)
        ∙ rw (f.again (tokens_of g.front ++ x) (next_of g.front rest x mid g.split h), g.again x h) refl;
  }

  then_stopped_late : (c : Counts) (ts : List Token) (a : A) (d : Counts) (mid : List Token) (k : Stop) (rest : List Token)
      → Found m L p c ts a d mid → Halted m M q d mid k rest → Halted m (Then L M) (followed_by p q) c ts k rest
  then_stopped_late c ts a d mid k rest f g = record {
    front = f.front ++ g.front;
    split = f.split ∙ ap (λ (x : List Token). tokens_of f.front ++ x) g.split ∙ sym (tokens-append f.front g.front rest);
    counts = g.counts;
    pays = pays_both m c d g.counts f.front g.front f.pays g.pays;
    more = g.more;
    value = (a, g.value);
    begins = (f.front, g.front ++ g.more, append_assoc f.front g.front g.more, f.means, g.begins);
    cause = g.cause;
    again = λ x h. ap (followed_by p q c) (tokens-append f.front g.front x)
        ∙ rw (f.again (tokens_of g.front ++ x) (next_of g.front rest x mid g.split h), g.again x h) refl;
  }

  then_stopped : (c : Counts) (ts : List Token) (k : Stop) (rest : List Token) (w : List Leaf) (b : B)
      → M w b → Halted m L p c ts k rest → Halted m (Then L M) (followed_by p q) c ts k rest
  then_stopped c ts k rest w b mb f = record {
    front = f.front;
    split = f.split;
    counts = f.counts;
    pays = f.pays;
    more = f.more ++ w;
    value = (f.value, b);
    begins = (f.front ++ f.more, w, sym (append_assoc f.front f.more w), f.begins, mb);
    cause = cause_more m k f.counts f.more w rest f.cause;
    again = λ x h. rw (f.again x h) refl;
  }

  then_meets : (w : List Leaf) (b : B) → M w b → ((c : Counts) (ts : List Token) → Meets m L p c ts (p c ts))
      → ((c : Counts) (ts : List Token) → Meets m M q c ts (q c ts))
      → (c : Counts) (ts : List Token) → Meets m (Then L M) (followed_by p q) c ts (followed_by p q c ts)
  then_meets w b mb pm qm c ts = first (p c ts) (pm c ts)
    where
      second : (a : A) (d : Counts) (mid : List Token) → Found m L p c ts a d mid → (o : Outcome B) → Meets m M q d mid o
          → Meets m (Then L M) (followed_by p q) c ts (and_then o (λ b c'' rest'. Done (a, b) c'' rest'))
      second a d mid f (Done b e rest) g = then_done c ts a d mid b e rest f g
      second a d mid f (Stopped k rest) g = then_stopped_late c ts a d mid k rest f g

      first : (o : Outcome A) → Meets m L p c ts o → Meets m (Then L M) (followed_by p q) c ts
          (and_then o (λ a c' rest. and_then (q c' rest) (λ b c'' rest'. Done (a, b) c'' rest')))
      first (Done a d mid) f = second a d mid f (q d mid) (qm d mid)
      first (Stopped k rest) f = then_stopped c ts k rest w b mb f

  then_reads : (c : Counts) (u w : List Leaf) (a : A) (b : B) (rest : List Token) → Reads m p c u a (tokens_of w ++ rest)
      → ((d : Counts) → Reads m q d w b rest) → Reads m (followed_by p q) c (u ++ w) (a, b) rest
  then_reads c u w a b rest (passes k y l x d e n i s o) g = passes k y l (x ++ w) d
      (ap (λ (z : List Leaf). z ++ w) e ∙ append_assoc y (l ∷ x) w) n i
      (ap (followed_by p q c) (tokens-append u w rest) ∙ one ∙ ap (λ (z : List Token). Stopped k (l.token ∷ z))
      (sym (tokens-append x w rest))) o
    where
      one : followed_by p q c (tokens_of u ++ (tokens_of w ++ rest)) ≡ Stopped k (l.token ∷ (tokens_of x ++ (tokens_of w ++ rest)))
      one = rw s refl
  then_reads c u w a b rest (reads d pay e) g = go (g d)
    where
      go : Reads m q d w b rest → Reads m (followed_by p q) c (u ++ w) (a, b) rest
      go (reads d2 pay2 e2) = reads d2 (pays_both m c d d2 u w pay pay2) (ap (followed_by p q c) (tokens-append u w rest) ∙ rw (e, e2) refl)
      go (passes k y l x d2 e2 n i s o) = passes k (u ++ y) l x d2 (ap (λ (z : List Leaf). u ++ z) e2 ∙ sym (append_assoc u y (l ∷ x)))
          (pays_both m c d d2 u y pay n) i (ap (followed_by p q c) (tokens-append u w rest) ∙ rw (e, s) refl) o

  pub parses_then : {starts on starts' on' : Token → Bool} {nullable : Bool} → (goes_on : Token → Bool) → Parses m L p starts on false
      → Parses m M q starts' on' nullable → Apart starts' on → (nullable ≡ true → (t : Token) → goes_on t ≡ false → on t ≡ false)
      → Keeps goes_on on' → Parses m (Then L M) (followed_by p q) starts goes_on false
  parses_then {starts} {on} {starts'} {on'} {nullable} goes_on f g apart keeps keeps' = record {
    meets = then_meets g.sample.0 g.sample.1 g.sample.2 f.meets g.meets;
    complete = λ c w v rest h clear. rw h.2 (then_reads c h.0 h.1 v.0 v.1 rest
        (f.complete c h.0 v.0 (tokens_of h.1 ++ rest) h.3 (next_clear on rest (g.begins h.1 v.1 h.4)
        (λ n. fewer on goes_on rest (keeps n) clear) apart)) (λ d. g.complete d h.1 v.1 rest h.4 (fewer on' goes_on rest keeps' clear)));
    begins = λ w v h. rw h.2 (front_begins h.0 h.1 (f.begins h.0 v.0 h.3));
    sample = (f.sample.0 ++ g.sample.0, (f.sample.1, g.sample.1), (f.sample.0, g.sample.0, refl, f.sample.2, g.sample.2));
  }
    where
      front_begins : (u w : List Leaf) → Begins starts false u → Begins starts false (u ++ w)
      front_begins u w b = let s = starts_of b in rw s.2 (something s.0 (s.1 ++ w) s.3)

-- ---- another meaning

module _ {A B : Type 0} (m : Limits) (f : A → B) (L : Language A) (p : Parser A) where
  mapped_meets : ((c : Counts) (ts : List Token) → Meets m L p c ts (p c ts)) → (c : Counts) (ts : List Token)
      → Meets m (Meaning f L) (mapped f p) c ts (mapped f p c ts)
  mapped_meets pm c ts = meets_by m (Meaning f L) p (mapped f p) f (λ w v h. (v, h, refl)) (λ w rest x e s. refl) (p c ts) (pm c ts)

  mapped_reads : (c : Counts) (w : List Leaf) (a : A) (rest : List Token) → Reads m p c w a rest → Reads m (mapped f p) c w (f a) rest
  mapped_reads c w a rest (reads d pay e) = reads d pay (rw e refl)
  mapped_reads c w a rest (passes k y l x d e n i s o) = passes k y l x d e n i (rw s refl) o

  pub parses_mapped : {starts on : Token → Bool} {nullable : Bool} → Parses m L p starts on nullable
      → Parses m (Meaning f L) (mapped f p) starts on nullable
  parses_mapped g = record {
    meets = mapped_meets g.meets;
    complete = λ c w v rest h clear. rw (← h.2) (mapped_reads c w h.0 rest (g.complete c w h.0 rest h.1 clear));
    begins = λ w v h. g.begins w h.0 h.1;
    sample = (g.sample.0, f g.sample.1, (g.sample.1, g.sample.2, refl));
  }

-- ---- one after the other, where the first may be empty

pub parses_null_then : {A B : Type 0} {m : Limits} {L : Language A} {M : Language B} {p : Parser A} {q : Parser B}
    {starts on starts' on' : Token → Bool} → (also goes_on : Token → Bool) → Parses m L p starts on true → Parses m M q starts' on' false
    → Apart starts' on → Widens starts also → Widens starts' also → Keeps goes_on on'
    → Parses m (Then L M) (followed_by p q) also goes_on false
parses_null_then {A} {B} {m} {L} {M} {p} {q} {starts} {on} {starts'} {on'} also goes_on f g apart wide wide' keeps' = record {
  meets = then_meets m L M p q g.sample.0 g.sample.1 g.sample.2 f.meets g.meets;
  complete = λ c w v rest h clear. rw h.2 (then_reads m L M p q c h.0 h.1 v.0 v.1 rest
      (f.complete c h.0 v.0 (tokens_of h.1 ++ rest) h.3 (next_clear on rest (g.begins h.1 v.1 h.4) (λ n. absurd cc) apart))
      (λ d. g.complete d h.1 v.1 rest h.4 (fewer on' goes_on rest keeps' clear)));
  begins = λ w v h. rw h.2 (both h.0 h.1 (f.begins h.0 v.0 h.3) (g.begins h.1 v.1 h.4));
  sample = (f.sample.0 ++ g.sample.0, (f.sample.1, g.sample.1), (f.sample.0, g.sample.0, refl, f.sample.2, g.sample.2));
}
  where
    both : (u w : List Leaf) → Begins starts true u → Begins starts' false w → Begins also false (u ++ w)
    both u w nothing b = wider wide' b
    both u w (something l others s) b = something l (others ++ w) (wide l.token s)
