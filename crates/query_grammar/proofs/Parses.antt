-- What it means that a parser meets a language, and that the parser of one token does.
use Rattle.std.proofs.Common.{◌≡◌, Bool, true, false, List, [], ◌∷◌, ◌++◌, Option, Some, None, refl, sym, ap, subst, ◌∙◌}
use Rattle.std.{proofs.{Common.append_assoc, lemmas.List.map-append}, specs.Option.option_and_then}
use Rattle.query_lang.specs.declared.token.Token.{Token}
use Rattle.query_grammar.specs.Language.{Language, Role, Plain, Node, Statement, Opening, Leaf, tokens_of, Word}
use Rattle.query_grammar.specs.declared.stop.{Counts.Counts, Stop.{Stop, TheVariants.{Unexpected, Nodes, Statements, Nesting}}}
use Rattle.query_grammar.specs.Parser.{Limits, Limited, Unlimited, charge, limit_of, Outcome, Done, Stopped, Parser, paid, taken, word}
use Rattle.query_grammar.specs.Parser.{and_then, mapped, next_is}

-- what the kinds of tokens that tests take have to do with one another
abbrev pub Apart : (Token → Bool) → (Token → Bool) → Type 0
Apart test on = (t : Token) → test t ≡ true → on t ≡ false

abbrev pub Keeps : (Token → Bool) → (Token → Bool) → Type 0
Keeps goes_on on = (t : Token) → goes_on t ≡ false → on t ≡ false

abbrev pub Widens : (Token → Bool) → (Token → Bool) → Type 0
Widens starts also = (t : Token) → starts t ≡ true → also t ≡ true

-- the same next token
abbrev pub SameNext : List Token → List Token → Type 0
SameNext [] x = x ≡ []
SameNext (t ∷ ts) x = (more : List Token) × (x ≡ t ∷ more)

-- the counts after a word, or None where it passes a limit
abbrev pub pays : Limits → Counts → List Leaf → Option Counts
pays m c [] = Some c
pays m c (l ∷ w) = option_and_then (λ d. pays m d w) (charge m l.role c)

pub pays-append : (m : Limits) (c : Counts) (w x : List Leaf) → pays m c (w ++ x) ≡ option_and_then (λ d. pays m d x) (pays m c w)
pays-append m c [] x = refl
pays-append m c (l ∷ w) x = go (λ d. pays-append m d w x) (charge m l.role c)
  where
    go : ((d : Counts) → pays m d (w ++ x) ≡ option_and_then (λ e. pays m e x) (pays m d w)) → (o : Option Counts)
        → option_and_then (λ d. pays m d (w ++ x)) o ≡ option_and_then (λ d. pays m d x) (option_and_then (λ d. pays m d w) o)
    go h None = refl
    go h (Some d) = h d

pub pays_both : (m : Limits) (c d e : Counts) (w x : List Leaf) → pays m c w ≡ Some d → pays m d x ≡ Some e → pays m c (w ++ x) ≡ Some e
pays_both m c d e w x p q = pays-append m c w x ∙ rw p q

pub tokens-append : (w x : List Leaf) (rest : List Token) → tokens_of (w ++ x) ++ rest ≡ tokens_of w ++ (tokens_of x ++ rest)
tokens-append w x rest = ap (λ (ts : List Token). ts ++ rest) (map-append (λ (l : Leaf). l.token) w x)
    ∙ append_assoc (tokens_of w) (tokens_of x) rest

-- what the parser read is a word of the language, and it looked no further than the next token
pub record Found {A : Type 0} (m : Limits) (L : Language A) (p : Parser A) (c : Counts) (ts : List Token) (v : A) (d : Counts)
    (rest : List Token) : Type 0 where
  pub front : List Leaf
  pub split : ts ≡ tokens_of front ++ rest
  pub means : L front v
  pub pays : pays m c front ≡ Some d
  pub again : (x : List Token) → SameNext rest x → p c (tokens_of front ++ x) ≡ Done v d x

-- why a token isn't read: it passes a limit
abbrev pub Stops : Limits → Stop → Counts → Leaf → Type 0
Stops m Unexpected d l = ⊥
Stops m Nodes d l = (l.role ≡ Node) × (charge m l.role d ≡ None)
Stops m Statements d l = (l.role ≡ Statement) × (charge m l.role d ≡ None)
Stops m Nesting d l = l.role ≡ Plain

abbrev pub StopsFirst : Limits → Stop → Counts → List Leaf → List Token → Type 0
StopsFirst m k d more rest = (l : Leaf) × (others : List Leaf) × (ts : List Token) × (more ≡ l ∷ others) × (rest ≡ l.token ∷ ts)
    × Stops m k d l

-- why it stopped: the first token passes a limit, and else nothing is said
abbrev pub Cause : Limits → Stop → Counts → List Leaf → List Token → Type 0
Cause m Unexpected d more rest = Unit {0}
Cause m Nodes d more rest = StopsFirst m Nodes d more rest
Cause m Statements d more rest = StopsFirst m Statements d more rest
Cause m Nesting d more rest = StopsFirst m Nesting d more rest

-- what the parser read before the fault begins a word of the language, and it looked no further than the fault
pub record Halted {A : Type 0} (m : Limits) (L : Language A) (p : Parser A) (c : Counts) (ts : List Token) (k : Stop)
    (rest : List Token) : Type 0 where
  pub front : List Leaf
  pub split : ts ≡ tokens_of front ++ rest
  pub counts : Counts
  pub pays : pays m c front ≡ Some counts
  pub more : List Leaf
  pub value : A
  pub begins : L (front ++ more) value
  pub cause : Cause m k counts more rest
  pub again : (x : List Token) → SameNext rest x → p c (tokens_of front ++ x) ≡ Stopped k x

abbrev pub Meets : {A : Type 0} → Limits → (Language A) → Parser A → Counts → List Token → Outcome A → Type 0
Meets m L p c ts (Done v d rest) = Found m L p c ts v d rest
Meets m L p c ts (Stopped k rest) = Halted m L p c ts k rest

abbrev pub IsLimit : Stop → Type 0
IsLimit Unexpected = ⊥
IsLimit Nodes = Unit {0}
IsLimit Statements = Unit {0}
IsLimit Nesting = Unit {0}

pub stops_limit : (m : Limits) (k : Stop) (d : Counts) (l : Leaf) → Stops m k d l → IsLimit k
stops_limit m Unexpected d l h = h
stops_limit m Nodes d l h = tt
stops_limit m Statements d l h = tt
stops_limit m Nesting d l h = tt

-- a word is read, unless one of its own leaves passes a limit
pub data Reads {A : Type 0} (m : Limits) (p : Parser A) (c : Counts) (w : List Leaf) (v : A) (rest : List Token) : Type 0 where
  reads : (d : Counts) → pays m c w ≡ Some d → p c (tokens_of w ++ rest) ≡ Done v d rest → Reads m p c w v rest
  passes : (k : Stop) (u : List Leaf) (l : Leaf) (x : List Leaf) (d : Counts) → w ≡ u ++ l ∷ x → pays m c u ≡ Some d → Stops m k d l
      → p c (tokens_of w ++ rest) ≡ Stopped k (l.token ∷ (tokens_of x ++ rest)) → m ≡ Limited → Reads m p c w v rest

pub data Begins (starts : Token → Bool) : Bool → List Leaf → Type 0 where
  nothing : Begins starts true []
  something : {nullable : Bool} → (l : Leaf) → (others : List Leaf) → starts l.token ≡ true → Begins starts nullable (l ∷ others)

-- the parser meets the language. Its words begin with tokens of `starts`; it reads on at tokens of `goes_on`
pub record Parses {A : Type 0} (m : Limits) (L : Language A) (p : Parser A) (starts goes_on : Token → Bool) (nullable : Bool) : Type 0 where
  pub meets : (c : Counts) (ts : List Token) → Meets m L p c ts (p c ts)
  pub complete : (c : Counts) (w : List Leaf) (v : A) (rest : List Token) → L w v → next_is goes_on rest ≡ false → Reads m p c w v rest
  pub begins : (w : List Leaf) (v : A) → L w v → Begins starts nullable w
  pub sample : (w : List Leaf) × (v : A) × L w v

-- ---- the next token

pub next_of : (w : List Leaf) (rest x y : List Token) → y ≡ tokens_of w ++ rest → SameNext rest x → SameNext y (tokens_of w ++ x)
next_of [] rest x y h s = rw h s
next_of (l ∷ w) rest x y h s = rw h (tokens_of w ++ x, refl)

pub same_next : (test : Token → Bool) (ts x : List Token) → SameNext ts x → next_is test x ≡ next_is test ts
same_next test [] x s = rw s refl
same_next test (t ∷ ts) x s = rw s.1 refl

pub starts_of : {starts : Token → Bool} {w : List Leaf} → Begins starts false w → (l : Leaf) × (others : List Leaf) × (w ≡ l ∷ others)
    × (starts l.token ≡ true)
starts_of (something l others s) = (l, others, refl, s)

pub next_starts : {starts : Token → Bool} {w : List Leaf} (rest : List Token) → Begins starts false w
    → next_is starts (tokens_of w ++ rest) ≡ true
next_starts rest (something l others s) = s

pub next_clear : {starts : Token → Bool} {nullable : Bool} {w : List Leaf} (test : Token → Bool) (rest : List Token)
    → Begins starts nullable w → (nullable ≡ true → next_is test rest ≡ false) → Apart starts test
    → next_is test (tokens_of w ++ rest) ≡ false
next_clear test rest nothing h a = h refl
next_clear test rest (something l others s) h a = a l.token s

pub fewer : (test on : Token → Bool) (rest : List Token) → Keeps on test → next_is on rest ≡ false → next_is test rest ≡ false
fewer test on [] h e = refl
fewer test on (t ∷ ts) h e = h t e

pub wider : {starts also : Token → Bool} {nullable : Bool} {w : List Leaf} → Widens starts also
    → Begins starts nullable w → Begins also nullable w
wider h nothing = nothing
wider h (something l others s) = something l others (h l.token s)

pub limited_of : (m : Limits) (r : Role) (c : Counts) → charge m r c ≡ None → m ≡ Limited
limited_of Limited r c e = refl
limited_of Unlimited Plain c e = absurd cc
limited_of Unlimited Node c e = absurd cc
limited_of Unlimited Statement c e = absurd cc
limited_of Unlimited Opening c e = absurd cc

first_more : (m : Limits) (k : Stop) (d : Counts) (more also : List Leaf) (rest : List Token) → StopsFirst m k d more rest
    → StopsFirst m k d (more ++ also) rest
first_more m k d more also rest h = (h.0, h.1 ++ also, h.2, ap (λ (x : List Leaf). x ++ also) h.3, h.4, h.5)

pub cause_more : (m : Limits) (k : Stop) (d : Counts) (more also : List Leaf) (rest : List Token) → Cause m k d more rest
    → Cause m k d (more ++ also) rest
cause_more m Unexpected d more also rest h = tt
cause_more m Nodes d more also rest h = first_more m Nodes d more also rest h
cause_more m Statements d more also rest h = first_more m Statements d more also rest h
cause_more m Nesting d more also rest h = first_more m Nesting d more also rest h

-- a token whose role passes a limit
charge_stops : (m : Limits) (role : Role) (c : Counts) (t : Token) → charge m role c ≡ None
    → Stops m (limit_of role) c (record { role = role; token = t })
charge_stops m Plain c t e = absurd cc
charge_stops m Opening c t e = absurd cc
charge_stops m Node c t e = (refl, e)
charge_stops m Statement c t e = (refl, e)

stops_cause : (m : Limits) (k : Stop) (c : Counts) (l : Leaf) (others : List Leaf) (ts : List Token) → Stops m k c l
    → Cause m k c (l ∷ others) (l.token ∷ ts)
stops_cause m Unexpected c l others ts h = tt
stops_cause m Nodes c l others ts h = (l, others, ts, refl, refl, h)
stops_cause m Statements c l others ts h = (l, others, ts, refl, refl, h)
stops_cause m Nesting c l others ts h = (l, others, ts, refl, refl, h)

-- where a parser stops before it has read anything
pub halts_here : {A : Type 0} {m : Limits} {L : Language A} {p : Parser A} {c : Counts} {ts : List Token} (k : Stop) (more : List Leaf)
    (value : A) → L more value → Cause m k c more ts → ((x : List Token) → SameNext ts x → p c x ≡ Stopped k x) → Halted m L p c ts k ts
halts_here {c = c} k more value begins cause again = record {
  front = [];
  split = refl;
  counts = c;
  pays = refl;
  more = more;
  value = value;
  begins = begins;
  cause = cause;
  again = again;
}

-- ---- one token

abbrev pub is_some_of : {A : Type 0} → Option A → Bool
is_some_of None = false
is_some_of (Some a) = true

module _ {A : Type 0} (m : Limits) (role : Role) (takes : Token → Option A) where
  word_charged : (c : Counts) (t : Token) (ts : List Token) (a : A) → takes t ≡ Some a → (o : Option Counts) → charge m role c ≡ o
      → Meets m (Word role takes) (word m role takes) c (t ∷ ts) (paid role o a t ts)
  word_charged c t ts a h None e = halts_here (limit_of role) (record { role = role; token = t } ∷ []) a (t, refl, h)
      (stops_cause m (limit_of role) c (record { role = role; token = t }) [] ts (charge_stops m role c t e)) (λ x s. rw (s.1, h, e) refl)
  word_charged c t ts a h (Some d) e = record {
    front = record { role = role; token = t } ∷ [];
    split = refl;
    means = (t, refl, h);
    pays = rw e refl;
    again = λ x s. rw (h, e) refl;
  }

  word_meets : (t0 : Token) (a0 : A) → takes t0 ≡ Some a0 → (c : Counts) (ts : List Token)
      → Meets m (Word role takes) (word m role takes) c ts (word m role takes c ts)
  word_meets t0 a0 h0 c [] = halts_here Unexpected (record { role = role; token = t0 } ∷ []) a0 (t0, refl, h0) tt (λ x s. rw s refl)
  word_meets t0 a0 h0 c (t ∷ ts) = go (takes t) refl
    where
      go : (o : Option A) → takes t ≡ o → Meets m (Word role takes) (word m role takes) c (t ∷ ts) (taken m role c o t ts)
      go None h = halts_here Unexpected (record { role = role; token = t0 } ∷ []) a0 (t0, refl, h0) tt (λ x s. rw (s.1, h) refl)
      go (Some a) h = word_charged c t ts a h (charge m role c) refl

  word_complete : (c : Counts) (w : List Leaf) (v : A) (rest : List Token) → Word role takes w v → Reads m (word m role takes) c w v rest
  word_complete c w v rest h = rw h.1 (go (charge m role c) refl)
    where
      go : (o : Option Counts) → charge m role c ≡ o → Reads m (word m role takes) c (record { role = role; token = h.0 } ∷ []) v rest
      go None e = passes (limit_of role) [] (record { role = role; token = h.0 }) [] c refl refl (charge_stops m role c h.0 e)
          (rw (h.2, e) refl) (limited_of m role c e)
      go (Some d) e = reads d (rw e refl) (rw (h.2, e) refl)

  pub parses_word : (goes_on : Token → Bool) (t0 : Token) (a0 : A) → takes t0 ≡ Some a0
      → Parses m (Word role takes) (word m role takes) (λ t. is_some_of (takes t)) goes_on false
  parses_word goes_on t0 a0 h0 = record {
    meets = word_meets t0 a0 h0;
    complete = λ c w v rest h clear. word_complete c w v rest h;
    begins = λ w v h. rw h.1 (something (record { role = role; token = h.0 }) [] (ap is_some_of h.2));
    sample = (record { role = role; token = t0 } ∷ [], a0, (t0, refl, h0));
  }

-- ---- another parser

-- where another parser gives the same with other values, in a language that has these words with meanings of these values
pub meets_by : {A B : Type 0} {L : Language A} (m : Limits) (M : Language B) (p : Parser A) (q : Parser B) (f : A → B) {c : Counts}
    {ts : List Token} → ((w : List Leaf) (v : A) → L w v → M w (f v))
    → ((w : List Leaf) (rest x : List Token) → ts ≡ tokens_of w ++ rest → SameNext rest x
    → q c (tokens_of w ++ x) ≡ mapped f p c (tokens_of w ++ x))
    → (o : Outcome A) → Meets m L p c ts o → Meets m M q c ts (and_then o (λ v d rest. Done (f v) d rest))
meets_by m M p q f to same (Done v d rest) h = record {
  front = h.front;
  split = h.split;
  means = to h.front v h.means;
  pays = h.pays;
  again = λ x s. same h.front rest x h.split s ∙ rw (h.again x s) refl;
}
meets_by m M p q f to same (Stopped k rest) h = record {
  front = h.front;
  split = h.split;
  counts = h.counts;
  pays = h.pays;
  more = h.more;
  value = f h.value;
  begins = to (h.front ++ h.more) h.value h.begins;
  cause = h.cause;
  again = λ x s. same h.front rest x h.split s ∙ rw (h.again x s) refl;
}

-- and with the same values
pub meets_as : {A : Type 0} {L M : Language A} (m : Limits) (p q : Parser A) {c : Counts} {ts : List Token}
    → ((w : List Leaf) (v : A) → L w v → M w v) → ((w : List Leaf) (rest x : List Token) → ts ≡ tokens_of w ++ rest → SameNext rest x
    → q c (tokens_of w ++ x) ≡ p c (tokens_of w ++ x)) → (o : Outcome A) → Meets m L p c ts o → Meets m M q c ts o
meets_as {A} {M = M} m p q {c} {ts} to same o h = subst (λ x. Meets m M q c ts x) (whole o)
    (meets_by m M p q (λ v. v) to (λ w rest x e s. same w rest x e s ∙ sym (whole (p c (tokens_of w ++ x)))) o h)
  where
    whole : (o : Outcome A) → and_then o (λ v d rest. Done v d rest) ≡ o
    whole (Done v d rest) = refl
    whole (Stopped k rest) = refl

-- ---- more kinds

pub parses_wider : {A : Type 0} {m : Limits} {L : Language A} {p : Parser A} {starts on : Token → Bool} {nullable : Bool}
    → (also : Token → Bool) → Widens starts also → Parses m L p starts on nullable → Parses m L p also on nullable
parses_wider also h f = record { meets = f.meets; complete = f.complete; begins = λ w v l. wider h (f.begins w v l); sample = f.sample }

pub parses_wider_on : {A : Type 0} {m : Limits} {L : Language A} {p : Parser A} {starts on : Token → Bool} {nullable : Bool}
    → (also : Token → Bool) → Keeps also on → Parses m L p starts on nullable → Parses m L p starts also nullable
parses_wider_on {A} {m} {L} {p} {starts} {on} also h f = record {
  meets = f.meets;
  complete =
      λ c w v rest l clear. f.complete c w v rest l (fewer on also rest h clear);
  begins = f.begins;
  sample = f.sample;
}
