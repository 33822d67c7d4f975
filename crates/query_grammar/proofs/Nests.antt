-- How many brackets are open where a parser stops for one too many, and that it reads none that is one too many.
use Rattle.std.proofs.Common.{◌≡◌, ℕ, zero, suc, ◌+◌, ◌<◌, ◌≤◌, Bool, true, false, cond, eqb, List, [], ◌∷◌, ◌++◌, length, Option, Some}
use Rattle.std.proofs.{Common.{None, refl, sym, ap, subst, ◌∙◌, append_assoc, arith, inl, inr, ◌⊎◌}, lemmas.Bool.eqb-true}
use Rattle.query_lang.specs.declared.{fault.{Span.Span, TheConstants.MAX_NESTING}, token.{TokenKind.TokenKind, Token.Token}}
use Rattle.query_grammar.specs.{declared.stop.{Counts.Counts, Stop.Stop}, Grammar.Operators, Reading.{blocked, blocked_at}}
use Rattle.query_grammar.specs.{declared.stop.Stop.TheVariants.{Unexpected, Nodes, Statements, Nesting}, Language.{Language, Role, Plain}}
use Rattle.query_grammar.specs.Language.{Node, Statement, Opening, Word, Then, Repeated, AtMostOnce, Either, Meaning, Chained}
use Rattle.query_grammar.specs.Parser.{Limited, Outcome, Done, Stopped, Parser, charge, limit_of, paid, taken, word, and_then, followed_by}
use Rattle.query_grammar.specs.Parser.{mapped, next_is, at_most_once, either, repeated, linked, next_turn, chain_turns, chained}
use Rattle.query_grammar.specs.Kinds.{one_of, among, kind, kind_number, is, name, number, operator, kinds_of}
use Rattle.query_grammar.{specs.Fault.{opening, closing, opens, closes, opened, closed, IsShallow}, proofs.Parses.is_some_of}
use Rattle.query_grammar.proofs.{Repeats.{as_turn, turns_of, same_turns}, Lines.{disjoint, disjoint_is, less_left, less_right}}
use Rattle.query_grammar.proofs.LineParts.{is_kind, operator_kind, name_kind_of, number_kind_of}

opened-append : (xs ys : List Token) → opened (xs ++ ys) ≡ opened xs + opened ys
opened-append [] ys = omega arith
opened-append (x ∷ xs) ys = omega (arith, opened-append xs ys)

closed-append : (xs ys : List Token) → closed (xs ++ ys) ≡ closed xs + closed ys
closed-append [] ys = omega arith
closed-append (x ∷ xs) ys = omega (arith, closed-append xs ys)

-- after that many opened and closed brackets, none of these is open together with e others
abbrev pub Shallow : ℕ → ℕ → ℕ → List Token → Type 0
Shallow e o c [] = Unit {0}
Shallow e o c (t ∷ ts) = (opens (kind t) + o ≤ c + e) × Shallow e (o + opens (kind t)) (c + closes (kind t)) ts

shallow_shift : (e e' o c o' c' : ℕ) (ts : List Token) → o + c' + e' ≤ o' + c + e → Shallow e' o' c' ts → Shallow e o c ts
shallow_shift e e' o c o' c' [] le h = tt
shallow_shift e e' o c o' c' (t ∷ ts) le h = (
  omega (arith, h.0),
  shallow_shift e e' (o + opens (kind t)) (c + closes (kind t)) (o' + opens (kind t)) (c' + closes (kind t)) ts (omega arith) h.1,
)

shallow_append : (e o c : ℕ) (f g : List Token) → Shallow e o c f → Shallow e (o + opened f) (c + closed f) g → Shallow e o c (f ++ g)
shallow_append e o c [] g h k = shallow_shift e e o c (o + 0) (c + 0) g (omega arith) k
shallow_append e o c (t ∷ f) g h k = (
  h.0,
  shallow_append e (o + opens (kind t)) (c + closes (kind t)) f g h.1
      (shallow_shift e e (o + opens (kind t) + opened f) (c + closes (kind t) + closed f) (o + (opens (kind t) + opened f))
      (c + (closes (kind t) + closed f)) g (omega arith) k),
)

-- in the words of the definition
pub shallow_at : (o c : ℕ) (front more : List Token) (t : Token) → Shallow MAX_NESTING o c (front ++ t ∷ more) → opens (kind t) ≡ 1 → o
    + opened front < c + closed front + MAX_NESTING
shallow_at o c [] more t h e = omega (arith, h.0)
shallow_at o c (x ∷ front) more t h e = omega (arith, shallow_at (o + opens (kind x)) (c + closes (kind x)) front more t h.1 e)

pub shallow_is : (ts : List Token) → Shallow MAX_NESTING 0 0 ts → IsShallow ts
shallow_is ts h = λ front more t e o. omega (
  arith,
  shallow_at 0 0 front more t (rw (← e) h) o,
)

-- what was read opens that many brackets more than it closes, and none that would be one too many
pub record Level_is (up down e : ℕ) (ts rest : List Token) : Type 0 where
  pub front : List Token
  pub split : ts ≡ front ++ rest
  pub net : opened front + down ≡ closed front + up
  pub shallow : Shallow e 0 0 front

-- an opening bracket comes next
abbrev pub OpensNext : List Token → Type 0
OpensNext [] = ⊥
OpensNext (t ∷ ts) = opens (kind t) ≡ 1

-- what was read before a fault
pub record Reached (e : ℕ) (ts rest : List Token) : Type 0 where
  pub front : List Token
  pub split : ts ≡ front ++ rest
  pub shallow : Shallow e 0 0 front

abbrev pub StopLevel : ℕ → List Token → Stop → List Token → Type 0
StopLevel e ts Unexpected rest = Reached e ts rest
StopLevel e ts Nodes rest = Reached e ts rest
StopLevel e ts Statements rest = Reached e ts rest
StopLevel e ts Nesting rest = Level_is e 0 e ts rest × OpensNext rest

abbrev pub LevelMeets : {A : Type 0} → ℕ → ℕ → ℕ → List Token → Outcome A → Type 0
LevelMeets up down e ts (Done v c rest) = Level_is up down e ts rest
LevelMeets up down e ts (Stopped k rest) = StopLevel e ts k rest

-- (the language is an argument so that antt finds those of the lemmas)
pub record Nests {A : Type 0} (L : Language A) (p : Parser A) (up down e : ℕ) : Type 0 where
  pub meets : (c : Counts) (ts : List Token) → LevelMeets up down e ts (p c ts)

joined_shallow : (u d e e' : ℕ) (f g : List Token) → u + e' ≡ d + e → opened f + d ≡ closed f + u → Shallow e 0 0 f → Shallow e' 0 0 g
    → Shallow e 0 0 (f ++ g)
joined_shallow u d e e' f g h net s k = shallow_append e 0 0 f g s (shallow_shift e e' (0 + opened f) (0 + closed f) 0 0 g (omega arith) k)

joined : (u d u' d' e e' : ℕ) (ts mid rest : List Token) → u + e' ≡ d + e → Level_is u d e ts mid → Level_is u' d' e' mid rest
    → Level_is (u + u') (d + d') e ts rest
joined u d u' d' e e' ts mid rest h f g = record {
  front = f.front ++ g.front;
  split = f.split ∙ ap (λ (x : List Token). f.front ++ x) g.split ∙ sym (append_assoc f.front g.front rest);
  net = omega (arith, f.net, g.net, opened-append f.front g.front, closed-append f.front g.front);
  shallow = joined_shallow u d e e' f.front g.front h f.net f.shallow g.shallow;
}

reached_later : (u d e e' : ℕ) (ts mid rest : List Token) → u + e' ≡ d + e → Level_is u d e ts mid → Reached e' mid rest → Reached e ts rest
reached_later u d e e' ts mid rest h f g = record {
  front = f.front ++ g.front;
  split = f.split ∙ ap (λ (x : List Token). f.front ++ x) g.split ∙ sym (append_assoc f.front g.front rest);
  shallow = joined_shallow u d e e' f.front g.front h f.net f.shallow g.shallow;
}

changed : (u d u' d' e : ℕ) (ts rest : List Token) → u + d' ≡ u' + d → Level_is u d e ts rest → Level_is u' d' e ts rest
changed u d u' d' e ts rest h f = record { front = f.front; split = f.split; net = omega (arith, h, f.net); shallow = f.shallow }

stop_later : (u d e' e : ℕ) (ts mid : List Token) → u + e' ≡ d + e → Level_is u d e ts mid → (k : Stop) (rest : List Token)
    → StopLevel e' mid k rest → StopLevel e ts k rest
stop_later u d e' e ts mid h f Unexpected rest g = reached_later u d e e' ts mid rest h f g
stop_later u d e' e ts mid h f Nodes rest g = reached_later u d e e' ts mid rest h f g
stop_later u d e' e ts mid h f Statements rest g = reached_later u d e e' ts mid rest h f g
stop_later u d e' e ts mid h f Nesting rest g = (
  changed (u + e') (d + 0) e 0 e ts rest (omega arith) (joined u d e' 0 e e' ts mid rest h f g.0),
  g.1,
)

none_read : (e : ℕ) (ts : List Token) → Level_is 0 0 e ts ts
none_read e ts = record { front = []; split = refl; net = refl; shallow = tt }

none_reached : (e : ℕ) (ts : List Token) → Reached e ts ts
none_reached e ts = record { front = []; split = refl; shallow = tt }

pub reached_of : (e : ℕ) (ts : List Token) (k : Stop) (rest : List Token) → StopLevel e ts k rest → Reached e ts rest
reached_of e ts Unexpected rest g = g
reached_of e ts Nodes rest g = g
reached_of e ts Statements rest g = g
reached_of e ts Nesting rest g = record { front = g.0.front; split = g.0.split; shallow = g.0.shallow }

-- why a parser may stop at a token of this role
stop_here : (e : ℕ) (ts : List Token) (role : Role) → StopLevel e ts (limit_of role) ts
stop_here e ts Plain = none_reached e ts
stop_here e ts Node = none_reached e ts
stop_here e ts Statement = none_reached e ts
stop_here e ts Opening = none_reached e ts

nests_word : {A : Type 0} {role : Role} {takes : Token → Option A} {e : ℕ} → (up down : ℕ)
    → ((t : Token) (a : A) → takes t ≡ Some a → (opens (kind t) + down ≡ closes (kind t) + up) × (opens (kind t) ≤ e))
    → Nests (Word role takes) (word Limited role takes) up down e
nests_word {A} {role} {takes} {e} up down h = record { meets = λ c ts. meets c ts }
  where
    pay : (t : Token) (ts : List Token) (a : A) → takes t ≡ Some a → (o : Option Counts)
        → LevelMeets up down e (t ∷ ts) (paid role o a t ts)
    pay t ts a k None = stop_here e (t ∷ ts) role
    pay t ts a k (Some c) = let b = h t a k in record {
      front = t ∷ [];
      split = refl;
      net = omega (arith, b.0);
      shallow =
          (omega (arith, b.1), tt);
    }

    take : (c : Counts) (t : Token) (ts : List Token) → (o : Option A) → takes t ≡ o
        → LevelMeets up down e (t ∷ ts) (taken Limited role c o t ts)
    take c t ts None k = none_reached e (t ∷ ts)
    take c t ts (Some a) k = pay t ts a k (charge Limited role c)

    meets : (c : Counts) (ts : List Token) → LevelMeets up down e ts (word Limited role takes c ts)
    meets c [] = none_reached e []
    meets c (t ∷ ts) = take c t ts (takes t) refl

pub nests_then : {A B : Type 0} {L : Language A} {M : Language B} {p : Parser A} {q : Parser B} {u d u' d' e' e : ℕ}
    → Nests L p u d e → Nests M q u' d' e' → u + e' ≡ d + e → Nests (Then L M) (followed_by p q) (u + u') (d + d') e
nests_then {A} {B} {L} {M} {p} {q} {u} {d} {u'} {d'} {e'} {e} f g h = record { meets = λ c ts. first ts (p c ts) (f.meets c ts) }
  where
    second : (ts : List Token) (a : A) (mid : List Token) → Level_is u d e ts mid → (o : Outcome B) → LevelMeets u' d' e' mid o
        → LevelMeets {A = A × B} (u + u') (d + d') e ts (and_then o (λ b c rest. Done (a, b) c rest))
    second ts a mid l (Done b c rest) k = joined u d u' d' e e' ts mid rest h l k
    second ts a mid l (Stopped k rest) m = stop_later u d e' e ts mid h l k rest m

    first : (ts : List Token) (o : Outcome A) → LevelMeets u d e ts o → LevelMeets {A = A × B} (u + u') (d + d') e ts
        (and_then o (λ a c' rest. and_then (q c' rest) (λ b c'' rest'. Done (a, b) c'' rest')))
    first ts (Done a c mid) l = second ts a mid l (q c mid) (g.meets c mid)
    first ts (Stopped k rest) l = l

pub nests_both : {A B : Type 0} {L : Language A} {M : Language B} {p : Parser A} {q : Parser B} {e : ℕ} → Nests L p 0 0 e → Nests M q 0 0 e
    → Nests (Then L M) (followed_by p q) 0 0 e
nests_both f g = nests_then f g refl

pub nests_level : {A : Type 0} {L : Language A} {p : Parser A} {u d e : ℕ} → (u' d' : ℕ) → u + d' ≡ u' + d → Nests L p u d e
    → Nests L p u' d' e
nests_level {A} {L} {p} {u} {d} {e} u' d' h f = record { meets = λ c ts. go ts (p c ts) (f.meets c ts) }
  where
    go : (ts : List Token) (o : Outcome A) → LevelMeets u d e ts o → LevelMeets u' d' e ts o
    go ts (Done a c rest) l = changed u d u' d' e ts rest h l
    go ts (Stopped k rest) l = l

pub nests_mapped : {A B : Type 0} {f : A → B} {L : Language A} {p : Parser A} {u d e : ℕ} → Nests L p u d e
    → Nests (Meaning f L) (mapped f p) u d e
nests_mapped {A} {B} {f} {L} {p} {u} {d} {e} g = record { meets = λ c ts. go ts (p c ts) (g.meets c ts) }
  where
    go : (ts : List Token) (o : Outcome A) → LevelMeets u d e ts o → LevelMeets u d e ts (and_then o (λ a c' rest. Done (f a) c' rest))
    go ts (Done a c rest) l = l
    go ts (Stopped k rest) l = l

pub nests_either : {A : Type 0} {L M : Language A} {p q : Parser A} {u d e : ℕ} → (test : Token → Bool) → Nests L p u d e
    → Nests M q u d e → Nests (Either L M) (either test p q) u d e
nests_either {A} {L} {M} {p} {q} {u} {d} {e} test f g = record { meets = λ c ts. go c ts (next_is test ts) }
  where
    go : (c : Counts) (ts : List Token) (b : Bool) → LevelMeets u d e ts (cond b (p c ts) (q c ts))
    go c ts true = f.meets c ts
    go c ts false = g.meets c ts

pub nests_once : {A : Type 0} {L : Language A} {p : Parser A} {e : ℕ} → (test : Token → Bool) → Nests L p 0 0 e
    → Nests (AtMostOnce L) (at_most_once test p) 0 0 e
nests_once {A} {L} {p} {e} test f = record { meets = λ c ts. go c ts (next_is test ts) }
  where
    some : (ts : List Token) (o : Outcome A) → LevelMeets 0 0 e ts o → LevelMeets 0 0 e ts (and_then o (λ a c' rest. Done (Some a) c' rest))
    some ts (Done a c rest) l = l
    some ts (Stopped k rest) l = l

    go : (c : Counts) (ts : List Token) (b : Bool) → LevelMeets 0 0 e ts
        (cond b (and_then (p c ts) (λ a c' rest. Done (Some a) c' rest)) (Done None c ts))
    go c ts true = some ts (p c ts) (f.meets c ts)
    go c ts false = none_read e ts

nests_chain_turns : {A B : Type 0} {T : Language (A ⊎ B)} {p : Parser (A ⊎ B)} {e : ℕ} → (test : Token → Bool) (n : ℕ)
    → Nests T p 0 0 e → Nests (Chained T) (chain_turns n test p) 0 0 e
nests_chain_turns {A} {B} {T} {p} {e} test zero f = record { meets = λ c ts. none_read e ts }
nests_chain_turns {A} {B} {T} {p} {e} test (suc n) f = let g = nests_chain_turns test n f in record
    { meets = λ c ts. go g c ts (next_is test ts) }
  where
    second : (ts : List Token) (a : A) (mid : List Token) → Level_is 0 0 e ts mid → (o : Outcome (List A × Option B))
        → LevelMeets 0 0 e mid o → LevelMeets 0 0 e ts (linked a o)
    second ts a mid l (Done b c rest) k = joined 0 0 0 0 e e ts mid rest refl l k
    second ts a mid l (Stopped k rest) m = stop_later 0 0 e e ts mid refl l k rest m

    first : Nests (Chained T) (chain_turns n test p) 0 0 e → (ts : List Token) (o : Outcome (A ⊎ B)) → LevelMeets 0 0 e ts o
        → LevelMeets 0 0 e ts (and_then o (next_turn (chain_turns n test p)))
    first g ts (Done (inl a) c mid) l = second ts a mid l (chain_turns n test p c mid) (g.meets c mid)
    first g ts (Done (inr b) c mid) l = l
    first g ts (Stopped k rest) l = l

    go : Nests (Chained T) (chain_turns n test p) 0 0 e → (c : Counts) (ts : List Token) (b : Bool)
        → LevelMeets 0 0 e ts (cond b (and_then (p c ts) (next_turn (chain_turns n test p))) (Done ([], None) c ts))
    go g c ts true = first g ts (p c ts) (f.meets c ts)
    go g c ts false = none_read e ts

pub nests_chained : {A B : Type 0} {T : Language (A ⊎ B)} {p : Parser (A ⊎ B)} {e : ℕ} → (test : Token → Bool) → Nests T p 0 0 e
    → Nests (Chained T) (chained test p) 0 0 e
nests_chained {A} {B} {T} {p} {e} test f = record { meets = λ c ts. (nests_chain_turns test (length ts) f).meets c ts }

-- a parser any number of times is a chain
pub nests_repeated : {A : Type 0} {L : Language A} {p : Parser A} {e : ℕ} → (test : Token → Bool) → Nests L p 0 0 e
    → Nests (Repeated L) (repeated test p) 0 0 e
nests_repeated {A} {L} {p} {e} test f = record {
  meets = λ c ts. subst (λ (o : Outcome (List A)). LevelMeets 0 0 e ts o) (sym (same_turns test p (length ts) c ts))
      ((nests_mapped {f = turns_of} (nests_chained test (nests_mapped {f = as_turn} {L = L} f))).meets c ts);
}

-- ---- words

-- the kind of a token that is among one kind
one_kind : (k : TokenKind) (t : Token) (span : Span) → is k t ≡ Some span → kind t ≡ kind_number k
one_kind k t span h = go (eqb (kind t) (kind_number k)) refl (is_kind k t (ap is_some_of h))
  where
    go : (b : Bool) → eqb (kind t) (kind_number k) ≡ b → cond b true false ≡ true → kind t ≡ kind_number k
    go true e h = eqb-true (kind t) (kind_number k) e
    go false e h = absurd cc

flat : (ks : List ℕ) (n : ℕ) → disjoint ks (opening ++ closing) ≡ true → one_of ks n ≡ true → (opens n ≡ 0) × (closes n ≡ 0)
flat ks n d h =
    let other = disjoint_is ks (opening ++ closing) n d h in
    let a : one_of opening n ≡ false = less_left opening closing n other in
    let b : one_of closing n ≡ false = less_right opening closing n other in
    (ap (λ (x : Bool). cond x 1 0) a, ap (λ (x : Bool). cond x 1 0) b)

nests_flat : {A : Type 0} {role : Role} {takes : Token → Option A} {e : ℕ} → (ks : List ℕ) → disjoint ks (opening ++ closing) ≡ true
    → ((t : Token) → is_some_of (takes t) ≡ true → among ks t ≡ true) → Nests (Word role takes) (word Limited role takes) 0 0 e
nests_flat {A} {role} {takes} {e} ks d s = nests_word 0 0 (λ t a h. let b =
    flat ks (kind t) d (s t (ap is_some_of h)) in (omega (arith, b.0, b.1), omega (arith, b.0)))

pub nests_is : {role : Role} {e : ℕ} → (k : TokenKind) → opens (kind_number k) ≤ e
    → Nests (Word role (is k)) (word Limited role (is k)) (opens (kind_number k)) (closes (kind_number k)) e
nests_is {role} {e} k le = nests_word (opens (kind_number k)) (closes (kind_number k)) (λ t a h.
    let same = one_kind k t a h in
    let o : opens (kind t) ≡ opens (kind_number k) = ap opens same in
    let c : closes (kind t) ≡ closes (kind_number k) = ap closes same in
    (omega (arith, o, c), omega (arith, o, le)))

pub nests_keyword : {role : Role} {e : ℕ} → (k : TokenKind) → disjoint (kind_number k ∷ []) (opening ++ closing) ≡ true
    → Nests (Word role (is k)) (word Limited role (is k)) 0 0 e
nests_keyword k d = nests_flat (kind_number k ∷ []) d (is_kind k)

pub nests_operator : {role : Role} {e : ℕ} → (ops : Operators) → disjoint (kinds_of ops) (opening ++ closing) ≡ true
    → Nests (Word role (operator ops)) (word Limited role (operator ops)) 0 0 e
nests_operator ops d = nests_flat (kinds_of ops) d (operator_kind ops)

pub nests_name : {role : Role} {e : ℕ} → Nests (Word role name) (word Limited role name) 0 0 e
nests_name = nests_flat (0 ∷ []) refl (λ t h. name_kind_of t.kind t.span h)

pub nests_number : {role : Role} {e : ℕ} → Nests (Word role number) (word Limited role number) 0 0 e
nests_number = nests_flat (1 ∷ []) refl (λ t h. number_kind_of t.kind t.span h)

pub nests_blocked : {A : Type 0} → (L : Language A) (k : TokenKind) → opens (kind_number k) ≡ 1 → Nests L (blocked k) 0 0 0
nests_blocked {A} L k bracket = record { meets = λ c ts. meets c ts }
  where
    go : (u : Token) (ts : List Token) (o : Option Span) → is k u ≡ o → LevelMeets {A = A} 0 0 0 (u ∷ ts) (blocked_at o (u ∷ ts))
    go u ts None h = none_reached 0 (u ∷ ts)
    go u ts (Some x) h = (none_read 0 (u ∷ ts), ap opens (one_kind k u x h) ∙ bracket)

    meets : (c : Counts) (ts : List Token) → LevelMeets {A = A} 0 0 0 ts (blocked k c ts)
    meets c [] = none_reached 0 []
    meets c (u ∷ ts) = go u ts (is k u) refl
