-- What the parser does on the words of queries.
use Rattle.std.proofs.Common.{◌≡◌, ℕ, zero, suc, ◌+◌, ◌≤◌, false, List, [], ◌∷◌, ◌++◌, Option, Some, None, refl, sym, ap, ◌∙◌, append_assoc}
use Rattle.std.{proofs.{Common.arith, lemmas.List.{append-nil, map-append, append_cancel_right}}, specs.Option.option_and_then}
use Rattle.query_lang.specs.declared.{fault.{Span.Span, TheConstants.MAX_NESTING}, query.Item.Item, token.Token.Token}
use Rattle.query_grammar.specs.{declared.stop.{Counts.Counts, Stop.Stop}, Kinds.{kind, among}, Language.{Leaf, tokens_of}}
use Rattle.query_grammar.specs.{Grammar.{Query, Derives}, Reading.{query, item_starts}}
use Rattle.query_grammar.specs.declared.stop.Stop.TheVariants.{Unexpected, Nodes, Statements, Nesting}
use Rattle.query_grammar.specs.Parser.{no_counts, Limits, Limited, Unlimited, charge, Outcome, Done, Stopped}
use Rattle.query_grammar.specs.Fault.{opens, opened, closed, IsShallow, BeginsQuery, counted}
use Rattle.query_grammar.proofs.Parses.{Parses, Found, Halted, Meets, Reads, reads, passes, Stops, pays, pays-append}
use Rattle.query_grammar.proofs.{Nests.{Shallow, Level_is, reached_of, StopLevel, LevelMeets}, NestLines.nests_query, Depths.deeper_query}
use Rattle.query_grammar.proofs.GrammarLines.{Deeper, here, under, parses_unlimited, parses_limited}

abbrev pub Value : Type 0
Value = List Item × Span

-- ---- tokens have one meaning

read_of : (d : ℕ) (c : Counts) (leaves : List Leaf) (q : Value) → Query d leaves q → (e : Counts)
    × (query Unlimited d d c (tokens_of leaves) ≡ Done q e [])
read_of d c leaves q h = go ((parses_unlimited d).complete c leaves q [] h refl)
  where
    go : Reads Unlimited (query Unlimited d d) c leaves q [] → (e : Counts) × (query Unlimited d d c (tokens_of leaves) ≡ Done q e [])
    go (reads e pay r) = (e, ap (query Unlimited d d c) (sym (append-nil (tokens_of leaves))) ∙ r)
    go (passes k y l x d f n i s o) = absurd cc

pub one_meaning : (ts : List Token) (p q : Value) → Derives ts p → Derives ts q → p ≡ q
one_meaning ts p q f g =
    let n = f.0 + g.0 in
    let a = read_of n no_counts f.1 p ((deeper_query n f.0 (omega arith)).is f.1 p f.3) in
    let b = read_of n no_counts g.1 q ((deeper_query n g.0 (omega arith)).is g.1 q g.3) in
    let e : tokens_of f.1 ≡ tokens_of g.1 = f.2 ∙ sym g.2 in
    let r : query Unlimited n n no_counts (tokens_of f.1) ≡ Done q b.0 [] = ap (query Unlimited n n no_counts) e ∙ b.1 in
    same_done p q a.0 b.0 (sym a.1 ∙ r)
  where
    same_done : (p q : Value) (c d : Counts) → ◌≡◌ {A = Outcome Value} (Done p c []) (Done q d []) → p ≡ q
    same_done p q c d e = cc

-- ---- the parser with limits

over : ℕ → ℕ → ℕ
over zero k = suc k
over (suc e) k = suc (over e k)

deeper_at : (e k : ℕ) → Deeper e (over e k)
unfolding over
deeper_at zero k = here
deeper_at (suc e) k = under (deeper_at e k)

deeper_more : {e d : ℕ} → Deeper e d → Deeper e (suc d)
deeper_more (here {k}) = here {k = suc k}
deeper_more (under h) = under (deeper_more h)

deeper_less : (e k : ℕ) → Deeper e (over (suc e) k)
unfolding over
deeper_less e k = deeper_more (deeper_at e k)

over_le : (e k : ℕ) → k ≤ over e k
unfolding over
over_le zero k = omega arith
over_le (suc e) k = omega (arith, over_le e k)

-- a language with more brackets than the parser is given, and with k
pub depth : ℕ → ℕ
depth k = over 63 k

abbrev pub run : List Token → Outcome Value
run ts = query Limited 63 62 no_counts ts

limited : (k : ℕ) → Parses Limited (Query (depth k)) (query Limited 63 62) (among (item_starts ++ (3 ∷ []))) (among []) false
unfolding depth
limited k = parses_limited (deeper_at 63 k) (deeper_less 62 k)

depth_le : (k : ℕ) → k ≤ depth k
unfolding depth
depth_le k = over_le 63 k

-- what it gives, in the words of its language
abbrev pub IsMet : List Token → Outcome Value → Type 0
IsMet ts o = Meets Limited (Query (depth 0)) (query Limited 63 62) no_counts ts o

abbrev pub IsHalted : List Token → Stop → List Token → Type 0
IsHalted ts k rest = Halted Limited (Query (depth 0)) (query Limited 63 62) no_counts ts k rest

abbrev pub IsFound : List Token → Value → Counts → List Token → Type 0
IsFound ts q c rest = Found Limited (Query (depth 0)) (query Limited 63 62) no_counts ts q c rest

pub met : (ts : List Token) → IsMet ts (run ts)
met ts = (limited 0).meets no_counts ts

pub halted_of : (ts : List Token) (k : Stop) (rest : List Token) → run ts ≡ Stopped k rest → IsHalted ts k rest
halted_of ts k rest e = rw e at (met ts)

pub found_of : (ts : List Token) (q : Value) (c : Counts) (rest : List Token) → run ts ≡ Done q c rest → IsFound ts q c rest
found_of ts q c rest e = rw e at (met ts)

pub leveled : (ts : List Token) → LevelMeets 0 0 MAX_NESTING ts (run ts)
leveled ts = (nests_query 62).meets no_counts ts

stop_level : (ts : List Token) (k : Stop) (rest : List Token) → run ts ≡ Stopped k rest → StopLevel MAX_NESTING ts k rest
stop_level ts k rest e = rw e at (leveled ts)

done_level : (ts : List Token) (q : Value) (c : Counts) (rest : List Token) → run ts ≡ Done q c rest → Level_is 0 0 MAX_NESTING ts rest
done_level ts q c rest e = rw e at (leveled ts)

-- what is known of the brackets where it stops
abbrev pub StopFacts : Stop → List Token → Token → Type 0
StopFacts Unexpected front t = Unit {0}
StopFacts Nodes front t = Unit {0}
StopFacts Statements front t = Unit {0}
StopFacts Nesting front t = (opens (kind t) ≡ 1) × (opened front ≡ closed front + MAX_NESTING)

pub stop_facts : (front : List Token) (t : Token) (more : List Token) (k : Stop) → StopLevel MAX_NESTING (front ++ t ∷ more) k (t ∷ more)
    → StopFacts k front t
stop_facts front t more Unexpected n = tt
stop_facts front t more Nodes n = tt
stop_facts front t more Statements n = tt
stop_facts front t more Nesting n =
    let e : n.0.front ≡ front = append_cancel_right n.0.front front (t ∷ more) (sym n.0.split) in
    (n.1, omega (arith, n.0.net, ap opened e, ap closed e))

pub stop_shallow : (front rest : List Token) (k : Stop) → StopLevel MAX_NESTING (front ++ rest) k rest → Shallow MAX_NESTING 0 0 front
stop_shallow front rest k n = let r = reached_of MAX_NESTING (front ++ rest) k rest n in
    rw (← append_cancel_right r.front front rest (sym r.split)) r.shallow

-- what follows the fault changes nothing
pub same_stop : (front : List Token) (t : Token) (more other : List Token) (k : Stop) → run (front ++ t ∷ more) ≡ Stopped k (t ∷ more)
    → run (front ++ t ∷ other) ≡ Stopped k (t ∷ other)
same_stop front t more other k e =
    let h = halted_of (front ++ t ∷ more) k (t ∷ more) e in
    let f : tokens_of h.front ≡ front = append_cancel_right (tokens_of h.front) front (t ∷ more) (sym h.split) in
    ap (λ (x : List Token). run (x ++ t ∷ other)) (sym f) ∙ h.again (t ∷ other) (other, refl)

-- ---- on a query's word

pub tokens_cons : (u : List Leaf) (l : Leaf) (x : List Leaf) → tokens_of (u ++ l ∷ x) ≡ tokens_of u ++ l.token ∷ tokens_of x
tokens_cons u l x = map-append (λ (l : Leaf). l.token) u (l ∷ x)

-- the word is read whole, or the parser stops at one of its leaves
pub data Run (w : List Leaf) (q : Value) : Type 0 where
  whole : (d : Counts) → pays Limited no_counts w ≡ Some d → Shallow MAX_NESTING 0 0 (tokens_of w) → run (tokens_of w) ≡ Done q d []
      → Run w q
  halts : (k : Stop) (u : List Leaf) (l : Leaf) (x : List Leaf) (d : Counts) → w ≡ u ++ l ∷ x → pays Limited no_counts u ≡ Some d
      → Stops Limited k d l → StopFacts k (tokens_of u) l.token
      → Shallow MAX_NESTING 0 0 (tokens_of u) → run (tokens_of w) ≡ Stopped k (l.token ∷ tokens_of x) → Run w q

pub run_of : (d : ℕ) (w : List Leaf) (q : Value) → Query d w q → Run w q
run_of d w q h = go ((limited d).complete no_counts w q [] ((deeper_query (depth d) d (depth_le d)).is w q h) refl)
  where
    nil : run (tokens_of w) ≡ run (tokens_of w ++ [])
    nil = ap run (sym (append-nil (tokens_of w)))

    all : (c : Counts) → run (tokens_of w) ≡ Done q c [] → Shallow MAX_NESTING 0 0 (tokens_of w)
    all c e = let n = done_level (tokens_of w) q c [] e in rw (n.split ∙ append-nil n.front) n.shallow

    part : (k : Stop) (u : List Leaf) (l : Leaf) (x : List Leaf) (c : Counts) → w ≡ u ++ l ∷ x → pays Limited no_counts u ≡ Some c
        → Stops Limited k c l → run (tokens_of w) ≡ Stopped k (l.token ∷ tokens_of x) → Run w q
    part k u l x c e n i s =
        let ts : tokens_of w ≡ tokens_of u ++ l.token ∷ tokens_of x = ap tokens_of e ∙ tokens_cons u l x in
        let lv : StopLevel MAX_NESTING (tokens_of u ++ l.token ∷ tokens_of x) k (l.token ∷ tokens_of x) =
        stop_level (tokens_of u ++ l.token ∷ tokens_of x) k (l.token ∷ tokens_of x) (ap run (sym ts) ∙ s) in
        halts k u l x c e n i (stop_facts (tokens_of u) l.token (tokens_of x) k lv)
        (stop_shallow (tokens_of u) (l.token ∷ tokens_of x) k lv) s

    go : Reads Limited (query Limited 63 62) no_counts w q [] → Run w q
    go (reads c pay r) = whole c pay (all c (nil ∙ r)) (nil ∙ r)
    go (passes k u l x c e n i s o) = part k u l x c e n i (nil ∙ s ∙ ap (λ (y : List Token). Stopped k (l.token ∷ y))
        (append-nil (tokens_of x)))

-- ---- beginnings

pub begins_of : (d : ℕ) (u w : List Leaf) (q : Value) → Query d (u ++ w) q → BeginsQuery (tokens_of u)
begins_of d u w q h = (tokens_of w, q, (d, u ++ w, map-append (λ (l : Leaf). l.token) u w, h))

pub begins_front : (a b : List Token) → BeginsQuery (a ++ b) → BeginsQuery a
begins_front a b h = (b ++ h.0, h.1, rw (← append_assoc a b h.0) h.2)

-- ---- counts

pub pays_is : (m : Limits) (c : Counts) (leaves : List Leaf) → pays m c leaves ≡ counted m c leaves
pays_is m c [] = refl
pays_is m c (l ∷ leaves) = go (λ d. pays_is m d leaves) (charge m l.role c)
  where
    go : ((d : Counts) → pays m d leaves ≡ counted m d leaves) → (o : Option Counts)
        → option_and_then (λ d. pays m d leaves) o ≡ option_and_then (λ d. counted m d leaves) o
    go h None = refl
    go h (Some d) = h d

pays_stop : (c : Counts) (u : List Leaf) (l : Leaf) (x : List Leaf) (d z : Counts) → pays Limited c u ≡ Some d
    → charge Limited l.role d ≡ None → pays Limited c (u ++ l ∷ x) ≡ Some z → ⊥
pays_stop c u l x d z h k e =
    let n : pays Limited c (u ++ l ∷ x) ≡ None = pays-append Limited c u (l ∷ x) ∙ rw (h, k) refl in
    let y : None ≡ Some z = sym n ∙ e in absurd cc

-- in leaves that pass no limit, no leaf is one at which a limit is passed
pub no_stop : (k : Stop) (leaves u : List Leaf) (l : Leaf) (y : List Leaf) (c d : Counts) → leaves ≡ u ++ l ∷ y
    → pays Limited no_counts leaves ≡ Some c → IsShallow (tokens_of leaves)
    → pays Limited no_counts u ≡ Some d → Stops Limited k d l → StopFacts k (tokens_of u) l.token → ⊥
no_stop Unexpected leaves u l y c d e within shallow n i f = i
no_stop Nodes leaves u l y c d e within shallow n i f = pays_stop no_counts u l y d c n i.1 (ap (pays Limited no_counts) (sym e) ∙ within)
no_stop Statements leaves u l y c d e within shallow n i f = pays_stop no_counts u l y d c n i.1
    (ap (pays Limited no_counts) (sym e) ∙ within)
no_stop Nesting leaves u l y c d e within shallow n i f =
    let s = shallow (tokens_of u) (tokens_of y) l.token (ap tokens_of e ∙ tokens_cons u l y) f.0 in
    absurd (omega (arith, s, f.1))
