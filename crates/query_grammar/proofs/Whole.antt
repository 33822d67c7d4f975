-- What the grammar says is what parsing gives.
use Rattle.std.proofs.Common.{◌≡◌, ℕ, suc, ◌≤◌, List, [], ◌∷◌, ◌++◌, length, Some, None, refl, sym, ap, ◌∙◌, append_assoc, arith}
use Rattle.std.proofs.lemmas.{List.{append-nil, map-append, length-append}, Bool.le-ltb}
use Rattle.query_lang.specs.declared.{token.Token.Token, fault.TheConstants.{MAX_NODES, MAX_STATEMENTS}}
use Rattle.query_grammar.specs.{declared.stop.{Counts.Counts, Stop.Stop}, Grammar.Query, Reading.{all_read, parsed}}
use Rattle.query_grammar.specs.declared.stop.Stop.TheVariants.{Unexpected, Nodes, Statements, Nesting}
use Rattle.query_grammar.specs.Language.{Role, Plain, Node, Statement, Opening, Leaf, tokens_of}
use Rattle.query_grammar.specs.Parser.{no_counts, Limited, charge, Outcome, Done, Stopped}
use Rattle.query_grammar.specs.Fault.{IsShallow, BeginsQuery, IsSound, IsGrammatical, StandsAt, IsAccepted}
use Rattle.query_grammar.proofs.{Parses.{Stops, StopsFirst, Cause, pays}, Nests.shallow_is}
use Rattle.query_grammar.proofs.{Splits.{Place, inside, at_end, beyond, place, head_is, tail_is}, Runs.{IsHalted, IsFound, Value, depth}}
use Rattle.query_grammar.proofs.Runs.{run, halted_of, found_of, StopFacts, same_stop, tokens_cons, Run, whole, halts, run_of, begins_of}
use Rattle.query_grammar.proofs.{Runs.{begins_front, pays_is, no_stop}, Parsed.{done_or_stopped, same_place, no_more}}

-- ---- backwards

pub accepted_parsed : (ts : List Token) (q : Value) → IsAccepted ts q → (c : Counts) × (parsed ts ≡ Done q c [])
accepted_parsed ts q a = go (run_of a.depth a.leaves q a.means)
  where
    shallow : IsShallow (tokens_of a.leaves)
    shallow = rw a.tokens a.shallow

    go : Run a.leaves q → (c : Counts) × (parsed ts ≡ Done q c [])
    go (whole d pay n r) = (d, ap (λ (x : List Token). parsed x) (sym a.tokens) ∙ ap all_read r)
    go (halts k u l x d e n i f s r) = absurd (no_stop k a.leaves u l x a.counts d e (pays_is Limited no_counts a.leaves ∙ a.within) shallow
        n i f)

role_of : Stop → Role
role_of Unexpected = Opening
role_of Nodes = Node
role_of Statements = Statement
role_of Nesting = Plain

stops_role : (k : Stop) (c : Counts) (l : Leaf) → Stops Limited k c l → l.role ≡ role_of k
unfolding role_of
stops_role Unexpected c l h = absurd h
stops_role Nodes c l h = h.0
stops_role Statements c l h = h.0
stops_role Nesting c l h = h

of_role : Role → Stop
of_role Plain = Nesting
of_role Node = Nodes
of_role Statement = Statements
of_role Opening = Unexpected

of_role_of : (k : Stop) → of_role (role_of k) ≡ k
unfolding role_of of_role
of_role_of Unexpected = refl
of_role_of Nodes = refl
of_role_of Statements = refl
of_role_of Nesting = refl

-- a leaf passes at most one limit
one_limit : (k k' : Stop) (c c' : Counts) (l l' : Leaf) → l ≡ l' → Stops Limited k c l → Stops Limited k' c' l' → k' ≡ k
one_limit k k' c c' l l' e h h' =
    sym (of_role_of k') ∙ ap of_role (sym (stops_role k' c' l' h') ∙ ap (λ (x : Leaf). x.role) (sym e) ∙ stops_role k c l h) ∙ of_role_of k

-- on a query's word that goes on from these leaves, the parser stops at the leaf that passes the limit
limit_on : (k : Stop) (front : List Token) (t : Token) (more : List Token) (leaf : Leaf) (c : Counts) → (g : IsGrammatical front t leaf c)
    → Stops Limited k c leaf → StopFacts k front t
    → (w z : List Leaf) (q : Value) → w ≡ g.leaves ++ leaf ∷ z → Run w q → run (front ++ t ∷ more) ≡ Stopped k (t ∷ more)
limit_on k front t more leaf c g i f w z q e o = on o
  where
    pay_in : pays Limited no_counts g.leaves ≡ Some c
    pay_in = pays_is Limited no_counts g.leaves ∙ g.within

    shallow_in : IsShallow (tokens_of g.leaves)
    shallow_in = rw g.tokens g.shallow

    facts : StopFacts k (tokens_of g.leaves) leaf.token
    facts = rw g.token (rw g.tokens f)

    tokens_are : tokens_of w ≡ front ++ t ∷ tokens_of z
    tokens_are = ap tokens_of e ∙ tokens_cons g.leaves leaf z ∙ ap (λ (x : List Token). x ++ leaf.token ∷ tokens_of z) g.tokens
        ∙ ap (λ (x : Token). front ++ x ∷ tokens_of z) g.token

    stop : (k' : Stop) (l : Leaf) (x : List Leaf) → k' ≡ k → leaf ∷ z ≡ l ∷ x
        → ◌≡◌ {A = Outcome Value} (Stopped k' (l.token ∷ tokens_of x)) (Stopped k (t ∷ tokens_of z))
    stop k' l x same j =
        ap (λ (y : Stop). Stopped y (l.token ∷ tokens_of x)) same ∙ ap (λ (y : List Leaf). Stopped k (tokens_of y)) (sym j)
        ∙ ap (λ (y : Token). Stopped k (y ∷ tokens_of z)) g.token

    on : Run w q → run (front ++ t ∷ more) ≡ Stopped k (t ∷ more)
    on (whole d pay n r) = absurd (no_stop k w g.leaves leaf z d c e pay (shallow_is (tokens_of w) n) pay_in i facts)
    on (halts k' u l x d a n i' f' s r) = go (place g.leaves (leaf ∷ z) u l x (sym e ∙ a))
      where
        go : Place g.leaves (leaf ∷ z) u l x → run (front ++ t ∷ more) ≡ Stopped k (t ∷ more)
        go (inside y p j) = absurd (no_stop k' g.leaves u l y c d p pay_in shallow_in n i' f')
        go (beyond h y p j) =
            let same : leaf ≡ h = head_is leaf h z (y ++ l ∷ x) j in
            absurd (no_stop k u g.leaves h y d c p n (shallow_is (tokens_of u) s) pay_in (rw (← same) i) (rw (← same) facts))
        go (at_end p j) = same_stop front t (tokens_of z) more k
            (ap run (sym tokens_are) ∙ r ∙ stop k' l x (one_limit k k' c d leaf l (head_is leaf l z x j) i i') j)

limit_found : (k : Stop) (front : List Token) (t : Token) (more : List Token) (leaf : Leaf) (c : Counts) → IsGrammatical front t leaf c
    → Stops Limited k c leaf → StopFacts k front t → run (front ++ t ∷ more) ≡ Stopped k (t ∷ more)
limit_found k front t more leaf c g i f =
    limit_on k front t more leaf c g i f ((g.leaves ++ leaf ∷ []) ++ g.begins.0) g.begins.0 g.begins.2
    (append_assoc g.leaves (leaf ∷ []) g.begins.0) (run_of g.begins.1 ((g.leaves ++ leaf ∷ []) ++ g.begins.0) g.begins.2 g.begins.3)

-- where no query goes on with t, the parser stops at no other token
module _ (front : List Token) (t : Token) (more : List Token) (c : Counts) (g : IsSound front c) (none : BeginsQuery (front ++ t ∷ []) → ⊥)
  where
    -- tokens that begin a query go no further than t
    too_far : (h : Token) (y rest : List Token) (w z : List Leaf) (d : ℕ) (q : Value) → tokens_of w ≡ front ++ h ∷ y → t ∷ more ≡ h ∷ rest
        → Query d (w ++ z) q → ⊥
    too_far h y rest w z d q e j m =
        let same : h ≡ t = sym (head_is t h more rest j) in
        let b : BeginsQuery (front ++ t ∷ y) = rw (← (e ∙ ap (λ (x : Token). front ++ x ∷ y) same)) (begins_of d w z q m) in
        none (begins_front (front ++ t ∷ []) y (rw (append_assoc front (t ∷ []) y) b))

    front_begins : BeginsQuery front
    front_begins = rw (← g.tokens) (begins_of g.begins.1 g.leaves g.begins.0 g.begins.2 g.begins.3)

    -- nor does it stop before t
    not_before : (k : Stop) (p : List Token) (u : Token) (y : List Token) (other : List Token) → front ≡ p ++ u ∷ y
        → run (p ++ u ∷ other) ≡ Stopped k (u ∷ other) → ⊥
    not_before k p u y other e s = go (run_of g.begins.1 (g.leaves ++ g.begins.0) g.begins.2 g.begins.3)
      where
        tokens_are : tokens_of (g.leaves ++ g.begins.0) ≡ p ++ u ∷ (y ++ tokens_of g.begins.0)
        tokens_are = map-append (λ (l : Leaf). l.token) g.leaves g.begins.0
            ∙ ap (λ (x : List Token). x ++ tokens_of g.begins.0) (g.tokens ∙ e) ∙ append_assoc p (u ∷ y) (tokens_of g.begins.0)

        stop : run (tokens_of (g.leaves ++ g.begins.0)) ≡ Stopped k (u ∷ (y ++ tokens_of g.begins.0))
        stop = ap run tokens_are ∙ same_stop p u other (y ++ tokens_of g.begins.0) k s

        pay_in : pays Limited no_counts g.leaves ≡ Some c
        pay_in = pays_is Limited no_counts g.leaves ∙ g.within

        shallow_in : IsShallow (tokens_of g.leaves)
        shallow_in = rw g.tokens g.shallow

        count : (xs ys : List Leaf) → tokens_of xs ≡ y ++ tokens_of ys → length (tokens_of ys) ≤ length (tokens_of xs)
        count xs ys h = omega (arith, ap length h, length-append y (tokens_of ys))

        go : Run (g.leaves ++ g.begins.0) g.begins.2 → ⊥
        go (whole d pay n r) = done_or_stopped _ _ _ _ _ (sym r ∙ stop)
        go (halts k' v l x d a n i f sh r) = at (place g.leaves g.begins.0 v l x a)
          where
            rest_is : tokens_of x ≡ y ++ tokens_of g.begins.0
            rest_is = tail_is l.token u (tokens_of x) (y ++ tokens_of g.begins.0) (same_place _ _ _ _ (sym r ∙ stop))

            at : Place g.leaves g.begins.0 v l x → ⊥
            at (inside z b j) = no_stop k' g.leaves v l z c d b pay_in shallow_in n i f
            at (at_end b j) =
                let n : length (tokens_of g.begins.0) ≡ suc (length (tokens_of x)) = ap (λ (w : List Leaf). length (tokens_of w)) j in
                absurd (omega (arith, count x g.begins.0 rest_is, n))
            at (beyond h z b j) =
                let n : length (tokens_of g.begins.0) ≡ suc (length (tokens_of (z ++ l ∷ x))) =
                ap (λ (w : List Leaf). length (tokens_of w)) j in
                let m : length (tokens_of (z ++ l ∷ x)) ≡ length (tokens_of z ++ l.token ∷ tokens_of x) = ap length (tokens_cons z l x) in
                absurd (omega (arith, count x g.begins.0 rest_is, n, m, length-append (tokens_of z) (l.token ∷ tokens_of x)))

    unexpected_at : (o : Outcome Value) → run (front ++ t ∷ more) ≡ o → all_read o ≡ Stopped Unexpected (t ∷ more)
    unexpected_at (Done q d []) e =
        let f = found_of (front ++ t ∷ more) q d [] e in
        absurd (too_far t more more f.front [] (depth 0) q (sym (f.split ∙ append-nil (tokens_of f.front))) refl
        (rw (append-nil f.front) f.means))
    unexpected_at (Done q d (u ∷ r)) e = go (found_of (front ++ t ∷ more) q d (u ∷ r) e)
      where
        go : IsFound (front ++ t ∷ more) q d (u ∷ r) → ◌≡◌ {A = Outcome Value} (Stopped Unexpected (u ∷ r)) (Stopped Unexpected (t ∷ more))
        go f = at (place front (t ∷ more) (tokens_of f.front) u r f.split)
          where
            at : Place front (t ∷ more) (tokens_of f.front) u r → ◌≡◌ {A = Outcome Value} (Stopped Unexpected (u ∷ r))
                (Stopped Unexpected (t ∷ more))
            at (inside y p j) = absurd (no_more (tokens_of f.front) u q d (λ x. f.again (u ∷ x) (x, refl))
                (begins_front (tokens_of f.front ++ u ∷ []) y (rw (← (p ∙ sym (append_assoc (tokens_of f.front) (u ∷ []) y)))
                front_begins)))
            at (at_end p j) = ap (λ (x : List Token). Stopped Unexpected x) (sym j)
            at (beyond h y p j) = absurd (too_far h y (y ++ u ∷ r) f.front [] (depth 0) q p j (rw (append-nil f.front) f.means))
    unexpected_at (Stopped k []) e =
        let h = halted_of (front ++ t ∷ more) k [] e in
        absurd (too_far t more more h.front h.more (depth 0) h.value (sym (h.split ∙ append-nil (tokens_of h.front))) refl h.begins)
    unexpected_at (Stopped k (u ∷ r)) e = go (halted_of (front ++ t ∷ more) k (u ∷ r) e)
      where
        go : IsHalted (front ++ t ∷ more) k (u ∷ r) → ◌≡◌ {A = Outcome Value} (Stopped k (u ∷ r)) (Stopped Unexpected (t ∷ more))
        go h = at (place front (t ∷ more) (tokens_of h.front) u r h.split)
          where
            first : (k' : Stop) → StopsFirst Limited k' h.counts h.more (u ∷ r) → front ≡ tokens_of h.front → t ∷ more ≡ u ∷ r → ⊥
            first k' s p j = too_far u (tokens_of s.1) r (h.front ++ s.0 ∷ s.1) [] (depth 0) h.value
                (tokens_cons h.front s.0 s.1 ∙ ap (λ (x : List Token). x ++ s.0.token ∷ tokens_of s.1) (sym p)
                ∙ ap (λ (x : Token). front ++ x ∷ tokens_of s.1) (sym (head_is u s.0.token r s.2 s.4))) j
                (rw (← (ap (λ (x : List Leaf). h.front ++ x) s.3 ∙ sym (append-nil (h.front ++ s.0 ∷ s.1)))) h.begins)

            kind_of : (k' : Stop) → Cause Limited k' h.counts h.more (u ∷ r) → front ≡ tokens_of h.front → t ∷ more ≡ u ∷ r
                → ◌≡◌ {A = Outcome Value} (Stopped k' (u ∷ r)) (Stopped Unexpected (t ∷ more))
            kind_of Unexpected s p j = ap (λ (x : List Token). Stopped Unexpected x) (sym j)
            kind_of Nodes s p j = absurd (first Nodes s p j)
            kind_of Statements s p j = absurd (first Statements s p j)
            kind_of Nesting s p j = absurd (first Nesting s p j)

            at : Place front (t ∷ more) (tokens_of h.front) u r → ◌≡◌ {A = Outcome Value} (Stopped k (u ∷ r))
                (Stopped Unexpected (t ∷ more))
            at (inside y p j) = absurd (not_before k (tokens_of h.front) u y r p (ap run (sym h.split) ∙ e))
            at (at_end p j) = kind_of k h.cause p j
            at (beyond z y p j) = absurd (too_far z y (y ++ u ∷ r) h.front h.more (depth 0) h.value p j h.begins)

pub fault_found : (k : Stop) (front : List Token) (t : Token) (more : List Token) → StandsAt k front t
    → parsed (front ++ t ∷ more) ≡ Stopped k (t ∷ more)
fault_found Unexpected front t more h = unexpected_at front t more h.0 h.1 h.2 (run (front ++ t ∷ more)) refl
fault_found Nodes front t more h =
    let none : charge Limited h.1.role h.0 ≡ None = rw (h.3, le-ltb h.0.nodes MAX_NODES h.4) refl in
    ap all_read (limit_found Nodes front t more h.1 h.0 h.2 (h.3, none) tt)
fault_found Statements front t more h =
    let none : charge Limited h.1.role h.0 ≡ None = rw (h.3, le-ltb h.0.statements MAX_STATEMENTS h.4) refl in
    ap all_read (limit_found Statements front t more h.1 h.0 h.2 (h.3, none) tt)
fault_found Nesting front t more h = ap all_read (limit_found Nesting front t more h.1 h.0 h.2 h.3 (h.4, h.5))
