-- The ways to build a parser, with the tokens that begin it and the tokens at which it goes on as lists of kinds: each
-- side condition computes.
use Rattle.std.proofs.Common.{◌≡◌, ℕ, Bool, true, false, cond, eqb, List, [], ◌∷◌, ◌++◌, Option, Some, None, refl, sym, ap, ◌∙◌, inl, inr}
use Rattle.std.proofs.{Common.{◌⊎◌}, lemmas.Bool.eqb-true}
use Rattle.query_lang.specs.declared.token.Token.{Token}
use Rattle.query_grammar.specs.Language.{Language, Role, Leaf, Word, Then, Repeated, AtMostOnce, Either, Meaning, Chain, Chained}
use Rattle.query_grammar.specs.Parser.{Limits, Parser, word, followed_by, mapped, at_most_once, either, repeated, chained}
use Rattle.query_grammar.{specs.Kinds.{one_of, among, kind}, proofs.{Chains.parses_chained, Choices.{parses_either, parses_once}}}
use Rattle.query_grammar.proofs.{Repeats.parses_repeated, Parses.{Parses, is_some_of, parses_word, parses_wider, parses_wider_on}}
use Rattle.query_grammar.proofs.Sequences.{parses_then, parses_null_then, parses_mapped}

abbrev pub disjoint : List ℕ → List ℕ → Bool
disjoint [] ys = true
disjoint (x ∷ xs) ys = cond (one_of ys x) false (disjoint xs ys)

pub disjoint_is : (xs ys : List ℕ) (n : ℕ) → disjoint xs ys ≡ true → one_of xs n ≡ true → one_of ys n ≡ false
disjoint_is [] ys n d h = absurd cc
disjoint_is (x ∷ xs) ys n d h = go (disjoint_is xs ys n) (eqb n x) refl h (one_of ys x) refl d
  where
    go : (disjoint xs ys ≡ true → one_of xs n ≡ true → one_of ys n ≡ false) → (b : Bool) → eqb n x ≡ b → cond b true (one_of xs n) ≡ true
        → (c : Bool) → one_of ys x ≡ c → cond c false (disjoint xs ys) ≡ true → one_of ys n ≡ false
    go ih b e h true f k = absurd cc
    go ih true e h false f k = ap (one_of ys) (eqb-true n x e) ∙ f
    go ih false e h false f k = ih k h

pub more_left : (xs ys : List ℕ) (n : ℕ) → one_of xs n ≡ true → one_of (xs ++ ys) n ≡ true
more_left [] ys n h = absurd cc
more_left (x ∷ xs) ys n h = go (more_left xs ys n) (eqb n x) h
  where
    go : (one_of xs n ≡ true → one_of (xs ++ ys) n ≡ true) → (b : Bool) → cond b true (one_of xs n) ≡ true
        → cond b true (one_of (xs ++ ys) n) ≡ true
    go ih true h = refl
    go ih false h = ih h

pub more_right : (xs ys : List ℕ) (n : ℕ) → one_of ys n ≡ true → one_of (xs ++ ys) n ≡ true
more_right [] ys n h = h
more_right (x ∷ xs) ys n h = go (more_right xs ys n h) (eqb n x)
  where
    go : one_of (xs ++ ys) n ≡ true → (b : Bool) → cond b true (one_of (xs ++ ys) n) ≡ true
    go ih true = refl
    go ih false = ih

pub less_left : (xs ys : List ℕ) (n : ℕ) → one_of (xs ++ ys) n ≡ false → one_of xs n ≡ false
less_left [] ys n h = refl
less_left (x ∷ xs) ys n h = go (less_left xs ys n) (eqb n x) h
  where
    go : (one_of (xs ++ ys) n ≡ false → one_of xs n ≡ false) → (b : Bool) → cond b true (one_of (xs ++ ys) n) ≡ false
        → cond b true (one_of xs n) ≡ false
    go ih true h = absurd cc
    go ih false h = ih h

pub less_right : (xs ys : List ℕ) (n : ℕ) → one_of (xs ++ ys) n ≡ false → one_of ys n ≡ false
less_right [] ys n h = h
less_right (x ∷ xs) ys n h = go (less_right xs ys n) (eqb n x) h
  where
    go : (one_of (xs ++ ys) n ≡ false → one_of ys n ≡ false) → (b : Bool) → cond b true (one_of (xs ++ ys) n) ≡ false → one_of ys n ≡ false
    go ih true h = absurd cc
    go ih false h = ih h

-- ---- the end

-- none of the tokens is the end
abbrev pub EndFree : List Leaf → Type 0
EndFree [] = Unit {0}
EndFree (l ∷ w) = (eqb (kind l.token) 3 ≡ false) × EndFree w

pub free_append : (u w : List Leaf) → EndFree u → EndFree w → EndFree (u ++ w)
free_append [] w f g = g
free_append (l ∷ u) w f g = (f.0, free_append u w f.1 g)

pub free_front : (u w : List Leaf) → EndFree (u ++ w) → EndFree u
free_front [] w f = tt
free_front (l ∷ u) w f = (f.0, free_front u w f.1)

pub free_both : (w u v : List Leaf) → w ≡ u ++ v → EndFree u → EndFree v → EndFree w
free_both w u v e f g = rw e (free_append u v f g)

free_repeated : {A : Type 0} (L : Language A) → ((w : List Leaf) (v : A) → L w v → EndFree w) → (w : List Leaf) (v : List A)
    → Repeated L w v → EndFree w
free_repeated L f w [] h = rw h tt
free_repeated L f w (a ∷ others) h = free_both w h.0 h.1 h.2 (f h.0 a h.3) (free_repeated L f h.1 others h.4)

free_once : {A : Type 0} (L : Language A) → ((w : List Leaf) (v : A) → L w v → EndFree w) → (w : List Leaf) (v : Option A)
    → AtMostOnce L w v → EndFree w
free_once L f w None h = rw h tt
free_once L f w (Some a) h = f w a h

free_chained : {A B : Type 0} (T : Language (A ⊎ B)) → ((w : List Leaf) (v : A ⊎ B) → T w v → EndFree w)
    → (w : List Leaf) (v : List A) (o : Option B) → Chain T w v o → EndFree w
free_chained T f w [] None h = rw h tt
free_chained T f w [] (Some b) h = f w (inr b) h
free_chained T f w (a ∷ others) o h = free_both w h.0 h.1 h.2 (f h.0 (inl a) h.3) (free_chained T f h.1 others o h.4)

free_either : {A : Type 0} (L M : Language A) → ((w : List Leaf) (v : A) → L w v → EndFree w)
    → ((w : List Leaf) (v : A) → M w v → EndFree w) → (w : List Leaf) (v : A) → L w v ⊎ M w v → EndFree w
free_either L M f g w v (inl h) = f w v h
free_either L M f g w v (inr h) = g w v h

pub free_word : {A : Type 0} (role : Role) (takes : Token → Option A) (ks : List ℕ) → one_of ks 3 ≡ false
    → ((t : Token) → is_some_of (takes t) ≡ true → among ks t ≡ true) → (w : List Leaf) (v : A) → Word role takes w v → EndFree w
free_word {A} role takes ks other s w v h = rw h.1 (go (eqb (kind h.0) 3) refl, tt)
  where
    yes : among ks h.0 ≡ true
    yes = s h.0 (ap is_some_of h.2)

    go : (b : Bool) → eqb (kind h.0) 3 ≡ b → eqb (kind h.0) 3 ≡ false
    go false e = e
    go true e = let x : true ≡ false = sym yes ∙ ap (one_of ks) (eqb-true (kind h.0) 3 e) ∙ other in absurd cc

-- A parser meets a language, whose words begin with the first kinds and have no end. It goes on at the second kinds.
pub record Line {A : Type 0} (m : Limits) (L : Language A) (p : Parser A) (starts on : List ℕ) (nullable : Bool) : Type 0 where
  pub parses : Parses m L p (among starts) (among on) nullable
  pub free : (w : List Leaf) (v : A) → L w v → EndFree w

pub line_word : {A : Type 0} {m : Limits} {role : Role} {takes : Token → Option A} (ks : List ℕ) (t : Token) (a : A) → takes t ≡ Some a
    → one_of ks 3 ≡ false → ((t : Token) → is_some_of (takes t) ≡ true → among ks t ≡ true)
    → Line m (Word role takes) (word m role takes) ks [] false
line_word {A} {m} {role} {takes} ks t a h other s = record {
  parses = parses_wider (among ks) s (parses_word m role takes (among []) t a h);
  free = free_word role takes ks other s;
}

pub line_then : {A B : Type 0} {m : Limits} {L : Language A} {M : Language B} {p : Parser A} {q : Parser B} {xs ys xs' ys' : List ℕ}
    → Line m L p xs ys false → Line m M q xs' ys' false → disjoint xs' ys ≡ true → Line m (Then L M) (followed_by p q) xs ys' false
line_then {A} {B} {m} {L} {M} {p} {q} {xs} {ys} {xs'} {ys'} f g d = record {
  parses = parses_then m L M p q (among ys') f.parses g.parses (λ t h. disjoint_is xs' ys (kind t) d h) (λ n t h. absurd cc) (λ t h. h);
  free = λ w v h. free_both w h.0 h.1 h.2 (f.free h.0 v.0 h.3) (g.free h.1 v.1 h.4);
}

pub line_then_null : {A B : Type 0} {m : Limits} {L : Language A} {M : Language B} {p : Parser A} {q : Parser B} {xs ys xs' ys' : List ℕ}
    → Line m L p xs ys false → Line m M q xs' ys' true → disjoint xs' ys ≡ true → Line m (Then L M) (followed_by p q) xs (ys ++ ys') false
line_then_null {A} {B} {m} {L} {M} {p} {q} {xs} {ys} {xs'} {ys'} f g d =
    record {
      parses = parses_then m L M p q (among (ys ++ ys')) f.parses g.parses (λ t h. disjoint_is xs' ys (kind t) d h)
          (λ n t h. less_left ys ys' (kind t) h) (λ t h. less_right ys ys' (kind t) h);
      free = λ w v h. free_both w h.0 h.1 h.2 (f.free h.0 v.0 h.3) (g.free h.1 v.1 h.4);
    }

pub line_null_then : {A B : Type 0} {m : Limits} {L : Language A} {M : Language B} {p : Parser A} {q : Parser B} {xs ys xs' ys' : List ℕ}
    → Line m L p xs ys true → Line m M q xs' ys' false → disjoint xs' ys ≡ true → Line m (Then L M) (followed_by p q) (xs ++ xs') ys' false
line_null_then {A} {B} {m} {L} {M} {p} {q} {xs} {ys} {xs'} {ys'} f g d =
    record {
      parses = parses_null_then (among (xs ++ xs')) (among ys') f.parses g.parses (λ t h. disjoint_is xs' ys (kind t) d h)
          (λ t h. more_left xs xs' (kind t) h) (λ t h. more_right xs xs' (kind t) h) (λ t h. h);
      free = λ w v h. free_both w h.0 h.1 h.2 (f.free h.0 v.0 h.3) (g.free h.1 v.1 h.4);
    }

pub line_either : {A : Type 0} {m : Limits} {L M : Language A} {p q : Parser A} {xs ys xs' ys' : List ℕ}
    → Line m L p xs ys false → Line m M q xs' ys' false → disjoint xs' xs ≡ true
    → Line m (Either L M) (either (among xs) p q) (xs ++ xs') (ys ++ ys') false
line_either {A} {m} {L} {M} {p} {q} {xs} {ys} {xs'} {ys'} f g d =
    record {
      parses = parses_either m L M p q (among xs) (among (xs ++ xs')) (among (ys ++ ys')) f.parses g.parses
          (λ t h. disjoint_is xs' xs (kind t) d h)
          (λ t h. more_left xs xs' (kind t) h) (λ t h. more_right xs xs' (kind t) h) (λ t h. less_left ys ys' (kind t) h)
          (λ t h. less_right ys ys' (kind t) h);
      free = λ w v h. free_either L M f.free g.free w v h;
    }

pub line_once : {A : Type 0} {m : Limits} {L : Language A} {p : Parser A} {xs ys : List ℕ} → Line m L p xs ys false
    → Line m (AtMostOnce L) (at_most_once (among xs) p) xs (xs ++ ys) true
line_once {A} {m} {L} {p} {xs} {ys} f = record {
  parses = parses_once m L p (among xs) (among (xs ++ ys)) f.parses (λ t h. less_left xs ys (kind t) h)
      (λ t h. less_right xs ys (kind t) h);
  free = λ w v h. free_once L f.free w v h;
}

pub line_repeated : {A : Type 0} {m : Limits} {L : Language A} {p : Parser A} {xs ys : List ℕ} → Line m L p xs ys false
    → disjoint xs ys ≡ true → Line m (Repeated L) (repeated (among xs) p) xs (xs ++ ys) true
line_repeated {A} {m} {L} {p} {xs} {ys} f d = record {
  parses = parses_repeated (among (xs ++ ys)) f.parses (λ t h. disjoint_is xs ys (kind t) d h) (λ t h. less_left xs ys (kind t) h)
      (λ t h. less_right xs ys (kind t) h);
  free = λ w v h. free_repeated L f.free w v h;
}

pub line_meaning : {A B : Type 0} {m : Limits} {f : A → B} {L : Language A} {p : Parser A} {xs ys : List ℕ} {nullable : Bool}
    → Line m L p xs ys nullable → Line m (Meaning f L) (mapped f p) xs ys nullable
line_meaning {A} {B} {m} {f} {L} {p} {xs} {ys} {nullable} g = record {
  parses = parses_mapped m f L p g.parses;
  free = λ w v h. g.free w h.0 h.1;
}

pub line_chained : {A B : Type 0} {m : Limits} {T : Language (A ⊎ B)} {p : Parser (A ⊎ B)} {xs ys : List ℕ}
    → Line m T p xs ys false → disjoint xs ys ≡ true → Line m (Chained T) (chained (among xs) p) xs (xs ++ ys) true
line_chained {A} {B} {m} {T} {p} {xs} {ys} f d = record {
  parses = parses_chained (among (xs ++ ys)) f.parses (λ t h. disjoint_is xs ys (kind t) d h) (λ t h. less_left xs ys (kind t) h)
      (λ t h. less_right xs ys (kind t) h);
  free = λ w v h. free_chained T f.free w v.0 v.1 h;
}

abbrev pub subset : List ℕ → List ℕ → Bool
subset [] ys = true
subset (x ∷ xs) ys = cond (one_of ys x) (subset xs ys) false

subset_is : (xs ys : List ℕ) (n : ℕ) → subset xs ys ≡ true → one_of xs n ≡ true → one_of ys n ≡ true
subset_is [] ys n d h = absurd cc
subset_is (x ∷ xs) ys n d h = go (subset_is xs ys n) (eqb n x) refl h (one_of ys x) refl d
  where
    go : (subset xs ys ≡ true → one_of xs n ≡ true → one_of ys n ≡ true) → (b : Bool) → eqb n x ≡ b → cond b true (one_of xs n) ≡ true
        → (c : Bool) → one_of ys x ≡ c → cond c (subset xs ys) false ≡ true → one_of ys n ≡ true
    go ih b e h false f k = absurd cc
    go ih true e h true f k = ap (one_of ys) (eqb-true n x e) ∙ f
    go ih false e h true f k = ih k h

-- the same kinds in another order, or more of them
pub line_sets : {A : Type 0} {m : Limits} {L : Language A} {p : Parser A} {xs ys : List ℕ} {nullable : Bool}
    → (xs' ys' : List ℕ) → Line m L p xs ys nullable → subset xs xs' ≡ true → subset ys ys' ≡ true → Line m L p xs' ys' nullable
line_sets {A} {m} {L} {p} {xs} {ys} {nullable} xs' ys' f h k = record {
  parses =
      parses_wider_on (among ys') (λ t e. outside (one_of ys (kind t)) refl t e)
      (parses_wider (among xs') (λ t e. subset_is xs xs' (kind t) h e) f.parses);
  free = f.free;
}
  where
    outside : (b : Bool) → ◌≡◌ {A = Bool} b b → (t : Token) → one_of ys' (kind t) ≡ false → one_of ys (kind t) ≡ false
    outside b r t e = go (one_of ys (kind t)) refl
      where
        go : (c : Bool) → one_of ys (kind t) ≡ c → one_of ys (kind t) ≡ false
        go false q = q
        go true q = let x = sym (subset_is ys ys' (kind t) k q) ∙ e in absurd cc
