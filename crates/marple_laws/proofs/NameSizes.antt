-- The total length of the names of a text.
use Rattle.marple_laws.proofs.{Items.{IsIn, in_at, in_last}, Texts.{covers_all, groups_of, in_contains, name_of, new_apart, text_there}}
use Rattle.marple_laws.proofs.Words
use Words.{All, AreNew, AreNoKeys, AreValidStreams, Bool, Err, Field, GroupShape, IsNamedWell, List, None, Ok, Option, Piece, Some, Switch}
use Words.{Token, TypedFold, TypedStream, [], ap, arith, bytes_eq, cond, cons_option, drop, false, field_name, inl, inr, length}
use Words.{length-drop, length-take, list_any, number_in, refl, shape_made, subst, suc, sym, take, text_at, true, typed_names, with_fields}
use Words.{with_name, ℕ, ◌*◌, ◌++◌, ◌+◌, ◌<◌, ◌∙◌, ◌∷◌, ◌≡◌, ◌≤◌}
use Rattle.std.specs.Prelude.{map, slice_get}
use Rattle.query_lang.specs.declared.token.Piece.TheVariants as pieces
use Rattle.query_lang.specs.declared.token.TokenKind.TheVariants as kinds
use Rattle.query_lang.specs.Lexis.{Cut, cut, cut_piece, piece, token_at, with_front}

-- ---- sums over lists

abbrev pub weigh : {A : Type 0} → (A → ℕ) → List A → ℕ
weigh f [] = 0
weigh f (x ∷ xs) = f x + weigh f xs

-- the bytes of all names
abbrev pub total : List (List ℕ) → ℕ
total names = weigh length names

-- what is left of a list without one of its items
record Without {A : Type 0} (f : A → ℕ) (ys : List A) (x : A) : Type 0 where
  left : List A
  sum : weigh f ys ≡ f x + weigh f left
  keeps : (z : A) → IsIn z ys → (z ≡ x → ⊥) → IsIn z left

without : {A : Type 0} (f : A → ℕ) (ys : List A) (x : A) → IsIn x ys → Without f ys x
without f [] x h = absurd h
without f (y ∷ ys) x (inl e) = record {
  left = ys;
  sum = ap (λ z. f z + weigh f ys) (sym e);
  keeps = λ z i no. elim i [ inl here ↦ absurd (no (here ∙ sym e)) | inr more ↦ more ];
}
without f (y ∷ ys) x (inr h) =
    let r = without f ys x h in
    record {
      left = y ∷ r.left;
      sum = omega arith;
      keeps = λ z i no. elim i [ inl here ↦ inl here | inr more ↦ inr (r.keeps z more no) ];
    }

-- what is left of a list without some of its items, no two of them the same
pub record Taken {A : Type 0} (f : A → ℕ) (xs ys : List A) : Type 0 where
  pub left : List A
  pub sum : weigh f ys ≡ weigh f xs + weigh f left
  pub keeps : (z : A) → IsIn z ys → (IsIn z xs → ⊥) → IsIn z left

pub taken : {A : Type 0} (f : A → ℕ) (xs ys before : List A) → AreNew before xs → ((x : A) → IsIn x xs → IsIn x ys) → Taken f xs ys
taken f [] ys before new inside = record { left = ys; sum = omega arith; keeps = λ z i no. i }
taken f (x ∷ xs) ys before new inside =
    let w = without f ys x (inside x (inl refl)) in
    let r = taken f xs w.left (before ++ x ∷ []) new.1
    (λ z i. w.keeps z (inside z (inr i)) (λ e. new_apart (before ++ x ∷ []) xs z new.1
    (subst (λ u. IsIn u (before ++ x ∷ [])) (sym e) (in_last before x)) i)) in
    record {
      left = r.left;
      sum = omega arith;
      keeps = λ z i no. r.keeps z (w.keeps z i (λ e. no (inl e))) (λ j. no (inr j));
    }

-- ---- the names of groupbys and of their columns

no_key : (keys states : List (List ℕ)) (x : List ℕ) → AreNoKeys keys states → IsIn x states → IsIn x keys → ⊥
no_key keys [] x apart i j = i
no_key keys (s ∷ states) x apart (inl e) j = apart.0 (in_contains keys (subst (λ u. IsIn u keys) e j))
no_key keys (s ∷ states) x apart (inr i) j = no_key keys states x apart.1 i j

pub columns_total : (names : List (List ℕ)) (shape : GroupShape) → IsNamedWell shape
    → ((t : List ℕ) → IsIn t shape.key_names → IsIn t names)
    → ((t : List ℕ) → IsIn t shape.state_names → IsIn t names) → total shape.key_names + total shape.state_names ≤ total names
columns_total names shape well keys states =
    let k = taken length shape.key_names names [] well.keys_differ keys in
    let s = taken length shape.state_names k.left [] well.states_differ
    (λ t i. k.keeps t (states t i) (λ j. no_key _ _ t well.states_apart i j)) in
    omega arith

pub texts_in : (names : List (List ℕ)) (ids : List ℕ) → All (λ id. id < length names) ids → (t : List ℕ) → IsIn t (map (text_at names) ids)
    → IsIn t names
texts_in names ids all t i = let k = covers_all _ _ all t i in in_at _ _ t k.2

group_names_in : (names : List (List ℕ)) (folds : List TypedFold) (streams earlier : List TypedStream)
    → AreValidStreams (length names) folds earlier streams
    → (t : List ℕ) → IsIn t (map (λ shape. shape.name) (groups_of names folds streams)) → IsIn t names
group_names_in names folds [] earlier v t i = absurd i
group_names_in names folds (one ∷ rest) earlier v t i = by _ refl i (group_names_in names folds rest (earlier ++ one ∷ []) v.1 t)
  where
    by : (o : Option GroupShape) → shape_made names folds one one.op ≡ o
        → IsIn t (map (λ shape. shape.name) (cons_option o (groups_of names folds rest)))
        → (IsIn t (map (λ shape. shape.name) (groups_of names folds rest)) → IsIn t names) → IsIn t names
    by None e i more = more i
    by (Some s) e (inl h) more =
        let there : slice_get names one.name.id ≡ Some t = text_there _ _ v.0.name
        ∙ ap Some (sym (name_of names folds one one.op s e) ∙ sym h) in
        in_at _ _ t there
    by (Some s) e (inr h) more = more h

pub group_names_total : (names : List (List ℕ)) (folds : List TypedFold) (streams : List TypedStream)
    → AreValidStreams (length names) folds [] streams → AreNew [] (map (λ shape. shape.name) (groups_of names folds streams))
    → total (map (λ shape. shape.name) (groups_of names folds streams)) ≤ total names
group_names_total names folds streams v new =
    let t = taken length (map (λ (shape : GroupShape). shape.name) (groups_of names folds streams)) names [] new
    (group_names_in _ _ _ _ v) in
    omega arith

-- ---- the names of a text

total_push : (names : List (List ℕ)) (text : List ℕ) → total (names ++ text ∷ []) ≡ total names + length text
total_push [] text = omega arith
total_push (n ∷ names) text = let h = total_push names text in omega (arith, h)

with_total : (names : List (List ℕ)) (text : List ℕ) → total (with_name names text) ≤ total names + length text
with_total names text = go (list_any (bytes_eq text) names)
  where
    go : (b : Bool) → total (cond b names (names ++ text ∷ [])) ≤ total names + length text
    go true = omega arith
    go false = omega (arith, total_push)

pub field_size : (f : Field) → length (field_name f) ≤ 11
field_size Switch = omega arith
field_size _ = omega arith

fields_total : (fields : List Field) (names : List (List ℕ)) → total (with_fields names fields) ≤ total names + 11 * length fields
fields_total [] names = omega arith
fields_total (f ∷ fields) names =
    let h = fields_total fields (with_name names (field_name f)) in
    omega (arith, h, with_total, field_size)

pub typed_total : (names : List (List ℕ)) → total (typed_names names) ≤ total names + 154
typed_total names = omega (arith, fields_total)

abbrev Pair : Type 0
Pair = List Token × List (List ℕ)

same_found : (a b : Pair) → ◌≡◌ {A = Cut} (Ok a) (Ok b) → a ≡ b
same_found a b e = cc

cut_apart : (n : ℕ) (bytes : List ℕ) → length (take n bytes) + length (drop n bytes) ≡ length bytes
cut_apart n bytes =
    let t = length-take n bytes in
    let d = length-drop n bytes in
    omega (arith, t, d)

of_front : (t : Token) (o : Cut) (found : Pair) (most : ℕ) → ((got : Pair) → o ≡ Ok got → total got.1 ≤ most) → with_front t o ≡ Ok found
    → total found.1 ≤ most
of_front t (Ok got) found most h e = subst (λ (p : Pair). total p.1 ≤ most) (same_found _ found e) (h got refl)
of_front t (Err fault) found most h e = absurd cc

of_cut_piece : (p : Piece) (at : ℕ) (known : List (List ℕ)) (bytes : List ℕ) (next : ℕ → List (List ℕ) → Cut) {found : Pair}
    → ((k : ℕ) (later : List (List ℕ)) (got : Pair) → next k later ≡ Ok got → total got.1 ≤ total later + length (drop k bytes))
    → cut_piece p at known bytes next ≡ Ok found → total found.1 ≤ total known + length bytes
of_cut_piece (pieces.Blank n) at known bytes next {found} h e =
    let a = cut_apart n bytes in
    omega (arith, h, a)
of_cut_piece (pieces.Name n) at known bytes next {found} h e =
    of_front (token_at (kinds.Name (number_in known (take n bytes))) at (at + n)) (next n (with_name known (take n bytes))) found
    (total known + length bytes)
    (λ got g. (omega (arith, h, with_total, cut_apart))) e
of_cut_piece (pieces.Token kind n) at known bytes next {found} h e =
    of_front (token_at kind at (at + n)) (next n known) found (total known + length bytes)
    (λ got g. (let a = cut_apart n bytes in
    omega (arith, h, a))) e
of_cut_piece (pieces.Fault kind n) at known bytes next h e = absurd cc

of_end : (at : ℕ) (known : List (List ℕ)) (bytes : List ℕ) (found : Pair)
    → ◌≡◌ {A = Cut} (Ok (token_at kinds.End at at ∷ [], known)) (Ok found) → total found.1 ≤ total known + length bytes
of_end at known bytes found e = subst (λ (p : Pair). total p.1 ≤ total known + length bytes) (same_found _ found e) (omega arith)

pub cut_total : (n at : ℕ) (known : List (List ℕ)) (bytes : List ℕ) {found : Pair} → cut n at known bytes ≡ Ok found
    → total found.1 ≤ total known + length bytes
unfolding cut
cut_total (suc n) at known (b ∷ bytes) e =
    of_cut_piece (piece (b ∷ bytes)) _ _ (b ∷ bytes) (λ k later. cut n (at + k) later (drop k (b ∷ bytes)))
    (λ k later got h. cut_total n (at + k) _ (drop k (b ∷ bytes)) h) e
cut_total _ at known bytes {found} e = of_end at known bytes found e
