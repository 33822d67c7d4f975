-- One turn of the lexer's loop.
use Rattle.std.proofs.Common.{◌≡◌, ℕ, zero, suc, ◌+◌, ◌-◌, Bool, true, false, cond, ◌<◌, ◌≤◌, List, [], ◌∷◌, ◌++◌, length, drop, take, Ok}
use Rattle.std.proofs.Common.{Err, refl, sym, ap, ◌∙◌, arith, append_assoc, inl, inr, ◌⊎◌}
use Rattle.std.{proofs.lemmas.List.{length-append, length-drop, drop-drop, drop_all, take_all}, specs.{List.list_any, Str.bytes_eq}}
use Rattle.query_lang.specs.declared.{token.{Token.Token, TokenKind.{TokenKind, TheVariants.{Name, End}}}, fault.FaultKind.FaultKind}
use Rattle.query_lang.specs.{declared.token.Piece.Piece, Names.{number_in, with_name}}
use Rattle.query_lang.specs.Lexis.{Cut, with_front, token_at, fault_at, cut, cut_piece, piece}
use Rattle.query_lang.specs.declared.token.Piece.TheVariants as pieces

-- what is cut so far, before the rest
abbrev pub with_all : List Token → Cut → Cut
with_all front (Ok found) = Ok (front ++ found.0, found.1)
with_all front (Err fault) = Err fault

cut_step : (n at : ℕ) (names : List (List ℕ)) (bs : List ℕ) → 0 < length bs
    → cut (suc n) at names bs ≡ cut_piece (piece bs) at names bs (λ k known. cut n (at + k) known (drop k bs))
unfolding cut
cut_step n at names [] lt = absurd (omega arith)
cut_step n at names (b ∷ bs) lt = refl

cut_end : (n at : ℕ) (names : List (List ℕ)) → cut n at names [] ≡ Ok (token_at End at at ∷ [], names)
unfolding cut
cut_end zero at names = refl
cut_end (suc n) at names = refl

cut_none : (at : ℕ) (names : List (List ℕ)) (bs : List ℕ) → cut zero at names bs ≡ Ok (token_at End at at ∷ [], names)
unfolding cut
cut_none at names bs = refl

with_next : (ts : List Token) (t : Token) (o : Cut) → with_all (ts ++ t ∷ []) o ≡ with_all ts (with_front t o)
with_next ts t (Ok found) = ap (λ (x : List Token). Ok (x, found.1)) (append_assoc ts (t ∷ []) found.0)
with_next ts t (Err fault) = refl

module _ (text : List ℕ) (ts : List Token) (names : List (List ℕ)) (at i : ℕ) (total : Cut)
    (so_far : with_all ts (cut (length text - i) at names (drop at text)) ≡ total) where
  module _ (lt : at < length text) (more : i < length text) where
    step_at : (p : Piece) → p ≡ piece (drop at text) → cut (length text - i) at names (drop at text)
        ≡ cut_piece p at names (drop at text) (λ k known. cut (length text - (i + 1)) (at + k) known (drop k (drop at text)))
    step_at p e =
        let k : length text - i ≡ suc (length text - (i + 1)) = omega arith in
        let full : 0 < length (drop at text) = omega (arith, length-drop at text) in
        rw (k, e) (cut_step (length text - (i + 1)) at names (drop at text) full)

    pub blank : (n : ℕ) → pieces.Blank n ≡ piece (drop at text)
        → with_all ts (cut (length text - (i + 1)) (at + n) names (drop (at + n) text)) ≡ total
    blank n e = ap (λ (bs : List ℕ). with_all ts (cut (length text - (i + 1)) (at + n) names bs)) (sym (drop-drop n at text))
        ∙ ap (with_all ts) (sym (step_at (pieces.Blank n) e)) ∙ so_far

    pub token : (k : TokenKind) (n : ℕ) → pieces.Token k n ≡ piece (drop at text)
        → with_all (ts ++ token_at k at (at + n) ∷ []) (cut (length text - (i + 1)) (at + n) names (drop (at + n) text)) ≡ total
    token k n e = with_next ts (token_at k at (at + n)) (cut (length text - (i + 1)) (at + n) names (drop (at + n) text))
        ∙ ap (λ (bs : List ℕ). with_all ts (with_front (token_at k at (at + n)) (cut (length text - (i + 1)) (at + n) names bs)))
        (sym (drop-drop n at text))
        ∙ ap (with_all ts) (sym (step_at (pieces.Token k n) e)) ∙ so_far

    name : (n : ℕ) → pieces.Name n ≡ piece (drop at text)
        → with_all (ts ++ token_at (Name (number_in names (take n (drop at text)))) at (at + n) ∷ [])
        (cut (length text - (i + 1)) (at + n) (with_name names (take n (drop at text))) (drop (at + n) text)) ≡ total
    name n e =
        let w : List ℕ = take n (drop at text) in
        let t : Token = token_at (Name (number_in names w)) at (at + n) in
        with_next ts t (cut (length text - (i + 1)) (at + n) (with_name names w) (drop (at + n) text))
        ∙ ap (λ (bs : List ℕ). with_all ts (with_front t (cut (length text - (i + 1)) (at + n) (with_name names w) bs)))
        (sym (drop-drop n at text))
        ∙ ap (with_all ts) (sym (step_at (pieces.Name n) e)) ∙ so_far

    pub numbered : (n : ℕ) → pieces.Name n ≡ piece (drop at text) → (w : List ℕ) → w ≡ take n (drop at text)
        → (id : ℕ) → id ≡ number_in names w → (known : List (List ℕ)) → known ≡ with_name names w
        → with_all (ts ++ token_at (Name id) at (at + n) ∷ []) (cut (length text - (i + 1)) (at + n) known (drop (at + n) text)) ≡ total
    numbered n e w f id g known k = rw (g, k, f) (name n e)

    pub fault : (f : FaultKind) (n : ℕ) → pieces.Fault f n ≡ piece (drop at text) → total ≡ Err (fault_at f (at + n))
    fault f n e = sym so_far ∙ ap (with_all ts) (step_at (pieces.Fault f n) e)

  pub ends : (length text ≤ i) ⊎ (length text ≤ at) → total ≡ Ok (ts ++ token_at End at at ∷ [], names)
  ends (inl le) = let k : length text - i ≡ 0 = omega arith in sym so_far ∙ ap (λ (n : ℕ). with_all ts (cut n at names (drop at text))) k
      ∙ ap (with_all ts) (cut_none at names (drop at text))
  ends (inr le) = sym so_far ∙ ap (λ (bs : List ℕ). with_all ts (cut (length text - i) at names bs)) (drop_all at text le)
      ∙ ap (with_all ts) (cut_end (length text - i) at names)

-- what is left of the text
pub rest_all : (text : List ℕ) (at : ℕ) → take (length text - at) (drop at text) ≡ drop at text
rest_all text at = take_all (length text - at) (drop at text) (omega (arith, length-drop at text))

-- one name more at most
pub one_more : (names : List (List ℕ)) (w : List ℕ) → length (with_name names w) ≤ length names + 1
one_more names w = go (list_any (bytes_eq w) names)
  where
    go : (b : Bool) → length (cond b names (names ++ w ∷ [])) ≤ length names + 1
    go true = omega arith
    go false = omega (arith, length-append names (w ∷ []))
