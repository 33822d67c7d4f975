-- Where the lines of a text begin.
use Rattle.std.proofs.Common.{◌≡◌, ℕ, zero, suc, ◌+◌, ◌<◌, ◌≤◌, List, [], ◌∷◌, ◌++◌, length, take, drop, Some, refl, sym, ap, ◌∙◌, arith}
use Rattle.std.proofs.{Common.add-one, lemmas.List.{Splits.length-slice_split, Sums.sum_by-append, length-drop, drop-drop}}
use Rattle.std.specs.{Prelude.{slice_get, sum_by}, List.slice_split}
use Rattle.plan_file.specs.{Lexis.{all_but_last, last_of, is_line_feed, lines, pieces, start_of_line}, Texts.{IsLineStart, IsAfterLines}}

-- what one more line is, where a further piece follows it
pub record IsNext (ps : List (List ℕ)) (i : ℕ) (x y : List ℕ) (rest : List (List ℕ)) : Type 0 where
  pub there : slice_get (all_but_last ps) i ≡ Some x
  pub left : drop (suc i) ps ≡ y ∷ rest
  pub taken : take (suc i) (all_but_last ps) ≡ take i (all_but_last ps) ++ x ∷ []
  pub count : suc i ≤ length (all_but_last ps)

nothing_left : (i : ℕ) (x : List ℕ) (rest : List (List ℕ)) → drop i [] ≡ x ∷ rest → ⊥
nothing_left zero x rest e = cc
nothing_left (suc i) x rest e = cc

next_is : (ps : List (List ℕ)) (i : ℕ) (x y : List ℕ) (rest : List (List ℕ)) → drop i ps ≡ x ∷ y ∷ rest → IsNext ps i x y rest
next_is [] i x y rest e = absurd (nothing_left i x (y ∷ rest) e)
next_is (p ∷ []) zero x y rest e = cc
next_is (p ∷ []) (suc i) x y rest e = absurd (nothing_left i x (y ∷ rest) e)
next_is (p ∷ q ∷ qs) zero x y rest e =
    let first : p ≡ x = cc in
    record { there = ap Some first; left = cc; taken = ap (λ h. h ∷ []) first; count = omega arith }
next_is (p ∷ q ∷ qs) (suc i) x y rest e =
    let more = next_is (q ∷ qs) i x y rest e in
    record { there = more.there; left = more.left; taken = ap (λ h. p ∷ h) more.taken; count = omega (arith, more.count) }

pub record IsLast (ps : List (List ℕ)) (i : ℕ) (x : List ℕ) : Type 0 where
  pub count : i ≡ length (all_but_last ps)
  pub last : last_of ps ≡ x

last_is : (ps : List (List ℕ)) (i : ℕ) (x : List ℕ) → drop i ps ≡ x ∷ [] → IsLast ps i x
last_is [] i x e = absurd (nothing_left i x [] e)
last_is (p ∷ []) zero x e = record { count = refl; last = cc }
last_is (p ∷ []) (suc i) x e = absurd (nothing_left i x [] e)
last_is (p ∷ q ∷ qs) zero x e = cc
last_is (p ∷ q ∷ qs) (suc i) x e =
    let more = last_is (q ∷ qs) i x e in
    record { count = omega (arith, more.count); last = more.last }

pub after_lines : (text : List ℕ) (i at : ℕ) → IsLineStart text i at → slice_split is_line_feed (drop at text) ≡ drop at text ∷ []
    → IsAfterLines text i at
after_lines text i at start none =
    let last = last_is (pieces text) i (drop at text) (sym start.rest ∙ none) in
    record { count = last.count; rest = last.last }

start_more : (text : List ℕ) (i : ℕ) (x y : List ℕ) (rest : List (List ℕ)) → IsNext (pieces text) i x y rest
    → start_of_line text (i + 1) ≡ start_of_line text i + (length x + 1)
start_more text i x y rest next =
    let f : List ℕ → ℕ = λ line. length line + 1 in
    let one : sum_by f (x ∷ []) ≡ length x + 1 = omega arith in
    ap (λ k. sum_by f (take k (lines text))) (add-one i) ∙ ap (λ ls. sum_by f ls) next.taken
    ∙ sum_by-append f (take i (lines text)) (x ∷ []) ∙ ap (λ n. sum_by f (take i (lines text)) + n) one

pub next_start : (text : List ℕ) (i at : ℕ) (x left : List ℕ) → IsLineStart text i at → slice_split is_line_feed (drop at text) ≡ x
    ∷ slice_split is_line_feed left → left ≡ drop (length x + 1) (drop at text) → length x < length (drop at text)
    → (slice_get (lines text) i ≡ Some x) × IsLineStart text (i + 1) (at + length x + 1)
next_start text i at x left start cut left_is size = by (slice_split is_line_feed left) refl cut
  where
    by : (ys : List (List ℕ)) → slice_split is_line_feed left ≡ ys → slice_split is_line_feed (drop at text) ≡ x ∷ ys
        → (slice_get (lines text) i ≡ Some x) × IsLineStart text (i + 1) (at + length x + 1)
    by [] e cut = absurd (omega (arith, ap length e, length-slice_split is_line_feed left))
    by (y ∷ rest) e cut =
        let next = next_is (pieces text) i x y rest (sym start.rest ∙ cut) in
        let sum : at + (length x + 1) ≡ at + length x + 1 = omega arith in
        let same : drop (at + length x + 1) text ≡ left = ap (λ n. drop n text) (sym sum) ∙ sym (drop-drop (length x + 1) at text)
        ∙ sym left_is in
        let start_is : start_of_line text (i + 1) ≡ start_of_line text i + (length x + 1) = start_more text i x y rest next in (
          next.there,
          record {
            start = sym (start_is ∙ ap (λ n. n + (length x + 1)) (sym start.start) ∙ sum);
            count = omega (arith, next.count);
            rest = ap (λ t. pieces t) same ∙ e ∙ sym next.left ∙ ap (λ n. drop n (pieces text)) (sym (add-one i));
            within = omega (arith, size, length-drop at text, start.within);
          },
        )
