-- How far the lines of a text are read.
use Rattle.std.proofs.Common.{◌≡◌, ℕ, zero, suc, ◌+◌, ◌<◌, ◌≤◌, List, [], ◌∷◌, length, take, Some, refl, sym, ap, subst, arith, add-one}
use Rattle.std.{proofs.lemmas.List.{take_all, length-drop}, specs.Prelude.slice_get}
use Rattle.plan_file.specs.{declared.{made.Made.Made, texts.TheConstants.MAX_PLAN}, Lexis.{lines, bytes_after_lines}}
use Rattle.plan_file.specs.{Lines.{nothing, IsLine}, Texts.{Make, Says, IsLineStart, IsAfterLines}}

-- this many lines are read, up to a byte, and they made this
pub record IsReached (text : List ℕ) (i at : ℕ) (made : Made) : Type 0 where
  pub start : IsLineStart text i at
  pub valid : Make (take i (lines text)) nothing made

-- one more line follows those that were read
make_more : (ls : List (List ℕ)) (i : ℕ) (x y z : Made) (line : List ℕ) → Make (take i ls) x y → slice_get ls i ≡ Some line
    → IsLine y line z → Make (take (suc i) ls) x z
make_more [] i x y z line p e l = cc
make_more (m ∷ ls) zero x y z line p e l =
    let same : m ≡ line = cc in
    (z, subst (λ t. IsLine x t z) (sym same) (subst (λ w. IsLine w line z) p l), refl)
make_more (m ∷ ls) (suc i) x y z line p e l = (p.0, p.1, make_more ls i p.0 y z line p.2 e l)

pub reached_more : (text : List ℕ) (i at next : ℕ) (made after : Made) (line : List ℕ) → IsReached text i at made
    → slice_get (lines text) i ≡ Some line → IsLineStart text (i + 1) next → IsLine made line after → IsReached text (i + 1) next after
reached_more text i at next made after line r e start l = record {
  start = start;
  valid = subst (λ n. Make (take n (lines text)) nothing after) (sym (add-one i))
      (make_more (lines text) i nothing made after line r.valid e l);
}

-- all lines are read
pub all_made : (text : List ℕ) (i at : ℕ) (made : Made) → IsReached text i at made → IsAfterLines text i at → Make (lines text) nothing made
all_made text i at made r b = subst (λ ls. Make ls nothing made) (take_all i (lines text) (omega (arith, b.count))) r.valid

pub says : (text : List ℕ) (i at : ℕ) (made : Made) → length text ≤ MAX_PLAN → length text ≤ at → (made.prints ≡ [] → ⊥)
    → IsReached text i at made → IsAfterLines text i at → Says text made
says text i at made small le some r b = record {
  size = small;
  valid = all_made text i at made r b;
  ended = by (bytes_after_lines text) (omega (arith, ap length b.rest, length-drop at text));
  printed = any made.prints some;
}
  where
    by : (l : List ℕ) → length l ≡ 0 → l ≡ []
    by [] e = refl
    by (x ∷ l) e = absurd (omega (arith, e))

    any : (l : List ℕ) → (l ≡ [] → ⊥) → 0 < length l
    any [] f = absurd (f refl)
    any (x ∷ l) f = omega arith
