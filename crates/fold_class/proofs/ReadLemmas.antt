-- The walk where only reads count gives what each variable reads.
use Rattle.std.proofs.Common.{◌≡◌, ℕ, zero, suc, ◌<◌, ◌≤◌, Bool, true, false, ◌&&◌, ◌||◌, ◌==◌, nat_lt, if◌then◌else◌, List, [], ◌∷◌, set}
use Rattle.std.proofs.{Common.{length, refl, sym, ap, ◌∙◌, arith}, lemmas.Bool.Decides.nat_tests}
use mathlib.Core.Path.{fun_ext}
use Rattle.query_lang.specs.{Terms.{Term, Literal, Read, Negation, Operation}, declared.fold.TypedFold.TypedFold}
use Rattle.query_lang.specs.{Blocks.{Block, End, Set, Fork}, Folds.{IsValidBlock, fold_states, fold_block}}
use Rattle.fold_class.specs.{declared.class.Kind.{Kind, TheVariants.Pure}, Tables.update}
use Rattle.fold_class.specs.Depth.{assigns, expr_reads, reads_after, reads_first, fold_reads}
use Rattle.fold_class.specs.Kinds.{greater, outside_kind, expr_kind, marked, chosen_kinds, kinds_after}
use Rattle.fold_class.specs.Walk.{outside, kinds_in, AssignsBelow, is_other, other_where}
use Rattle.fold_class.proofs.{TableLemmas.{or_false_left, or_false_right}, WalkLemmas.set_kind}

outside_or : (a b : Bool) → outside_kind (other_where a) (other_where b) ≡ other_where (a || b)
outside_or true b = refl
outside_or false true = refl
outside_or false false = refl

expr_shows : (e : Term) (reads : ℕ → ℕ → Bool) (u : ℕ) → expr_kind outside e (λ s. other_where (reads s u)) ≡ other_where
    (expr_reads e reads u)
expr_shows (Literal n) _ u = refl
expr_shows (Read s) _ u = refl
expr_shows (Negation e) reads u = cc (expr_shows e reads u, outside_or false (expr_reads e reads u))
expr_shows (Operation op a b) reads u =
    cc (expr_shows a reads u, expr_shows b reads u, outside_or (expr_reads a reads u) (expr_reads b reads u))

-- a marked table
marked_is : (b : Block) (kinds : ℕ → Kind) (v : ℕ) → marked b kinds v ≡ (if assigns b v then Kind.Other else kinds v)
marked_is End _ v = refl
marked_is (Set w e rest) kinds v = marked_is rest _ _ ∙ both _ _
  where
    both : (p q : Bool) → (if q then Kind.Other else (if p then Kind.Other else kinds v)) ≡ (if p || q then Kind.Other else kinds v)
    both true true = refl
    both true false = refl
    both false q = refl
marked_is (Fork c x y rest) kinds v =
    cc (
      marked_is rest (marked y (marked x kinds)) v,
      marked_is y (marked x kinds) v,
      marked_is x kinds v,
      three (assigns x v) (assigns y v)
          (assigns rest v),
    )
  where
    three : (p q r : Bool) → (if r then Kind.Other else (if q then Kind.Other else (if p then Kind.Other else kinds v)))
        ≡ (if (p || q) || r then Kind.Other else kinds v)
    three true true true = refl
    three true true false = refl
    three true false true = refl
    three true false false = refl
    three false true true = refl
    three false true false = refl
    three false false r = refl

reads_kept : (b : Block) (reads : ℕ → ℕ → Bool) (v u : ℕ) → assigns b v ≡ false → reads_after b reads v u ≡ reads v u
reads_kept End _ v u h = refl
reads_kept (Set w e rest) reads v u h =
    cc (
      reads_kept rest (update reads w (expr_reads e reads)) v u (or_false_right (v == w) (assigns rest v) h),
      or_false_left (v == w)
          (assigns rest v) h,
    )
reads_kept (Fork c x y rest) reads v u h =
    cc (
      reads_kept rest (λ v. if assigns x v || assigns y v then (λ u. (reads_after x reads v u || reads_after y reads v u) || expr_reads c
          reads u) else reads v) v u (or_false_right (assigns x v || assigns y v) (assigns rest v) h),
      or_false_left (assigns x v || assigns y v)
          (assigns rest v) h,
    )

greater_or : (a b : Bool) → greater (other_where a) (other_where b) ≡ other_where (a || b)
greater_or true b = refl
greater_or false b = refl

or_same : (a : Bool) → (a || a) ≡ a
or_same true = refl
or_same false = refl

or_end : (a : Bool) → (a || false) ≡ a
or_end true = refl
or_end false = refl

or_true : (a : Bool) → (a || true) ≡ true
or_true true = refl
or_true false = refl

-- the kinds after a choice
module _ (c : Term) (x y : Block) (reads : ℕ → ℕ → Bool) (u : ℕ) where
  -- the joined kind of one variable
  joined_kind : (v : ℕ) (k a : Bool) → (assigns x v || assigns y v) ≡ a →
      chosen_kinds (other_where k) (λ (v : ℕ). other_where (reads_after x reads v u)) (λ (v : ℕ). other_where (reads_after y reads v u))
      (marked y (marked x (λ s. other_where (reads s u)))) v
      ≡ other_where (if a then (reads_after x reads v u || reads_after y reads v u) || k else reads v u)
  joined_kind v true true e = simp (marked_is, two, or_true)
    where
      two : (p q : Bool) → (p || q) ≡ true → (if q then Kind.Other else (if p then Kind.Other else other_where (reads v u))) ≡ Kind.Other
      two true true h = refl
      two true false h = refl
      two false true h = refl
      two false false h = cc
  joined_kind v true false e =
      cc (
        marked_is y (marked x (λ s. other_where (reads s u))) v,
        marked_is x (λ s. other_where (reads s u)) v,
        or_false_right
            (assigns x v) (assigns y v) e,
        or_false_left (assigns x v) (assigns y v) e,
      )
  joined_kind v false true e = simp (greater_or, or_end)
  joined_kind v false false e =
      cc (
        reads_kept x reads v u (or_false_left (assigns x v) (assigns y v) e),
        reads_kept y reads v u
            (or_false_right (assigns x v) (assigns y v) e),
        greater_or (reads v u) (reads v u),
        or_same (reads v u),
      )

  spread : (v : ℕ) (a : Bool) → other_where (if a then (reads_after x reads v u || reads_after y reads v u) || expr_reads c reads u else
      reads v u)
      ≡ other_where ((if a then (λ u. (reads_after x reads v u || reads_after y reads v u) || expr_reads c reads u) else reads v) u)
  spread v true = refl
  spread v false = refl

  choice_joins : (v : ℕ) → kinds_after outside x (λ s. other_where (reads s u)) ≡ (λ (v : ℕ). other_where (reads_after x reads v u))
      → kinds_after outside y (λ s. other_where (reads s u)) ≡ (λ (v : ℕ). other_where (reads_after y reads v u)) →
      chosen_kinds (expr_kind outside c (λ s. other_where (reads s u))) (kinds_after outside x (λ s. other_where (reads s u)))
      (kinds_after outside y (λ s. other_where (reads s u))) (marked y (marked x (λ s. other_where (reads s u)))) v
      ≡ other_where ((if assigns x v || assigns y v then (λ u. (reads_after x reads v u || reads_after y reads v u) || expr_reads c reads
      u) else reads v) u)
  choice_joins v ex ey =
      cc (
        expr_shows c reads u,
        joined_kind v (expr_reads c reads u) (assigns x v || assigns y v) refl,
        spread v
            (assigns x v || assigns y v),
      )

pub walk_shows : (b : Block) (reads : ℕ → ℕ → Bool) (u : ℕ) → kinds_after outside b (λ s. other_where (reads s u))
    ≡ (λ (v : ℕ). other_where (reads_after b reads v u))
walk_shows End _ u = refl
walk_shows (Set w e rest) reads u = cc (fun_ext (λ s. at s (s == w)), walk_shows rest (update reads w (expr_reads e reads)) u)
  where
    at : (s : ℕ) (b : Bool) → (if b then expr_kind outside e (λ s. other_where (reads s u)) else other_where (reads s u)) ≡ other_where
        ((if b then expr_reads e reads else reads s) u)
    at s true = expr_shows e reads u
    at s false = refl
walk_shows (Fork c x y rest) reads u =
    cc (
      fun_ext (λ v. choice_joins c x y reads u v (walk_shows x reads u) (walk_shows y reads u)),
      walk_shows rest
          (λ v. if assigns x v || assigns y v then (λ u. (reads_after x reads v u || reads_after y reads v u) || expr_reads c
          reads u) else reads v) u,
    )

-- a valid block assigns below any number that the variables are below
pub valid_below : (n states args : ℕ) (b : Block) → states ≤ n → IsValidBlock states args b → AssignsBelow n b
valid_below n _ _ End h _ = tt
valid_below n states args (Set v e rest) h valid = (omega (arith, valid.0), valid_below _ _ _ rest h valid.3)
valid_below n states args (Fork c a b rest) h valid = (
  valid_below _ _ _ a h valid.2,
  valid_below _ _ _ b h valid.3,
  valid_below _ _ _ rest h valid.4,
)

-- a table where all kinds are Pure
abbrev pub AllPure : List Kind → Type 0
AllPure [] = Unit {0}
AllPure (k ∷ ks) = (k ≡ Pure) × AllPure ks

pub pure_at : (ks : List Kind) (s : ℕ) → AllPure ks → kinds_in ks s ≡ Pure
pure_at [] s h = refl
pure_at (k ∷ ks) zero h = h.0
pure_at (k ∷ ks) (suc s) h = pure_at ks s h.1

other_back : (b : Bool) → is_other (other_where b) ≡ b
other_back true = refl
other_back false = refl

-- what the walk from one variable leaves is what reads it
pub column_shows : (f : TypedFold) (u : ℕ) (start last : List Kind) → u < fold_states f → kinds_in start ≡ update (λ s. Pure) u Kind.Other
    → kinds_in last ≡ kinds_after outside (fold_block f) (kinds_in start) → (v : ℕ) → is_other (kinds_in last v) ≡ fold_reads f v u
column_shows f u _ _ lt es el v = ap (λ z. is_other (z v)) (el ∙ ap (kinds_after outside (fold_block f))
    (es ∙ fun_ext (λ s. at s (s == u) refl (nat_lt s (fold_states f)) refl)) ∙ walk_shows (fold_block f) (reads_first (fold_states f)) u)
    ∙ other_back _
  where
    at : (s : ℕ) (b : Bool) → (s == u) ≡ b → (l : Bool) → nat_lt s (fold_states f) ≡ l
        → (if s == u then Kind.Other else Pure) ≡ other_where (nat_lt s (fold_states f) && (s == u))
    at s true e true el = ap (λ b. if b then Kind.Other else Pure) e ∙ sym (ap (λ b. other_where (b && (s == u))) el ∙ ap other_where e)
    at s true e false el = let same : s ≡ u = grind (arith, nat_tests) in let ge : fold_states f ≤ s =
        grind (arith, nat_tests) in absurd (omega arith)
    at s false e l el = ap (λ b. if b then Kind.Other else Pure) e ∙ sym
        (ap (λ b. other_where (b && (s == u))) el ∙ ap (λ b. other_where (l && b)) e ∙ ap other_where (end l))
      where
        end : (l : Bool) → (l && false) ≡ false
        end true = refl
        end false = refl

pub start_is : (ks : List Kind) (u : ℕ) → AllPure ks → u < length ks → kinds_in (set ks u Kind.Other) ≡ update (λ s. Pure) u Kind.Other
start_is ks u all h = set_kind _ _ _ h ∙ fun_ext (λ s. ap (λ z. if s == u then Kind.Other else z) (pure_at _ _ all))
