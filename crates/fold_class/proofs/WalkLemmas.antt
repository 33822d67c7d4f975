-- What the walk over a table of kinds leaves.
use Rattle.std.proofs.Common.{◌≡◌, ◌≢◌, ℕ, ◌<◌, ◌≤◌, Bool, true, false, ◌==◌, if◌then◌else◌, List, length, get_or, set, drop, refl, sym, ap}
use Rattle.std.proofs.Common.{◌+◌, ◌∷◌, ◌∙◌, subst, arith, get_or-set_same, get_or-set_other}
use Rattle.std.proofs.lemmas.{Bool.Decides.nat_tests, List.{drop_all, drop_more}}
use mathlib.Core.Path.{fun_ext}
use Rattle.query_lang.specs.{declared.fold.{Op.Op, TypedExpr.TypedExpr, TypedStmt.{TypedStmt, Assign, If}}, Terms.term_of}
use Rattle.query_lang.{specs.Blocks.{Block, End, Set, Fork, followed, stmt_block, block_of}, proofs.TreeLemmas.{block_assign, block_if}}
use Rattle.fold_class.specs.{declared.class.Kind.{Kind, TheVariants.Pure}, Tables.update}
use Rattle.fold_class.specs.{Kinds.{Role, greater, expr_kind, marked, chosen_kinds, kinds_after}, Walk.{kinds_in, AssignsBelow}}

-- a table with one entry changed
pub set_kind : (kinds : List Kind) (v : ℕ) (k : Kind) → v < length kinds → kinds_in (set kinds v k) ≡ update (kinds_in kinds) v k
set_kind kinds v k h = fun_ext (λ s. at s (s == v) refl)
  where
    at : (s : ℕ) (b : Bool) → (s == v) ≡ b → get_or (set kinds v k) s Pure ≡ (if s == v then k else get_or kinds s Pure)
    at s true e =
        let same : v ≡ s = grind (arith, nat_tests) in
        subst (λ j. get_or (set kinds v k) j Pure ≡ k) same (get_or-set_same kinds v k Pure h)
        ∙ sym (ap (λ b. if b then k else get_or kinds s Pure) e)
    at s false e =
        let off : s ≢ v = grind (arith, nat_tests) in
        get_or-set_other kinds v s k Pure off ∙ sym (ap (λ b. if b then k else get_or kinds s Pure) e)

-- ---- a walk over statements, one after another

-- what a block makes of a table, where one block after another does so in sequence
pub record Walks (after : Block → (ℕ → Kind) → ℕ → Kind) : Type 0 where
  pub none : (t : ℕ → Kind) → after End t ≡ t
  pub both : (b c : Block) (t : ℕ → Kind) → after (followed b c) t ≡ after c (after b t)

pub walks_marked : Walks marked
walks_marked = record { none = λ t. refl; both = both }
  where
    both : (b c : Block) (t : ℕ → Kind) → marked (followed b c) t ≡ marked c (marked b t)
    both End c t = refl
    both (Set v e rest) c t = both rest c _
    both (Fork d x y rest) c t = both rest c _

pub walks_kinds : (roles : Op → Role) → Walks (kinds_after roles)
walks_kinds roles = record { none = λ t. refl; both = both }
  where
    both : (b c : Block) (t : ℕ → Kind) → kinds_after roles (followed b c) t ≡ kinds_after roles c (kinds_after roles b t)
    both End c t = refl
    both (Set v e rest) c t = both rest c _
    both (Fork d x y rest) c t = both rest c _

-- the statements from this one on, which assign below a number, make of the table what all of them are to make
pub record GoesOn (after : Block → (ℕ → Kind) → ℕ → Kind) (n : ℕ) (xs : List TypedStmt) (i : ℕ) (t all : ℕ → Kind) : Type 0 where
  pub kinds : after (block_of (drop i xs)) t ≡ all
  pub below : AssignsBelow n (block_of (drop i xs))

below_parts : (n : ℕ) (b c : Block) → AssignsBelow n (followed b c) → AssignsBelow n b × AssignsBelow n c
below_parts n End c h = (tt, h)
below_parts n (Set v e rest) c h = let more = below_parts n rest c h.1 in ((h.0, more.0), more.1)
below_parts n (Fork d a b rest) c h = let more = below_parts n rest c h.2 in ((h.0, h.1, more.0), more.1)

pub below_sized : {m n : ℕ} (b : Block) → m ≡ n → AssignsBelow n b → AssignsBelow m b
below_sized b same = subst (λ k. AssignsBelow k b) (sym same)

pub below_assign : {s : TypedStmt} {v : ℕ} {e : TypedExpr} → s ≡ Assign v e → {m : ℕ} (n : ℕ) → m ≡ n → AssignsBelow n (stmt_block s)
    → v < m
below_assign {s} {v} {e} is {m} n same h =
    (subst (AssignsBelow m) (ap stmt_block is ∙ block_assign v e) (below_sized (stmt_block s) same h)).0

module _ {after : Block → (ℕ → Kind) → ℕ → Kind} {n i : ℕ} {xs : List TypedStmt} {t all : ℕ → Kind} (so : GoesOn after n xs i t all) where
  next_of : {s : TypedStmt} → i < length xs → s ≡ get_or xs i s
      → block_of (drop i xs) ≡ followed (stmt_block s) (block_of (drop (i + 1) xs))
  next_of {s} h is = ap block_of (drop_more xs i s h ∙ ap (λ z. z ∷ drop (i + 1) xs) (sym is))

  pub next_below : {s : TypedStmt} {m : ℕ} → i < length xs → s ≡ get_or xs i s → m ≡ n → AssignsBelow m (stmt_block s)
  next_below {s} h is same = below_sized (stmt_block s) same
      (below_parts n (stmt_block s) _ (subst (AssignsBelow n) (next_of h is) so.below)).0

  pub goes_on : {s : TypedStmt} {u : ℕ → Kind} → Walks after → i < length xs → s ≡ get_or xs i s → u ≡ after (stmt_block s) t
      → GoesOn after n xs (i + 1) u all
  goes_on {s} walks h is one = record {
    kinds = ap (after (block_of (drop (i + 1) xs))) one ∙ sym (walks.both (stmt_block s) _ t) ∙ ap (λ b. after b t) (sym (next_of h is))
        ∙ so.kinds;
    below = (below_parts n (stmt_block s) _ (subst (AssignsBelow n) (next_of h is) so.below)).1;
  }

  pub ends : Walks after → length xs ≤ i → t ≡ all
  ends walks h = sym (walks.none t) ∙ ap (λ z. after (block_of z) t) (sym (drop_all i xs h)) ∙ so.kinds

-- ---- both blocks of a choice

module _ {s : TypedStmt} {c : TypedExpr} {a b p q : List TypedStmt} (is : s ≡ If c a b) (ep : p ≡ a) (eq : q ≡ b) where
  block : stmt_block s ≡ Fork (term_of c) (block_of a) (block_of b) End
  block = ap stmt_block is ∙ block_if c a b

  pub below_if : (n : ℕ) → AssignsBelow n (stmt_block s) → AssignsBelow n (block_of p) × AssignsBelow n (block_of q)
  below_if n h =
      let both = subst (AssignsBelow n) block h in (
        subst (λ z. AssignsBelow n (block_of z)) (sym ep) both.0,
        subst (λ z. AssignsBelow n (block_of z)) (sym eq) both.1,
      )

  pub marked_if : (t : ℕ → Kind) {u r : ℕ → Kind} → u ≡ marked (block_of p) t → r ≡ marked (block_of q) u → r ≡ marked (stmt_block s) t
  marked_if t {u} eu er = er ∙ ap (λ z. marked (block_of z) u) eq ∙ ap (marked (block_of b)) (eu ∙ ap (λ z. marked (block_of z) t) ep)
      ∙ ap (λ z. marked z t) (sym block)

  -- where its condition is Pure
  pub joined_if : (roles : Op → Role) (t : ℕ → Kind) {ta tb r : ℕ → Kind} → Pure ≡ expr_kind roles (term_of c) t
      → ta ≡ kinds_after roles (block_of p) t → tb ≡ kinds_after roles (block_of q) t → r ≡ (λ (v : ℕ). greater (ta v) (tb v))
      → r ≡ kinds_after roles (stmt_block s) t
  joined_if roles t {ta} {tb} ek ea eb er =
      let from : List TypedStmt → ℕ → Kind = λ z. kinds_after roles (block_of z) t in
      er ∙ ap {B = ℕ → Kind} (λ (z : ℕ → Kind) (v : ℕ). greater (z v) (tb v)) (ea ∙ ap from ep)
      ∙ ap {B = ℕ → Kind} (λ (z : ℕ → Kind) (v : ℕ). greater (from a v) (z v)) (eb ∙ ap from eq)
      ∙ ap (λ z. chosen_kinds z (from a) (from b) (marked (block_of b) (marked (block_of a) t))) ek
      ∙ ap (λ z. kinds_after roles z t) (sym block)
