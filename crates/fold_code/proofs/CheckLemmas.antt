-- The check of a block is that of its first statement and then that of the rest.
use Rattle.std.proofs.Common.{◌≡◌, ℕ, ◌+◌, ◌<◌, ◌≤◌, Bool, true, false, ◌&&◌, List, length, get_or, drop, refl, ap, ◌∙◌}
use Rattle.std.proofs.lemmas.List.{drop_more, drop_all}
use Rattle.query_lang.specs.{declared.fold.{TypedExpr.TypedExpr, TypedStmt.{TypedStmt, If}}, Terms.{Term, term_of}}
use Rattle.query_lang.{specs.Blocks.{Block, End, Set, Fork, followed, stmt_block, block_of}, proofs.TreeLemmas.block_if}
use Rattle.fold_code.specs.Checks.{names_known, all_pass}

and_group : (a b c : Bool) → (a && (b && c)) ≡ ((a && b) && c)
and_group true b c = refl
and_group false b c = refl

and_end : (a : Bool) → (a && true) ≡ a
and_end true = refl
and_end false = refl

module _ (states : ℕ) (known : ℕ → Bool) (passes : ℕ → Term → Bool) where
  abbrev check : Bool → Block → Bool
  check = all_pass states known passes

  pass_followed : (free : Bool) (p q : Block) → check free (followed p q) ≡ (check free p && check free q)
  pass_followed free End q = refl
  pass_followed free (Set v e rest) q =
      let first = free && passes v e in
      ap (λ z. first && z) (pass_followed free rest q) ∙ and_group first (check free rest) (check free q)
  pass_followed free (Fork c a b rest) q =
      let first = check (free && names_known states known c) a && check (free && names_known states known c) b in
      ap (λ z. first && z) (pass_followed free rest q) ∙ and_group first (check free rest) (check free q)

  pass_first : (free : Bool) (xs : List TypedStmt) (i : ℕ) (x : TypedStmt) → i < length xs → x ≡ get_or xs i x →
      check free (block_of (drop i xs)) ≡ (check free (stmt_block x) && check free (block_of (drop (i + 1) xs)))
  pass_first free xs i x h is = cc (drop_more xs i x h, pass_followed free (stmt_block x) (block_of (drop (i + 1) xs)))

  -- one more statement that passes
  pub pass_rest : (free : Bool) (xs : List TypedStmt) (i : ℕ) (x : TypedStmt) (all : Bool) → i < length xs → x ≡ get_or xs i x
      → true ≡ check free (stmt_block x) → check free (block_of (drop i xs)) ≡ all → check free (block_of (drop (i + 1) xs)) ≡ all
  pass_rest free xs i x _ h is good so = cc (pass_first free xs i x h is)

  -- a statement that does not
  pub pass_stop : (free : Bool) (xs : List TypedStmt) (i : ℕ) (x : TypedStmt) (all : Bool) → i < length xs → x ≡ get_or xs i x
      → false ≡ check free (stmt_block x) → check free (block_of (drop i xs)) ≡ all → all ≡ false
  pass_stop free xs i x _ h is fails so = cc (pass_first free xs i x h is)

  pub pass_end : (free : Bool) (xs : List TypedStmt) (i : ℕ) (all : Bool) → length xs ≤ i → check free (block_of (drop i xs)) ≡ all
      → all ≡ true
  pass_end free xs i _ h so = cc (drop_all i xs h)

  pub pass_if : (free inside : Bool) (s : TypedStmt) (c : TypedExpr) (a b p q : List TypedStmt) (l m : Bool) → s ≡ If c a b → p ≡ a → q ≡ b
      → inside ≡ (free && names_known states known (term_of c)) →
      check inside (block_of p) ≡ l → check inside (block_of q) ≡ m → check free (stmt_block s) ≡ (l && m)
  pass_if free inside s c a b p q l m is ep eq ei el em =
      cc (
        block_if c a b,
        and_end (check (free && names_known states known (term_of c)) (block_of a) && check
            (free && names_known states known (term_of c))
            (block_of b)),
      )
