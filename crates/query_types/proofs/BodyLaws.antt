-- What the check of a fold's statements gives is valid.
use Rattle.std.proofs.Common.{◌≡◌, ℕ, ◌+◌, ◌*◌, ◌<◌, ◌≤◌, Bool, true, false, List, [], ◌∷◌, ◌++◌, length, Option, Some, None, Ok, refl, sym}
use Rattle.std.{proofs.Common.{ap, ◌∙◌, inl, inr, arith}, specs.Prelude.IfSome}
use Rattle.query_lang.specs.declared.{fault.{Span.Span, FaultKind.FaultKind}, fold.{Op.TheVariants.Both, TypedExpr.TypedExpr}}
use Rattle.query_lang.specs.declared.{fold.TypedStmt.TypedStmt, query.{Name.Name, Expr.Expr}, typing.{Body.Body, Enclosing.Enclosing}}
use Rattle.query_lang.specs.{declared.fault.TheConstants.{MAX_NODES, MAX_STATEMENTS}, Terms.{Literal, term_of}}
use Rattle.query_lang.specs.Blocks.{Block, End, Set, Fork, followed, stmt_block, block_of}
use Rattle.query_lang.specs.Folds.{IsValidBlock, IsValidEmit, ReadsArguments, is_condition, term_nodes, block_nodes, block_count}
use Rattle.query_lang.specs.Checks.{Checked, must_not, is_among, place_of}
use Rattle.query_lang.specs.TypedFolds.{target_at, target_of, or_else, state_in, joined, inside, emit_condition, no_state}
use Rattle.query_lang.proofs.TreeLemmas.{term_number, term_not, term_binary, block_assign, block_if}
use Rattle.query_types.proofs.ExprLaws.{place_within, found_place, IsConditionIn, IsWordIn}
use Rattle.query_lang.specs.declared.fold.TypedExpr.TheVariants as typed
use Rattle.query_lang.specs.declared.fold.TypedStmt.TheVariants as typed_stmt

pub must_not_ok : {A : Type 0} (test : Bool) (kind : FaultKind) (span : Span) (next : Checked A) (x : A)
    → must_not test kind span next ≡ Ok x → (test ≡ false) × (next ≡ Ok x)
must_not_ok true kind span next x e = cc e
must_not_ok false kind span next x e = (refl, e)

-- a block within limits
pub record IsBlockIn (states args most_nodes most_count : ℕ) (b : Block) : Type 0 where
  pub valid : IsValidBlock states args b
  pub nodes : block_nodes b ≤ most_nodes
  pub count : block_count b ≤ most_count

followed_end : (b : Block) → followed b End ≡ b
followed_end End = refl
followed_end (Set v e rest) = ap (Set v e) (followed_end rest)
followed_end (Fork c a b rest) = ap (Fork c a b) (followed_end rest)

followed_assoc : (a b c : Block) → followed (followed a b) c ≡ followed a (followed b c)
followed_assoc End b c = refl
followed_assoc (Set v e rest) b c = ap (Set v e) (followed_assoc rest b c)
followed_assoc (Fork t x y rest) b c = ap (Fork t x y) (followed_assoc rest b c)

block_push : (xs : List TypedStmt) (y : TypedStmt) → block_of (xs ++ y ∷ []) ≡ followed (block_of xs) (stmt_block y)
block_push [] y = followed_end (stmt_block y)
block_push (x ∷ xs) y = ap (followed (stmt_block x)) (block_push xs y) ∙ sym (followed_assoc (stmt_block x) (block_of xs) (stmt_block y))

followed_valid : (states args n k m j : ℕ) (a b : Block) → IsBlockIn states args n k a → IsBlockIn states args m j b
    → IsBlockIn states args (n + m) (k + j) (followed a b)
followed_valid states args n k m j End b va vb = record {
  valid = vb.valid;
  nodes = omega (arith, vb.nodes);
  count =
      omega (arith, vb.count);
}
followed_valid states args n k m j (Set v e rest) b va vb =
    let vr : IsBlockIn states args (block_nodes rest) (block_count rest) rest =
    record { valid = va.valid.3; nodes = omega arith; count = omega arith } in
    let h = followed_valid states args (block_nodes rest) (block_count rest) m j rest b vr vb in
    record {
      valid = (va.valid.0, va.valid.1, va.valid.2, h.valid);
      nodes = omega (arith, h.nodes, va.nodes);
      count =
          omega (arith, h.count, va.count);
    }
followed_valid states args n k m j (Fork c x y rest) b va vb =
    let vr : IsBlockIn states args (block_nodes rest) (block_count rest) rest =
    record { valid = va.valid.4; nodes = omega arith; count = omega arith } in
    let h = followed_valid states args (block_nodes rest) (block_count rest) m j rest b vr vb in
    record {
      valid = (va.valid.0, va.valid.1, va.valid.2, va.valid.3, h.valid);
      nodes = omega (arith, h.nodes, va.nodes);
      count =
          omega (arith, h.count, va.count);
    }

-- the same block within wider limits
pub wider : {states args n k m j : ℕ} {b : Block} → IsBlockIn states args n k b → n ≤ m → k ≤ j → IsBlockIn states args m j b
wider v h i = record { valid = v.valid; nodes = omega (arith, v.nodes); count = omega (arith, v.count) }

-- what is found of a block with that many nodes and statements
pub record IsBody (states args most_nodes most_count : ℕ) (body : Body) : Type 0 where
  pub block : IsBlockIn states args most_nodes most_count (block_of body.statements)
  pub emit : IfSome body.emit (λ e. IsValidEmit states args (term_of e))

-- the conditions around a statement, with that many nodes in that many choices
pub record IsAround (states args most_nodes depth : ℕ) (outer : Enclosing) : Type 0 where
  pub condition : IfSome outer.condition (λ e. IsConditionIn (states + args) (most_nodes + 2 * depth) e)
  pub reads : outer.state ≡ None → IfSome outer.condition (λ e. ReadsArguments states (term_of e))

pub target_place : (states args : List ℕ) (name : Name) {v : ℕ} → target_of states args name ≡ Ok v → place_of states name.id ≡ Some v
target_place states args name e = found_place (λ o b. target_at o b name.span) (λ slot b. refl) refl refl (place_of states name.id)
    (is_among name.id args) e

pub target_bound : (states args : List ℕ) (name : Name) (v : ℕ) → target_of states args name ≡ Ok v → v < length states
target_bound states args name v e = place_within states name.id v (target_place states args name e)

pub added : (states args p c m j : ℕ) (found : Body) (one : TypedStmt) → IsBody states args p c found
    → IsBlockIn states args m j (stmt_block one) → IsBlockIn states args (p + m) (c + j) (block_of (found.statements ++ one ∷ []))
added states args p c m j found one v h =
    rw (block_push found.statements one) (followed_valid states args p c m j (block_of found.statements) (stmt_block one) v.block
    h)

pub assign_block : (states args n v : ℕ) (e : TypedExpr) → v < states → IsWordIn (states + args) n e
    → IsBlockIn states args n 1 (stmt_block (typed_stmt.Assign v e))
assign_block states args n v e h w =
    rw (block_assign v e) (record { valid = (h, w.term, w.word, tt); nodes = omega (arith, w.nodes); count = omega arith })

pub if_block : (states args n m k j l : ℕ) (c : TypedExpr) (a b : List TypedStmt) → IsConditionIn (states + args) n c
    → IsBlockIn states args m j (block_of a) → IsBlockIn states args k l (block_of b)
    → IsBlockIn states args (n + m + k) (1 + j + l) (stmt_block (typed_stmt.If c a b))
if_block states args n m k j l c a b vc va vb =
    rw (block_if c a b) (record {
      valid = (vc.term, vc.condition, va.valid, vb.valid, tt);
      nodes =
          omega (arith, vc.nodes, va.nodes, vb.nodes);
      count = omega (arith, va.count, vb.count);
    })

-- one more condition inside those around
joined_valid : (states args n d m : ℕ) (outer : Option TypedExpr) (c : TypedExpr)
    → IfSome outer (λ e. IsConditionIn (states + args) (n + 2 * d) e) → IsConditionIn (states + args) (m + 1) c
    → IsConditionIn (states + args) (n + m + 2 * (d + 1)) (joined outer c)
joined_valid states args n d m None c vo vc = record { term = vc.term; condition = vc.condition; nodes = omega (arith, vc.nodes) }
joined_valid states args n d m (Some o) c vo vc =
    let is = term_binary Both o c in
    record {
      term = rw is (vo.term, vc.term, (vo.condition, vc.condition));
      condition = ap is_condition is;
      nodes =
          omega (arith, ap term_nodes is, vo.nodes, vc.nodes);
    }

joined_reads : (states : ℕ) (outer : Option TypedExpr) (c : TypedExpr) → IfSome outer (λ e. ReadsArguments states (term_of e))
    → ReadsArguments states (term_of c) → ReadsArguments states (term_of (joined outer c))
joined_reads states None c ro rc = rc
joined_reads states (Some o) c ro rc = rw (term_binary Both o c) (ro, rc)

none_of_both : (a b : Option Span) → or_else a b ≡ None → (a ≡ None) × (b ≡ None)
none_of_both None b e = (refl, e)
none_of_both (Some span) b e = cc e

pub inside_valid : (states args : List ℕ) (n d m : ℕ) (outer : Enclosing) (written : Expr) (c : TypedExpr)
    → IsAround (length states) (length args) n d outer
    → IsConditionIn (length states + length args) (m + 1) c → (state_in states written ≡ None → ReadsArguments (length states) (term_of c))
    → IsAround (length states) (length args) (n + m) (d + 1) (inside states outer written c)
inside_valid states args n d m outer written c va vc rc = record {
  condition = joined_valid (length states) (length args) n d m outer.condition c va.condition vc;
  reads = λ e.
      let none = none_of_both outer.state (state_in states written) e in
      joined_reads (length states) outer.condition c (va.reads none.0) (rc none.1);
}

pub not_in : (slots n : ℕ) (c : TypedExpr) → IsConditionIn slots n c → IsConditionIn slots (n + 1) (typed.Not c)
not_in slots n c v =
    let is = term_not c in
    record {
      term = rw is (v.term, v.condition);
      condition = ap is_condition is;
      nodes =
          omega (arith, ap term_nodes is, v.nodes);
    }

pub emit_valid : (states args n d : ℕ) (outer : Enclosing) → n ≤ MAX_NODES → d + 1 ≤ MAX_STATEMENTS → IsAround states args n d outer
    → outer.state ≡ None
    → IsValidEmit states args (term_of (emit_condition outer.condition))
emit_valid states args n d outer hn hd va none = go outer.condition va.condition (va.reads none)
  where
    go : (o : Option TypedExpr) → IfSome o (λ e. IsConditionIn (states + args) (n + 2 * d) e)
        → IfSome o (λ e. ReadsArguments states (term_of e)) → IsValidEmit states args (term_of (emit_condition o))
    go None v r =
        let one : IsValidEmit states args (Literal 1) = record {
          slots = omega arith;
          condition = inr refl;
          arguments = tt;
          nodes =
              omega arith;
        } in
        rw (term_number 1) one
    go (Some e) v r = record { slots = v.term; condition = inl v.condition; arguments = r; nodes = omega (arith, v.nodes) }

pub no_state_ok : {A : Type 0} (o : Option Span) (next : Checked A) (x : A) → no_state o next ≡ Ok x → (o ≡ None) × (next ≡ Ok x)
no_state_ok None next x e = (refl, e)
no_state_ok (Some span) next x e = cc e
