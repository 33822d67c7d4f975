-- The statements that tokens write are read from them.
use Rattle.std.proofs.Common.{◌≡◌, ℕ, zero, suc, ◌+◌, ◌-◌, ◌≤◌, Bool, true, false, List, [], ◌∷◌, ◌++◌, length, drop, refl, sym, ap, ◌∙◌}
use Rattle.std.proofs.{Common.{arith, append_assoc, append-nil, length-append}, lemmas.Bool.Decides.nat_tests}
use Rattle.std.specs.Prelude.{nat_lt, if◌then◌else◌}
use Rattle.query_lang.specs.{Terms.{Term, Literal, Read, Negation, Operation, term_of}, Blocks.{Block, End, Set, Fork, block_of, followed}}
use Rattle.query_lang.proofs.TreeLemmas.{term_number, term_slot, term_not, term_binary, block_assign, block_if}
use Rattle.plan_file.specs.declared.lexemes.Lexeme.{Lexeme}
use Rattle.plan_file.specs.declared.lexemes.Lexeme.TheVariants as word
use Rattle.plan_file.specs.{Bodies.{slot_lexeme, written, written_block, IsBody}, Trees.Closes}
use Rattle.plan_loader.specs.{Loaded.BodiesAreRead, Reading.{Front, read_term, read_block, block_written, expr_for, stmts_for}}

abbrev front : {A : Type 0} → A → List Lexeme → Front A
front found left = record { found = found; left = left }

-- a slot is read from its token
slot_read : (n states s : ℕ) (rest : List Lexeme) → read_term (suc n) states (slot_lexeme states s ∷ rest) ≡ front (Read s) rest
slot_read n states s rest = by (nat_lt s states) refl
  where
    by : (b : Bool) → nat_lt s states ≡ b → read_term (suc n) states ((if nat_lt s states then word.State s else word.Argument (s - states))
        ∷ rest) ≡ front (Read s) rest
    by true e = rw e refl
    by false e =
        let slot : states + (s - states) ≡ s = grind (arith, nat_tests) in
        rw e (ap (λ t. front (Read t) rest) slot)

term_read : (n states : ℕ) (e : Term) (rest : List Lexeme) → length (written states e) ≤ n
    → read_term n states (written states e ++ rest) ≡ front e rest
term_read zero states (Literal v) rest le = absurd (omega (arith, le))
term_read zero states (Read s) rest le = absurd (omega (arith, le))
term_read zero states (Negation e) rest le = absurd (omega (arith, le))
term_read zero states (Operation op a b) rest le = absurd (omega (arith, le))
term_read (suc n) states (Literal v) rest le = refl
term_read (suc n) states (Read s) rest le = slot_read n states s rest
term_read (suc n) states (Negation e) rest le = ap (λ f. front (Negation f.found) f.left) (term_read n states e rest (omega (arith, le)))
term_read (suc n) states (Operation op a b) rest le =
    let first : read_term n states ((written states a ++ written states b) ++ rest) ≡ front a (written states b ++ rest) =
    ap (read_term n states) (append_assoc (written states a) (written states b) rest)
    ∙ term_read n states a (written states b ++ rest) (omega (arith, le, length-append (written states a) (written states b))) in
    let second = term_read n states b rest (omega (arith, le, length-append (written states a) (written states b))) in
    ap (λ f. let g = read_term n states f.left in front (Operation op f.found g.found) g.left) first
    ∙ ap (λ g. front (Operation op a g.found) g.left) second

-- tokens that close a block don't begin with a statement
closed : (n states : ℕ) (rest : List Lexeme) → Closes rest → read_block n states rest ≡ front End rest
closed zero states rest c = refl
closed (suc n) states [] c = refl
closed (suc n) states (word.Close ∷ rest) c = refl
closed (suc n) states _ c = absurd c

-- the parts of a choice, in sequence
module _ (n states : ℕ) where
  abbrev after_else : Term → Block → Front Block → Front Block
  after_else c a b =
      let next = read_block n states (drop 1 b.left) in
      front (Fork c a b.found next.found) next.left

  abbrev after_then : Term → Front Block → Front Block
  after_then c a = after_else c a.found (read_block n states (drop 2 a.left))

  abbrev after_condition : Front Term → Front Block
  after_condition c = after_then c.found (read_block n states (drop 1 c.left))

block_read : (n states : ℕ) (b : Block) (rest : List Lexeme) → Closes rest → length (written_block states b) ≤ n
    → read_block n states (written_block states b ++ rest) ≡ front b rest
block_read n states End rest c le = closed n states rest c
block_read zero states (Set v e next) rest c le = absurd (omega (arith, le))
block_read zero states (Fork t a b next) rest c le = absurd (omega (arith, le))
block_read (suc n) states (Set v e next) rest c le =
    let we = written states e in
    let wn = written_block states next in
    let first : read_term n states ((we ++ wn) ++ rest) ≡ front e (wn ++ rest) =
    ap (read_term n states) (append_assoc we wn rest) ∙ term_read n states e (wn ++ rest) (omega (arith, le, length-append we wn)) in
    let second = block_read n states next rest c (omega (arith, le, length-append we wn)) in
    ap (λ f. let g = read_block n states f.left in front (Set v f.found g.found) g.left) first
    ∙ ap (λ g. front (Set v e g.found) g.left) second
block_read (suc n) states (Fork t a b next) rest c le =
    let wt = written states t in
    let wa = written_block states a in
    let wb = written_block states b in
    let wn = written_block states next in
    let after_b = word.Close ∷ wn in
    let after_a = word.Close ∷ word.Open ∷ (wb ++ after_b) in
    let after_t = word.Open ∷ (wa ++ after_a) in
    let sizes : (length wt ≤ n) × (length wa ≤ n) × (length wb ≤ n) × (length wn ≤ n) = (
      omega (arith, le, length-append wt after_t),
      omega (arith, le, length-append wt after_t, length-append wa after_a),
      omega (arith, le, length-append wt after_t, length-append wa after_a, length-append wb after_b),
      omega (arith, le, length-append wt after_t, length-append wa after_a, length-append wb after_b),
    ) in
    let first : read_term n states ((wt ++ after_t) ++ rest) ≡ front t (after_t ++ rest) =
    ap (read_term n states) (append_assoc wt after_t rest) ∙ term_read n states t (after_t ++ rest) sizes.0 in
    let second : read_block n states ((wa ++ after_a) ++ rest) ≡ front a (after_a ++ rest) =
    ap (read_block n states) (append_assoc wa after_a rest) ∙ block_read n states a (after_a ++ rest) tt sizes.1 in
    let third : read_block n states ((wb ++ after_b) ++ rest) ≡ front b (after_b ++ rest) =
    ap (read_block n states) (append_assoc wb after_b rest) ∙ block_read n states b (after_b ++ rest) tt sizes.2 in
    let fourth = block_read n states next rest c sizes.3 in
    ap (after_condition n states) first ∙ ap (after_then n states t) second ∙ ap (after_else n states t a) third
    ∙ ap (λ g. front (Fork t a b g.found) g.left) fourth

whole : (states args : ℕ) (words : List Lexeme) (body : Block) → IsBody states args words body → block_written states words ≡ body
unfolding block_written
whole states args words body is =
    let same : words ≡ written_block states body ++ [] = is.statements ∙ sym (append-nil (written_block states body)) in
    let size : length (written_block states body) ≤ length words = omega (arith, ap length is.statements) in
    ap (λ f. f.found) (ap (read_block (length words) states) same ∙ block_read (length words) states body [] tt size)

expr_same : (e : Term) → term_of (expr_for e) ≡ e
expr_same (Literal n) = term_number n
expr_same (Read s) = term_slot s
expr_same (Negation e) = term_not (expr_for e) ∙ ap Negation (expr_same e)
expr_same (Operation op a b) = term_binary op (expr_for a) (expr_for b) ∙ ap (λ x. Operation op x (term_of (expr_for b))) (expr_same a)
    ∙ ap (Operation op a) (expr_same b)

pub stmts_same : (b : Block) → block_of (stmts_for b) ≡ b
stmts_same End = refl
stmts_same (Set v e next) = ap (λ x. followed x (block_of (stmts_for next))) (block_assign v (expr_for e))
    ∙ ap (λ t. Set v t (block_of (stmts_for next))) (expr_same e) ∙ ap (Set v e) (stmts_same next)
stmts_same (Fork c a b next) = ap (λ x. followed x (block_of (stmts_for next))) (block_if (expr_for c) (stmts_for a) (stmts_for b))
    ∙ ap (λ t. Fork t (block_of (stmts_for a)) (block_of (stmts_for b)) (block_of (stmts_for next))) (expr_same c)
    ∙ ap (λ x. Fork c x (block_of (stmts_for b)) (block_of (stmts_for next))) (stmts_same a)
    ∙ ap (λ x. Fork c a x (block_of (stmts_for next))) (stmts_same b) ∙ ap (Fork c a b) (stmts_same next)

pub bodies : BodiesAreRead
bodies = record { written = whole; stated = stmts_same }
