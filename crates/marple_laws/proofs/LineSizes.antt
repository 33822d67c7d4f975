-- The greatest length of the lines of a plan's text.
use Rattle.marple_laws.proofs.Words
use Words.{Block, Bool, End, Fork, IsValidBlock, IsValidTerm, List, Literal, Negation, Not, Number, Op, Operand, Operation, PlanOp, Read}
use Words.{Register, Set, Term, Two, [], ap, arith, block_count, block_nodes, block_words, codes, decimal, false, flat_map-append}
use Words.{function_word, if◌then◌else◌, length, length-decimal-le, line, number_word, op_line, operand_word, operation_words, slot_word}
use Words.{spaced, state_word, term_nodes, term_words, true, ℕ, ◌*◌, ◌++◌, ◌+◌, ◌-◌, ◌<◌, ◌^◌, ◌∙◌, ◌∷◌, ◌≡◌, ◌≤◌}
use Rattle.marple_laws.proofs.OpLines.{Fits}
use Rattle.std.{proofs.lemmas.List.length-append, specs.Prelude.nat_lt}
use Rattle.query_lang.specs.declared.fold.Op.TheVariants as ops
use Rattle.stage_plan.specs.declared.op.Operation as operation

pub after_size : (word : List ℕ) (words : List (List ℕ)) → length (spaced (word ∷ words)) ≡ length word + length (spaced words) + 1
after_size word words = let n = length-append (32 ∷ word) (spaced words) in omega (arith, n)

after_both : (words more : List (List ℕ)) → length (spaced (words ++ more)) ≡ length (spaced words) + length (spaced more)
after_both words more = ap length (flat_map-append (λ word. 32 ∷ word) words more) ∙ length-append _ _

pub line_size : (first : List ℕ) (words : List (List ℕ)) → length (line first words) ≡ length first + length (spaced words) + 1
line_size first words = omega (arith, length-append {A = ℕ})

pub decimal_size : (n : ℕ) → n < 2 ^ 64 → length (decimal n) ≤ 20
decimal_size n small = length-decimal-le 20 n (omega arith) (omega arith) small

pub short_decimal : (n : ℕ) → n < 100 → length (decimal n) ≤ 2
short_decimal n small = length-decimal-le 2 n (omega arith) (omega arith) (omega arith)

pub operand_size : (o : Operand) → Fits o → length (operand_word o) ≤ 21
operand_size (Register r) fits = let d = decimal_size r fits in omega arith
operand_size (Number n) fits = let d = decimal_size n fits in omega arith

function_size : (op : Op) → length (function_word op) ≤ 6
function_size ops.Mul = omega arith
function_size _ = omega arith

operation_size : (op : operation.Operation) (left right : Operand) → Fits left → Fits right
    → length (spaced (operation_words op left right)) ≤ 51
operation_size Not left right l r =
    let b = after_size (operand_word left) [] in
    omega (arith, after_size, b, operand_size)
operation_size (Two f) left right l r =
    let a = after_size (function_word f) (operand_word left ∷ operand_word right ∷ []) in
    let b = after_size (operand_word left) (operand_word right ∷ []) in
    let c = after_size (operand_word right) [] in
    omega (arith, a, b, c, function_size, operand_size)

pub op_size : (one : PlanOp) → one.stage < 100 → Fits one.left → Fits one.right → length (op_line one) ≤ 57
op_size one stage l r =
    let a = line_size (codes "op") (decimal one.stage ∷ operation_words one.op one.left one.right) in
    let b = after_size (decimal one.stage) (operation_words one.op one.left one.right) in
    omega (arith, a, b, short_decimal, operation_size)

-- ---- the statements of a fold

state_size : (v : ℕ) → v < 2 ^ 64 → length (state_word v) ≤ 21
state_size v small = let d = decimal_size v small in omega arith

slot_size : (states s : ℕ) → s < 2 ^ 64 → length (slot_word states s) ≤ 21
slot_size states s small = go (nat_lt s states)
  where
    go : (b : Bool) → length (if b then state_word s else 97 ∷ decimal (s - states)) ≤ 21
    go true = state_size s small
    go false = omega (arith, decimal_size)

term_size : (slots states : ℕ) → slots < 2 ^ 64 → (t : Term) → IsValidTerm slots t → length (spaced (term_words states t)) ≤ 22
    * term_nodes t
term_size slots states small (Literal n) v =
    let a = after_size (number_word n) [] in
    omega (arith, a, decimal_size)
term_size slots states small (Read s) v =
    let a = after_size (slot_word states s) [] in
    omega (arith, a, slot_size)
term_size slots states small (Negation e) v =
    let h = term_size slots states small e v.0 in
    omega (arith, after_size, h)
term_size slots states small (Operation op a b) v =
    let n = after_size (function_word op) (term_words states a ++ term_words states b) in
    let h = term_size slots states small a v.0 in
    let k = term_size slots states small b v.1 in
    omega (arith, n, after_both, function_size, h, k)

pub block_size : (states args : ℕ) → states + args < 2 ^ 64 → (b : Block) → IsValidBlock states args b
    → length (spaced (block_words states b)) ≤ 22 * block_nodes b + 26 * block_count b
block_size states args small End v = omega arith
block_size states args small (Set v e next) w =
    let b = after_size (state_word v) (term_words states e ++ block_words states next) in
    let d = state_size v (omega (arith, small)) in
    let h = term_size (states + args) states small e w.1 in
    let k = block_size states args small next w.3 in
    omega (arith, after_size, b, after_both, d, h, k)
block_size states args small (Fork c x y next) w =
    let end : List (List ℕ) = codes "}" ∷ block_words states next in
    let other : List (List ℕ) = codes "{" ∷ (block_words states y ++ end) in
    let first : List (List ℕ) = codes "{" ∷ (block_words states x ++ (codes "}" ∷ other)) in
    let j = term_size (states + args) states small c w.0 in
    let k = block_size states args small x w.2 in
    let l = block_size states args small y w.3 in
    let m = block_size states args small next w.4 in
    omega (arith, after_size, after_both, j, k, l, m)
