-- The greatest length of the lines of a plan's groupbys.
use Rattle.marple_laws.proofs.{LineSizes.{after_size, block_size, decimal_size, line_size, operand_size}, NameSizes.total, OpLines.Fits}
use Rattle.marple_laws.proofs.Words
use Words.{All, AllWords, AreValidStreams, Bool, Class, GroupShape, GroupWiring, IsValidFold, IsValidOp, List, MAX_ARGS, MAX_KEYS}
use Words.{MAX_NODES, MAX_STATEMENTS, MAX_STATES, None, Operand, Option, Some, Taking, TypedFold, TypedOp, TypedStream, [], arith}
use Words.{block_words, class_word, codes, cons_option, decimal, depth_of, false, flat_map, fold_args, fold_block, fold_states, group_lines}
use Words.{if◌then◌else◌, least_from, length, line, named_lines, operand_word, option_map, range_with_len, refl, same_Some, subst, suc}
use Words.{taking_of, takings, true, zero, ℕ, ◌*◌, ◌++◌, ◌+◌, ◌∷◌, ◌≡◌, ◌≤◌}
use Rattle.marple_laws.proofs.Texts.{all_at}
use Rattle.std.{proofs.lemmas.List.length-append, specs.Prelude.{map, slice_get}}
use Rattle.query_lang.specs.declared.typed.Class.TheVariants as class
use Rattle.query_lang.specs.declared.typed.TypedOp.TheVariants as typed

-- words of at most 21 bytes
abbrev AreShort : List (List ℕ) → Type 0
AreShort [] = Unit {0}
AreShort (word ∷ words) = (length word ≤ 21) × AreShort words

abbrev pub AllFit : List Operand → Type 0
AllFit [] = Unit {0}
AllFit (o ∷ operands) = Fits o × AllFit operands

operands_short : (operands : List Operand) → AllFit operands → AreShort (map operand_word operands)
operands_short [] fit = tt
operands_short (o ∷ operands) fit = (operand_size o fit.0, operands_short operands fit.1)

words_short : (numbers : List ℕ) → AllWords numbers → AreShort (map decimal numbers)
words_short [] all = tt
words_short (n ∷ numbers) all = ((let d = decimal_size n all.0 in omega arith), words_short numbers all.1)

named_size : (word : List ℕ) → length word ≤ 5 → (names lasts : List (List ℕ)) → AreShort lasts
    → length (named_lines word names lasts) ≤ total names + 29 * length names
named_size word short [] lasts are = omega arith
named_size word short (name ∷ names) [] are = omega arith
named_size word short (name ∷ names) (last ∷ lasts) are =
    let a = after_size name (last ∷ []) in
    let b = after_size last [] in
    let h = named_size word short names lasts are.1 in
    omega (arith, length-append {A = ℕ}, line_size, a, b, h, short)

args_size : (args : List Operand) → AllFit args → length (flat_map (λ a. line (codes "arg") (operand_word a ∷ [])) args) ≤ 26 * length args
args_size [] fit = omega arith
args_size (o ∷ args) fit =
    let n = length-append (line (codes "arg") (operand_word o ∷ [])) (flat_map (λ a. line (codes "arg") (operand_word a ∷ [])) args) in
    let l = line_size (codes "arg") (operand_word o ∷ []) in
    let a = after_size (operand_word o) [] in
    let h = args_size args fit.1 in
    omega (arith, n, l, a, operand_size, h)

class_size : (c : Class) → length (class_word c) ≤ 6
class_size class.Linear = omega arith
class_size class.Other = omega arith

-- what bounds the lines of a groupby
pub record IsLimited (shape : GroupShape) (wiring : GroupWiring) (f : TypedFold) : Type 0 where
  pub present : Fits wiring.present
  pub keys : AllFit wiring.keys
  pub args : AllFit wiring.args
  pub initial : AllWords f.initial
  pub most_keys : length shape.key_names ≤ MAX_KEYS
  pub most_args : length wiring.args ≤ MAX_ARGS
  pub most_states : length shape.state_names ≤ MAX_STATES
  pub valid : IsValidFold f
  pub depth : shape.depth ≤ MAX_STATES
  pub nodes : shape.nodes ≤ MAX_NODES
  pub statements : shape.statements ≤ MAX_STATEMENTS

head_size : {shape : GroupShape} {wiring : GroupWiring} {f : TypedFold} → IsLimited shape wiring f
    → length (line (codes "group") (shape.name ∷ operand_word wiring.present ∷ [])) ≤ 29 + length shape.name
head_size {shape} {wiring} l =
    let n = line_size (codes "group") (shape.name ∷ operand_word wiring.present ∷ []) in
    let a = after_size shape.name (operand_word wiring.present ∷ []) in
    let b = after_size (operand_word wiring.present) [] in
    omega (arith, n, a, b, operand_size)

body_size : (f : TypedFold) → IsValidFold f → length (line (codes "body") (block_words (length f.state_names) (fold_block f))) ≤ 12933
body_size f v =
    let n = line_size (codes "body") (block_words (length f.state_names) (fold_block f)) in
    let b = block_size (fold_states f) (fold_args f) (omega arith) (fold_block f) v.statements in
    omega arith

fold_size : (shape : GroupShape) → shape.depth ≤ MAX_STATES → shape.nodes ≤ MAX_NODES → shape.statements ≤ MAX_STATEMENTS
    → length (line (codes "fold") (class_word shape.class ∷ decimal shape.depth ∷ decimal shape.nodes ∷ decimal shape.statements ∷ [])) ≤ 75
fold_size shape depth nodes statements =
    let n = line_size (codes "fold") (class_word shape.class ∷ decimal shape.depth ∷ decimal shape.nodes ∷ decimal shape.statements ∷ []) in
    let a = after_size (class_word shape.class) (decimal shape.depth ∷ decimal shape.nodes ∷ decimal shape.statements ∷ []) in
    let b = after_size (decimal shape.depth) (decimal shape.nodes ∷ decimal shape.statements ∷ []) in
    let c = after_size (decimal shape.nodes) (decimal shape.statements ∷ []) in
    let d = after_size (decimal shape.statements) [] in
    omega (arith, n, a, b, c, d, class_size, decimal_size)

pub group_size : (shape : GroupShape) (wiring : GroupWiring) (f : TypedFold) → IsLimited shape wiring f
    → length (group_lines shape wiring f) ≤ 14000 + length shape.name + (total shape.key_names + total shape.state_names)
group_size shape wiring f l =
    let keys = named_size (codes "key") (omega arith) shape.key_names (map operand_word wiring.keys) (operands_short wiring.keys l.keys) in
    let states = named_size (codes "state") (omega arith) shape.state_names (map decimal f.initial) (words_short f.initial l.initial) in
    let head_line : List ℕ = line (codes "group") (shape.name ∷ operand_word wiring.present ∷ []) in
    let key_lines : List ℕ = named_lines (codes "key") shape.key_names (map operand_word wiring.keys) in
    let arg_lines : List ℕ = flat_map (λ a. line (codes "arg") (operand_word a ∷ [])) wiring.args in
    let state_lines : List ℕ = named_lines (codes "state") shape.state_names (map decimal f.initial) in
    let body_line : List ℕ = line (codes "body") (block_words (length f.state_names) (fold_block f)) in
    let fold_line : List ℕ = line (codes "fold") (class_word shape.class ∷ decimal shape.depth ∷ decimal shape.nodes
    ∷ decimal shape.statements ∷ []) in
    let a = length-append body_line fold_line in
    let e : length (group_lines shape wiring f) ≡ length head_line + length
    (key_lines ++ (arg_lines ++ (state_lines ++ (body_line ++ fold_line)))) =
    length-append head_line (key_lines ++ (arg_lines ++ (state_lines ++ (body_line ++ fold_line)))) in
    omega (arith, head_size, keys, args_size, states, body_size, fold_size, a, length-append {A = ℕ}, e)

-- ---- what is small

pub depth_below : (f : TypedFold) (tries d : ℕ) → least_from f tries d ≤ tries + d
depth_below f zero d = omega arith
depth_below f (suc tries) d = by _ (depth_below f _ _)
  where
    by : (b : Bool) → least_from f tries (suc d) ≤ tries + suc d → (if b then d else least_from f tries (suc d)) ≤ suc tries + d
    by true h = omega arith
    by false h = omega arith

pub shallow : {f : TypedFold} → IsValidFold f → depth_of f ≤ MAX_STATES
shallow {f} v = omega (arith, depth_below)

args_few : (folds : List TypedFold) (number n : ℕ) → All IsValidFold folds → option_map fold_args (slice_get folds number) ≡ Some n
    → n ≤ MAX_ARGS
args_few folds number n valid e = by (slice_get folds number) refl e
  where
    by : (o : Option TypedFold) → slice_get folds number ≡ o → option_map fold_args o ≡ Some n → n ≤ MAX_ARGS
    by None h e = cc
    by (Some f) h e =
        let same = same_Some (fold_args f) n e in
        let few = (all_at IsValidFold folds number f valid h).args in
        omega (arith, same, few)

pub taking_few : (names : ℕ) (folds : List TypedFold) → All IsValidFold folds → (before streams : List TypedStream)
    → AreValidStreams names folds before streams → (i : ℕ) (t : Taking) → slice_get (takings streams) i ≡ Some t → length t.args ≤ MAX_ARGS
taking_few names folds valid before [] v i t e = cc
taking_few names folds valid before (one ∷ rest) v i t e =
    by _ v.0.operator (taking_few names folds valid (before ++ one ∷ []) rest v.1) i e
  where
    by : (o : TypedOp) → IsValidOp folds before (length one.columns) o
        → ((i : ℕ) (t : Taking) → slice_get (takings rest) i ≡ Some t → length t.args ≤ MAX_ARGS)
        → (i : ℕ) → slice_get (cons_option (taking_of o) (takings rest)) i ≡ Some t → length t.args ≤ MAX_ARGS
    by (typed.Filter input condition) w more i e = more i t e
    by (typed.Map input values) w more i e = more i t e
    by (typed.Zip left right slots) w more i e = more i t e
    by (typed.Group input keys f args) w more zero e =
        let same : record { input = input; keys = keys; fold_number = f; args = args } ≡ t = same_Some _ t e in
        subst (λ (u : Taking). length u.args ≤ MAX_ARGS) same (args_few folds f (length args) valid w.1.all_args)
    by (typed.Group input keys f args) w more (suc i) e = more i t e

-- the lines of groupbys with these names, each of at most 79,690 bytes beside its name
pub groups_size : (f : ℕ → List ℕ) (shapes : List GroupShape) (k n : ℕ)
    → ((i : ℕ) (shape : GroupShape) → slice_get shapes i ≡ Some shape → length (f (k + i)) ≤ 79690 + length shape.name)
    → ((i : ℕ) → slice_get shapes i ≡ None → length (f (k + i)) ≡ 0)
    → length (flat_map f (range_with_len k n)) ≤ 79690 * n + total (map (λ shape. shape.name) shapes)
groups_size f shapes k zero each none = omega arith
groups_size f [] k (suc n) each none =
    let first : length (f k) ≡ 0 = subst (λ m. length (f m) ≡ 0) (omega arith) (none 0 refl) in
    let rest = groups_size f [] (k + 1) n (λ i shape e. cc)
    (λ i e. subst (λ m. length (f m) ≡ 0) (omega arith) (none (suc i) refl)) in
    omega (arith, first, rest, length-append {A = ℕ})
groups_size f (s ∷ shapes) k (suc n) each none =
    let first : length (f k) ≤ 79690 + length s.name = subst (λ m. length (f m) ≤ 79690 + length s.name) (omega arith) (each 0 s refl) in
    let rest = groups_size f shapes (k + 1) n (λ i shape e. subst (λ m. length (f m) ≤ 79690 + length shape.name) (omega arith)
    (each (suc i) shape e))
    (λ i e. subst (λ m. length (f m) ≡ 0) (omega arith) (none (suc i) e)) in
    omega (arith, first, rest, length-append {A = ℕ})
