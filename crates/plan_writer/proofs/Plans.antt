-- The operations and the wiring of each plan of a query are those that its text has.
use Rattle.std.proofs.Common.{◌≡◌, ℕ, zero, suc, ◌+◌, ◌<◌, ◌≤◌, get_or, List, [], ◌∷◌, ◌++◌, length, Option, Some, None, refl, sym, ap}
use Rattle.std.proofs.{Common.{subst, ◌∙◌, arith, append_assoc, append-nil}, lemmas.{Grind.flat_map-append, List.take_more}}
use Rattle.std.proofs.lemmas.Option.{slice_get-map, same_Some, slice_get_within, slice_get-get_or, get_or_from_slice_get}
use Rattle.std.specs.{List.range_with_len, Prelude.{All, map, flat_map, codes, take, slice_get, option_map, option_and_then}}
use Rattle.marple_base.specs.{declared.field.FieldSet.FieldSet, Field.field_name}
use Rattle.query_lang.specs.declared.{typed.{PrintOf.PrintOf, TypedOp.TypedOp}, fold.TypedFold.TypedFold}
use Rattle.stage_plan.specs.Fields.{reads_of}
use Rattle.plan_writer.specs.Words.{spaced, line}
use Rattle.query_lang.specs.declared.typed.TypedOp.TheVariants as op
use Rattle.query_lang.specs.{declared.typed.{TypedQuery.TypedQuery, TypedStream.TypedStream}, Folds.IsValidFold, Streams.{Taking, takings}}
use Rattle.query_lang.specs.{TypedQueries.{AreValidStreams, IsValidOp, IsValidQuery}, declared.fault.TheConstants.MAX_STATES}
use Rattle.stage_plan.specs.{declared.group.{GroupPlan.GroupPlan, GroupWiring.GroupWiring}, Depths.packet_depths, Making.packet_wires}
use Rattle.stage_plan.specs.{Ordering.{moved_op, op_numbered, wiring_of}, Planned.{IsPlanOf, fold_at, query_made}, Registers.stages_of}
use Rattle.stage_plan.{specs.{Shape.{group_shape, query_groups}, Sound.PlanParts}, proofs.Deep.{AllMakes, all_make}}
use Rattle.stage_plan.proofs.{Faults.{made_none, packets_at}, Runs.stage_below, Sorted.Staged}
use Rattle.plan_writer.specs.Ordered.{query_order, query_registers, query_ops, query_wiring}
use Rattle.plan_writer.specs.PlanText.{fields_of, reads_line, op_line, print_line, compiled_text, group_lines, group_lines_of, group_text}
use Rattle.plan_writer.proofs.Once.{registers_are}

-- all operations of a query have a stage from 1 on
pub made_staged : (q : TypedQuery) → Staged (query_made q).ops (stages_of (query_made q).ops)
made_staged q = record {
  some = λ i one e. omega (arith, (all.added.made.each i one e).stage);
  most = λ i one e. stage_below (query_made q).ops i one e;
}
  where
    all : AllMakes q.folds [] (packet_wires ∷ []) (packet_depths ∷ []) q.streams
    all = all_make q.folds [] (packet_wires ∷ []) (packet_depths ∷ []) q.streams made_none refl packets_at

-- the registers of a plan
plan_registers : (q : TypedQuery) (p : PlanParts) (h : IsPlanOf q p) → h.staged.registers ≡ query_registers q
plan_registers q p h = registers_are (query_made q).ops (stages_of (query_made q).ops) h.staged.registers (made_staged q) h.staged.placed
    h.staged.all

pub ops_are : (q : TypedQuery) (p : PlanParts) → IsPlanOf q p → p.ops ≡ query_ops q
ops_are q p h = h.staged.ops_are ∙ ap (λ r. map (λ number. moved_op r (op_numbered (query_made q).ops number)) (query_order q))
    (plan_registers q p h)

pub wiring_is : (q : TypedQuery) (p : PlanParts) → IsPlanOf q p → p.wiring ≡ query_wiring q
wiring_is q p h = h.staged.wiring_is ∙ ap (λ r. map (wiring_of r (query_made q).streams) (takings q.streams)) (plan_registers q p h)

-- the lines of a groupby of a plan
pub group_is : (q : TypedQuery) (p : PlanParts) (i : ℕ) (group : GroupPlan) (wiring : GroupWiring) (f : TypedFold) → IsPlanOf q p →
    slice_get p.groups i ≡ Some group → slice_get p.wiring i ≡ Some wiring → fold_at q i ≡ Some f
    → group_lines (group_shape group) wiring f ≡ group_text q i
group_is q p i group wiring f h g w e = sym (
    ap (λ s. group_lines_of s (slice_get (query_wiring q) i) (fold_at q i)) shape
    ∙ ap (λ s. group_lines_of (Some (group_shape group)) s (fold_at q i)) (ap (λ l. slice_get l i) (sym (wiring_is q p h)) ∙ w)
    ∙ ap (group_lines_of (Some (group_shape group)) (Some wiring)) e)
  where
    shape : slice_get (query_groups q) i ≡ Some (group_shape group)
    shape = ap (λ s. slice_get s.groups i) (sym h.shape) ∙ slice_get-map group_shape p.groups i ∙ ap (option_map group_shape) g

-- each groupby of a valid query has a fold

abbrev HasFold : List TypedFold → Taking → Type 0
HasFold folds t = t.fold_number < length folds

folds_there : (names : ℕ) (folds : List TypedFold) (before streams : List TypedStream) → AreValidStreams names folds before streams →
    (i : ℕ) (t : Taking) → slice_get (takings streams) i ≡ Some t → HasFold folds t
folds_there names folds before [] valid i t e = absurd (no e)
  where
    no : None ≡ Some t → ⊥
    no f = cc
folds_there names folds before (one ∷ streams) valid i t e = by_op one.op valid.0.operator
    (folds_there names folds (before ++ one ∷ []) streams valid.1) i e
  where
    by_op : (o : TypedOp) → IsValidOp folds before (length one.columns) o
        → ((i : ℕ) (t : Taking) → slice_get (takings streams) i ≡ Some t → HasFold folds t) →
        (i : ℕ) → slice_get (takings (record one { op = o } ∷ streams)) i ≡ Some t → HasFold folds t
    by_op (op.Filter input condition) v rest i e = rest i t e
    by_op (op.Map input values) v rest i e = rest i t e
    by_op (op.Zip left right slots) v rest i e = rest i t e
    by_op (op.Group input keys f args) v rest zero e =
        let same : record { input = input; keys = keys; fold_number = f; args = args } ≡ t = same_Some _ t e in
        subst (HasFold folds) same v.1.is_fold
    by_op (op.Group input keys f args) v rest (suc i) e = rest i t e

-- the number of a groupby's fold, and the fold
pub record FoldFound (q : TypedQuery) (i number : ℕ) : Type 0 where
  pub within : number < length q.folds
  pub fold : (f : TypedFold) → slice_get q.folds number ≡ Some f → fold_at q i ≡ Some f

pub fold_found : (q : TypedQuery) (numbers : List ℕ) (i number : ℕ) → IsValidQuery q
    → numbers ≡ map (λ t. t.fold_number) (takings q.streams) → slice_get numbers i ≡ Some number → FoldFound q i number
fold_found q numbers i number valid are e = go (slice_get (takings q.streams) i) refl
  where
    number_at_i : slice_get numbers i ≡ option_map (λ (t : Taking). t.fold_number) (slice_get (takings q.streams) i)
    number_at_i = ap (λ l. slice_get l i) are ∙ slice_get-map (λ (t : Taking). t.fold_number) (takings q.streams) i

    go : (o : Option Taking) → slice_get (takings q.streams) i ≡ o → FoldFound q i number
    go None h = let none : None ≡ Some number = sym (number_at_i ∙ ap (option_map (λ (t : Taking). t.fold_number)) h)
        ∙ e in absurd (no none)
      where
        no : None ≡ Some number → ⊥
        no f = cc
    go (Some t) h =
        let same : t.fold_number ≡ number = same_Some t.fold_number number
        (sym (number_at_i ∙ ap (option_map (λ (t : Taking). t.fold_number)) h) ∙ e) in
        record {
          within = (let l : t.fold_number < length q.folds = folds_there (length q.names) q.folds [] q.streams valid.streams i t h in omega
              (arith, l, same));
          fold = λ f found. ap (option_and_then (λ (t : Taking). slice_get q.folds t.fold_number)) h ∙ ap (slice_get q.folds) same ∙ found;
        }

pub number_at_place : (numbers : List ℕ) (i number d : ℕ) → i < length numbers → number ≡ get_or numbers i d
    → slice_get numbers i ≡ Some number
number_at_place numbers i number d lt e = slice_get-get_or numbers i d lt ∙ ap Some (sym e)

-- a fold of a valid query has few state variables
pub few_states : (folds : List TypedFold) (number : ℕ) (f : TypedFold) → All IsValidFold folds → slice_get folds number ≡ Some f
    → length f.state_names ≤ MAX_STATES
few_states folds number f valid e =
    let v : IsValidFold f = subst IsValidFold (get_or_from_slice_get folds number f f e)
    (valid number f (slice_get_within folds number f e)) in
    v.states

-- one more item of a list is written
pub items_more : {A : Type 0} (said : A → List ℕ) (xs : List A) (i : ℕ) (x : A) (t0 t1 t2 : List ℕ) → slice_get xs i ≡ Some x → t1 ≡ t0
    ++ flat_map said (take i xs) → t2 ≡ t1 ++ said x → t2 ≡ t0 ++ flat_map said (take (i + 1) xs)
items_more said xs i x t0 t1 t2 found e f = f ∙ ap (λ t. t ++ said x) e ∙ append_assoc t0 (flat_map said (take i xs)) (said x)
    ∙ ap (λ l. t0 ++ (flat_map said (take i xs) ++ l)) (sym (append-nil (said x)))
    ∙ ap (λ l. t0 ++ l) (sym (flat_map-append said (take i xs) (x ∷ []))) ∙ ap (λ l. t0 ++ flat_map said l) (sym one_more)
  where
    one_more : take (i + 1) xs ≡ take i xs ++ x ∷ []
    one_more = take_more xs i x (slice_get_within xs i x found) ∙ ap (λ y. take i xs ++ y ∷ []) (get_or_from_slice_get xs i x x found)

range_more : (a n : ℕ) → range_with_len a (n + 1) ≡ range_with_len a n ++ (a + n) ∷ []
range_more a n = (let z : n + 1 ≡ suc n = omega arith in ap (range_with_len a) z) ∙ go a n
  where
    go : (a n : ℕ) → range_with_len a (suc n) ≡ range_with_len a n ++ (a + n) ∷ []
    go a zero = let z : a ≡ a + 0 = omega arith in ap (λ m. m ∷ []) z
    go a (suc n) = let z : a + 1 + n ≡ a + suc n = omega arith in ap (λ l. a ∷ l)
        (go (a + 1) n ∙ ap (λ m. range_with_len (a + 1) n ++ m ∷ []) z)

-- one more groupby is written
pub groups_more : (said : ℕ → List ℕ) (i : ℕ) (t0 t1 t2 : List ℕ) → t1 ≡ t0 ++ flat_map said (range_with_len 0 i) → t2 ≡ t1 ++ said i
    → t2 ≡ t0 ++ flat_map said (range_with_len 0 (i + 1))
groups_more said i t0 t1 t2 e f = f ∙ ap (λ t. t ++ said i) e ∙ append_assoc t0 (flat_map said (range_with_len 0 i)) (said i)
    ∙ ap (λ l. t0 ++ (flat_map said (range_with_len 0 i) ++ l)) (sym (append-nil (said i)))
    ∙ ap (λ l. t0 ++ l) (sym (flat_map-append said (range_with_len 0 i) (i ∷ [])))
    ∙ ap (λ l. t0 ++ flat_map said l) (sym (range_more 0 i ∙ (let z : 0 + i ≡ i = omega arith in ap (λ m. range_with_len 0 i ++ m ∷ []) z)))

-- the first two lines
pub head_is : (reads : FieldSet) (t0 t1 t2 t3 : List ℕ) → t1 ≡ t0 ++ codes "marple-plan 1\nreads" → t2 ≡ t1
    ++ spaced (map field_name (fields_of reads)) → t3 ≡ t2 ++ 10 ∷ [] →
    t3 ≡ t0 ++ (line (codes "marple-plan") (codes "1" ∷ []) ++ reads_line reads)
head_is reads t0 t1 t2 t3 e f g =
    let x = spaced (map field_name (fields_of reads)) in
    g ∙ ap (λ t. t ++ 10 ∷ []) f ∙ ap (λ t. (t ++ x) ++ 10 ∷ []) e ∙ append_assoc (t0 ++ codes "marple-plan 1\nreads") x (10 ∷ [])
    ∙ append_assoc t0 (codes "marple-plan 1\nreads") (x ++ 10 ∷ [])

-- The pieces of a plan's text, in sequence.
pub text_is : (q : TypedQuery) (p : PlanParts) (reads : FieldSet) (prints : List PrintOf) (t0 t1 t2 t3 t4 : List ℕ) → IsPlanOf q p
    → reads ≡ p.reads → prints ≡ q.prints → t0 ≡ [] →
    t1 ≡ t0 ++ (line (codes "marple-plan") (codes "1" ∷ []) ++ reads_line reads) → t2 ≡ t1 ++ flat_map op_line p.ops →
    t3 ≡ t2 ++ flat_map (group_text q) (range_with_len 0 (length (takings q.streams))) → t4 ≡ t3 ++ flat_map print_line prints
    → t4 ≡ compiled_text q
unfolding compiled_text
text_is q p reads prints t0 t1 t2 t3 t4 h er ep e0 e1 e2 e3 e4 =
    let a = line (codes "marple-plan") (codes "1" ∷ []) in
    let d = flat_map (group_text q) (range_with_len 0 (length (takings q.streams))) in
    let all : t4 ≡ ((([] ++ (a ++ reads_line reads)) ++ flat_map op_line p.ops) ++ d) ++ flat_map print_line prints = e4
    ∙ ap (λ t. t ++ flat_map print_line prints) (e3 ∙ ap (λ t. t ++ d)
    (e2 ∙ ap (λ t. t ++ flat_map op_line p.ops) (e1 ∙ ap (λ t. t ++ (a ++ reads_line reads)) e0))) in
    all ∙ flat a (reads_line reads) (flat_map op_line p.ops) d (flat_map print_line prints)
    ∙ ap (λ r. a ++ (reads_line r ++ (flat_map op_line p.ops ++ (d ++ flat_map print_line prints)))) (er ∙ h.reads)
    ∙ ap (λ o. a ++ (reads_line (reads_of q) ++ (flat_map op_line o ++ (d ++ flat_map print_line prints)))) (ops_are q p h)
    ∙ ap (λ l. a ++ (reads_line (reads_of q) ++ (flat_map op_line (query_ops q) ++ (d ++ flat_map print_line l)))) ep
  where
    flat : (a b c d e : List ℕ) → ((([] ++ (a ++ b)) ++ c) ++ d) ++ e ≡ a ++ (b ++ (c ++ (d ++ e)))
    flat a b c d e = simp (append_assoc)
