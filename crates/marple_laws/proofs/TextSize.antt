-- The text of a query's plan is not too long.
use Rattle.marple_laws.proofs.Words
use Words.{◌≡◌, ℕ, zero, suc, ◌+◌, ◌-◌, ◌*◌, ◌^◌, ◌<◌, ◌≤◌, Bool, true, false, cond, List, [], ◌∷◌, ◌++◌, length, Option, Some, None, refl}
use Words.{sym, ap, subst, inl, inr, arith, All, codes, decimal, flat_map, option_and_then, option_map, ◌==◌, if◌then◌else◌, range_with_len}
use Words.{eqb-false, nat_tests, length-map, All-tail, prefix_len-le-length, same_Some, slice_get-map, Field, FieldSet, field_name}
use Words.{has_field, FIELDS, TypedFold, PrintOf, TypedOp, TypedQuery, TypedStream, IsValidFold, Taking, takings, AreValidStreams, HasNames}
use Words.{IsQueryTable, IsValidOp, IsValidQuery, MAX_GROUPBYS, MAX_KEYS, depth_of, Operand, Register, Number, PlanOp, FieldSource}
use Words.{all_sources, reads_of, sources_at, moved, moved_op, op_numbered, register_or_none, wiring_of, fold_at, query_made, GroupShape}
use Words.{query_groups, shape_made, text_at, MAX_PLAN, query_ops, query_order, query_registers, query_wiring, register_in, compiled_text}
use Words.{fields_of, group_lines_of, group_text, op_line, print_line, reads_line, spaced, line, AllWords, AreNew, IsNamedWell}
use Rattle.std.{specs.Prelude.{filter, map, nat_eq, nat_lt, not, slice_get}, proofs.lemmas.List.length-append}
use Rattle.query_lang.specs.declared.typed.PrintOf.TheVariants as place
use Rattle.query_lang.specs.declared.typed.TypedOp.TheVariants as typed
use Rattle.stage_plan.specs.{Depths.stage_fault, Making.{operand_at, wires_at}}
use Rattle.marple_laws.proofs.{Known.{AreFrom, IsFrom, IsGood, IsWritable, writable_at}, KnownStreams.{AllAreGood, AreFit, query_good}}
use Rattle.marple_laws.proofs.{OpLines.Fits, Items.{IsIn, mapped_at}, Prints.AreGroups, Texts.{IsMadeBy, all_at, group_from, made_by}}
use Rattle.marple_laws.proofs.Texts.{stream_below}
use Rattle.marple_laws.proofs.{Differ.HasOwnColumns, Counts.{few_ops, made_of_query}, Moved.op_from}
use Rattle.marple_laws.proofs.LineSizes.{after_size, decimal_size, line_size, op_size}
use Rattle.marple_laws.proofs.NameSizes.{columns_total, field_size, group_names_total, taken, texts_in, total, weigh}
use Rattle.marple_laws.proofs.GroupSizes.{AllFit, IsLimited, group_size, groups_size, shallow, taking_few}

-- ---- the fields and the prints

fields_size : (reads : FieldSet) (fields : List Field) → length (spaced (map field_name (filter (has_field reads) fields))) ≤ 12
    * length fields
fields_size reads [] = omega arith
fields_size reads (f ∷ fields) = go (has_field reads f) (fields_size reads fields)
  where
    go : (b : Bool) → length (spaced (map field_name (filter (has_field reads) fields))) ≤ 12 * length fields
        → length (spaced (map field_name (cond b (f ∷ filter (has_field reads) fields) (filter (has_field reads) fields)))) ≤ 12
        * length (f ∷ fields)
    go true h =
        let a = after_size (field_name f) (map field_name (filter (has_field reads) fields)) in
        omega (arith, h, a, field_size)
    go false h = omega (arith, h)

reads_size : (reads : FieldSet) → length (reads_line reads) ≤ 174
reads_size reads =
    let n = line_size (codes "reads") (map field_name (fields_of reads)) in
    omega (arith, n, fields_size)

prints_size : (q : TypedQuery) → length (takings q.streams) ≤ MAX_GROUPBYS → (prints : List PrintOf) → All (IsQueryTable q) prints
    → length (flat_map print_line prints) ≤ 27 * length prints
prints_size q few [] all = omega arith
prints_size q few (place.Group i ∷ prints) all =
    let lt : i < length (takings q.streams) = all 0 (place.Group i) (omega arith) in
    let n = length-append (line (codes "print") (decimal i ∷ [])) (flat_map print_line prints) in
    let l = line_size (codes "print") (decimal i ∷ []) in
    let b = after_size (decimal i) [] in
    let h = prints_size q few prints (All-tail (IsQueryTable q) (place.Group i) prints all) in
    omega (arith, n, l, b, decimal_size, h)
prints_size q few (place.Final i ∷ prints) all =
    let h = prints_size q few prints (All-tail (IsQueryTable q) (place.Final i) prints all) in
    omega (arith, h)

abbrev up : ℕ → List PrintOf
up zero = []
up (suc n) = place.Group n ∷ up n

up_long : (n : ℕ) → weigh (λ p. 1) (up n) ≡ n
up_long zero = refl
up_long (suc n) = let h = up_long n in omega arith

as_long : (prints : List PrintOf) → weigh (λ p. 1) prints ≡ length prints
as_long [] = refl
as_long (p ∷ prints) = let h = as_long prints in omega (arith, h)

in_up : (i n : ℕ) → i < n → IsIn (place.Group i) (up n)
in_up i zero lt = absurd (omega (arith, lt))
in_up i (suc n) lt = go (nat_eq i n) refl (in_up i n)
  where
    go : (b : Bool) → nat_eq i n ≡ b → (i < n → IsIn (place.Group i) (up n)) → IsIn (place.Group i) (up (suc n))
    go true e more = let same : i ≡ n = grind (arith, nat_tests) in inl (ap place.Group same)
    go false e more = inr (more (omega (arith, lt, eqb-false)))

prints_in : (q : TypedQuery) (prints : List PrintOf) → All (IsQueryTable q) prints → AreGroups prints → (p : PrintOf) → IsIn p prints
    → IsIn p (up (length (takings q.streams)))
prints_in q [] all are p i = absurd i
prints_in q (place.Group n ∷ prints) all are p (inl e) =
    subst (λ x. IsIn x (up (length (takings q.streams)))) (sym e) (in_up n (length (takings q.streams))
    (all 0 (place.Group n) (omega arith)))
prints_in q (place.Group n ∷ prints) all are p (inr i) = prints_in q prints (All-tail (IsQueryTable q) (place.Group n) prints all) are p i
prints_in q (place.Final n ∷ prints) all are p i = absurd are

few_prints : (q : TypedQuery) → IsValidQuery q → AreGroups q.prints → AreNew [] q.prints → length q.prints ≤ MAX_GROUPBYS
few_prints q v are new =
    let t = taken (λ p. 1) q.prints (up (length (takings q.streams))) [] new (prints_in q _ v.prints are) in
    let a = up_long (length (takings q.streams)) in
    let b = as_long q.prints in
    omega arith

-- ---- operands

abbrev NumFits : Operand → Type 0
NumFits (Register r) = Unit {0}
NumFits (Number n) = n < 2 ^ 64

good_fits : (reads : FieldSet) (o : Operand) → IsGood reads o → NumFits o
good_fits reads (Register r) g = tt
good_fits reads (Number n) g = g

from_fits : (reads : FieldSet) (s : FieldSource) (o : Operand) → IsFrom reads s o → NumFits o
from_fits reads None o h = good_fits _ o h
from_fits reads (Some f) o h = subst NumFits (sym h) tt

column_fits : (reads : FieldSet) (sources : List FieldSource) (columns : List Operand) (slot : ℕ) → AreFrom reads sources columns
    → NumFits (operand_at columns slot)
column_fits reads [] [] slot h = omega arith
column_fits reads (s ∷ sources) (o ∷ columns) zero h = from_fits _ s o h.0
column_fits reads (s ∷ sources) (o ∷ columns) (suc slot) h = column_fits reads sources columns slot h.1
column_fits reads _ _ _ h = absurd h

abbrev AreSmall : List ℕ → Type 0
AreSmall registers = (k r : ℕ) → slice_get registers k ≡ Some r → r < 2 ^ 64

moved_fits : (registers : List ℕ) → AreSmall registers → (o : Operand) → NumFits o → Fits (moved registers o)
moved_fits registers small (Number n) g = g
moved_fits registers small (Register r) g = by _ refl
  where
    new : (o : Option ℕ) → slice_get registers (r - FIELDS) ≡ o → Fits (register_or_none o)
    new None e = omega arith
    new (Some x) e = small _ x e

    by : (b : Bool) → nat_lt r FIELDS ≡ b → Fits (if b then Register r else register_or_none (slice_get registers (r - FIELDS)))
    by true e = let lt : r < FIELDS = grind arith in omega arith
    by false e = new _ refl

slots_fit : (registers : List ℕ) → AreSmall registers → (reads : FieldSet) (sources : List FieldSource) (columns : List Operand)
    → AreFrom reads sources columns → (slots : List ℕ) → AllFit (map (λ slot. moved registers (operand_at columns slot)) slots)
slots_fit registers small reads sources columns from [] = tt
slots_fit registers small reads sources columns from (slot ∷ slots) = (
  moved_fits registers small (operand_at columns slot) (column_fits reads sources columns slot from),
  slots_fit registers small reads sources columns from slots,
)

ops_size : (ops : List PlanOp) → ((i : ℕ) (one : PlanOp) → slice_get ops i ≡ Some one → length (op_line one) ≤ 57)
    → length (flat_map op_line ops) ≤ 57 * length ops
ops_size [] each = omega arith
ops_size (one ∷ ops) each =
    let a = length-append (op_line one) (flat_map op_line ops) in
    let b = each 0 one refl in
    let h = ops_size ops (λ i x e. each (suc i) x e) in
    omega (arith, a, b, h)

-- ---- how many key columns a groupby has

keys_few : (folds : List TypedFold) (before : List TypedStream) (names : List (List ℕ)) (one : TypedStream) (width : ℕ) (op : TypedOp)
    (shape : GroupShape) → IsValidOp folds before width op → shape_made names folds one op ≡ Some shape → width ≤ MAX_KEYS
keys_few folds before names one width (typed.Group input keys f args) shape w e =
    let same = w.2 in
    let few = w.1.most_keys in
    omega arith
keys_few folds before names one width _ shape w e = cc

columns_few : (count : ℕ) (names : List (List ℕ)) (folds : List TypedFold) (before streams : List TypedStream)
    → AreValidStreams count folds before streams → (j : ℕ) (one : TypedStream) (shape : GroupShape) → slice_get streams j ≡ Some one
    → shape_made names folds one one.op ≡ Some shape → length one.columns ≤ MAX_KEYS
columns_few count names folds before [] v j one shape e made = cc
columns_few count names folds before (s ∷ streams) v zero one shape e made =
    let same : s ≡ one = same_Some s one e in
    keys_few folds before names one (length one.columns) one.op shape (subst
    (λ (t : TypedStream). IsValidOp folds before (length t.columns) t.op) same v.0.operator) made
columns_few count names folds before (s ∷ streams) v (suc j) one shape e made =
    columns_few count names folds (before ++ s ∷ []) streams v.1 j one shape e made

module _ (q : TypedQuery) (v : IsValidQuery q) (staged : stage_fault q ≡ None)
    (initial : (i : ℕ) (f : TypedFold) → slice_get q.folds i ≡ Some f → AllWords f.initial)
    (own : (i : ℕ) (one : TypedStream) → slice_get q.streams i ≡ Some one → HasOwnColumns q.folds one.columns one.op)
    (well : (i : ℕ) (shape : GroupShape) → slice_get (query_groups q) i ≡ Some shape → IsNamedWell shape) (short : total q.names ≤ 65690)
  where
    fit : AreFit q.folds
    fit i f e = (all_at IsValidFold q.folds i f v.folds e, initial i f e)

    good : AllAreGood (reads_of q) (all_sources q) (query_made q)
    good = query_good _ _ _ fit v.streams

    order_few : length (query_order q) ≤ 20512
    order_few =
        let n = few_ops v staged in
        let m = length-map (query_order q) (λ number. moved_op (query_registers q) (op_numbered (query_made q).ops number)) in
        omega arith

    register_small : (c : ℕ) → register_in (query_order q) c < 2 ^ 64
    register_small c =
        let p = prefix_len-le-length (λ other. not (other == c)) (query_order q) in
        let f = order_few in
        omega arith

    small : AreSmall (query_registers q)
    small k r e =
        let c = mapped_at (register_in (query_order q)) (range_with_len 0 (length (query_made q).ops)) k r e in
        subst (λ x. x < 2 ^ 64) c.2 (register_small c.0)

    each_op : (i : ℕ) (one : PlanOp) → slice_get (query_ops q) i ≡ Some one → length (op_line one) ≤ 57
    each_op i one e =
        let o = op_from q i one e in
        let w : IsWritable (reads_of q) o.1 = writable_at (query_made q).ops o.0 good.written o.2 in
        let s = ((made_of_query q staged).made.each o.0 o.1 o.2).stage in
        subst (λ x. length (op_line x) ≤ 57) o.3
        (op_size (moved_op (query_registers q) o.1) (omega arith)
        (moved_fits (query_registers q) small _ (good_fits (reads_of q) _ w.left))
        (moved_fits (query_registers q) small _ (good_fits (reads_of q) _ w.right)))

    limited : (shape : GroupShape) (j : ℕ) (one : TypedStream) (t : Taking) (i : ℕ) (f : TypedFold) (number : ℕ)
        → slice_get q.streams j ≡ Some one
        → shape_made q.names q.folds one one.op ≡ Some shape → slice_get (takings q.streams) i ≡ Some t → slice_get q.folds number ≡ Some f
        → IsMadeBy q.names q.folds one shape → IsLimited shape (wiring_of (query_registers q) (query_made q).streams t) f
    limited shape j one t i f number here shaped there fold made = record {
      present = moved_fits (query_registers q) small (wires_at (query_made q).streams t.input).present
          (good_fits (reads_of q) (wires_at (query_made q).streams t.input).present (good.streams t.input).present);
      keys = slots_fit (query_registers q) small (reads_of q) (sources_at (all_sources q) t.input)
          (wires_at (query_made q).streams t.input).columns (good.streams t.input).columns t.keys;
      args = slots_fit (query_registers q) small (reads_of q) (sources_at (all_sources q) t.input)
          (wires_at (query_made q).streams t.input).columns (good.streams t.input).columns t.args;
      initial = initial number f fold;
      most_keys = (let n : length shape.key_names ≡ length (map (text_at q.names) one.columns) =
          ap (λ (s : GroupShape). length s.key_names) made.is in
          let m = length-map one.columns (text_at q.names) in
          let c = columns_few (length q.names) q.names q.folds [] q.streams v.streams j one shape here shaped in
          omega (arith, n, m, c));
      most_args = (let n = length-map t.args (λ slot. moved (query_registers q)
          (operand_at (wires_at (query_made q).streams t.input).columns slot)) in
          let c = taking_few (length q.names) q.folds v.folds [] q.streams v.streams i t there in
          omega (arith, n, c));
      most_states = (let n : length shape.state_names ≡ length (map (text_at q.names) made.f.state_names) =
          ap (λ (s : GroupShape). length s.state_names) made.is in
          let m = length-map made.f.state_names (text_at q.names) in
          let c = shape_fold.states in
          omega (arith, n, m, c));
      valid = all_at IsValidFold q.folds number f v.folds fold;
      depth = (let n : shape.depth ≡ depth_of made.f = ap (λ (s : GroupShape). s.depth) made.is in
          let c = shallow shape_fold in
          omega (arith, n, c));
      nodes = (let n : shape.nodes ≡ made.f.nodes = ap (λ (s : GroupShape). s.nodes) made.is in
          let c = shape_fold.most_nodes in
          omega (arith, n, c));
      statements = (let n : shape.statements ≡ made.f.statements = ap (λ (s : GroupShape). s.statements) made.is in
          let c = shape_fold.most_statements in
          omega (arith, n, c));
    }
      where
        shape_fold : IsValidFold made.f
        shape_fold = all_at IsValidFold q.folds made.number made.f v.folds made.at

    columns_short : (i : ℕ) (shape : GroupShape) (j : ℕ) (one : TypedStream) → slice_get (query_groups q) i ≡ Some shape
        → slice_get q.streams j ≡ Some one → IsMadeBy q.names q.folds one shape → total shape.key_names + total shape.state_names ≤ 65690
    columns_short i shape j one e here made =
        let below = stream_below (length q.names) _ _ _ j v.streams here in
        let states = (all_at (HasNames (length q.names)) _ made.number made.f v.fold_names made.at).states in
        let n = columns_total _ _ (well i shape e)
        (λ t k. texts_in _ _ below.1 t (subst (λ (s : GroupShape). IsIn t s.key_names) made.is k))
        (λ t k. texts_in _ _ states t (subst (λ (s : GroupShape). IsIn t s.state_names) made.is k)) in
        omega arith

    each_group : (i : ℕ) (shape : GroupShape) → slice_get (query_groups q) i ≡ Some shape → length (group_text q i) ≤ 79690
        + length shape.name
    each_group i shape e =
        subst (λ o. length (group_lines_of o (slice_get (query_wiring q) i) (fold_at q i)) ≤ 79690 + length shape.name) (sym e)
        (subst (λ o. length (group_lines_of (Some shape) o (fold_at q i)) ≤ 79690 + length shape.name) (sym wiring_at)
        (go _ refl))
      where
        wiring_at : slice_get (query_wiring q) i ≡ option_map (wiring_of (query_registers q) (query_made q).streams)
            (slice_get (takings q.streams) i)
        wiring_at = slice_get-map _ _ i

        go : (o : Option Taking) → slice_get (takings q.streams) i ≡ o
            → length (group_lines_of (Some shape) (option_map (wiring_of (query_registers q) (query_made q).streams) o)
            (option_and_then (λ t. slice_get q.folds t.fold_number) o)) ≤ 79690 + length shape.name
        go None h = omega arith
        go (Some t) h = by _ refl
          where
            from : (j : ℕ) × (one : TypedStream) × (slice_get q.streams j ≡ Some one) × (shape_made q.names q.folds one one.op ≡ Some shape)
            from = group_from _ _ _ i e

            made : IsMadeBy q.names q.folds from.1 shape
            made = made_by _ _ from.3 (own from.0 from.1 from.2)

            by : (o : Option TypedFold) → slice_get q.folds t.fold_number ≡ o
                → length (group_lines_of (Some shape) (Some (wiring_of (query_registers q) (query_made q).streams t)) o) ≤ 79690
                + length shape.name
            by None k = omega arith
            by (Some f) k =
                let n = group_size _ _ f
                (limited _ _ _ t i f _ from.2 from.3 h k made) in
                let c = columns_short i _ _ _ e from.2 made in
                omega arith

    no_group : (i : ℕ) → slice_get (query_groups q) i ≡ None → length (group_text q i) ≡ 0
    no_group i e = ap (λ o. length (group_lines_of o (slice_get (query_wiring q) i) (fold_at q i))) e

    pub text_size : AreNew [] (map (λ shape. shape.name) (query_groups q)) → AreGroups q.prints → AreNew [] q.prints
        → length (compiled_text q) ≤ MAX_PLAN
    unfolding compiled_text
    text_size names are new =
        let ops = ops_size (query_ops q) each_op in
        let groups = groups_size (group_text q) (query_groups q) 0 (length (takings q.streams))
        (λ i shape e. subst (λ m. length (group_text q m) ≤ 79690 + length shape.name) (omega arith) (each_group i shape e))
        (λ i e. subst (λ m. length (group_text q m) ≡ 0) (omega arith) (no_group i e)) in
        let prints = prints_size q v.most_groupbys q.prints v.prints in
        let first_line : List ℕ = line (codes "marple-plan") (codes "1" ∷ []) in
        let op_lines : List ℕ = flat_map op_line (query_ops q) in
        let group_texts : List ℕ = flat_map (group_text q) (range_with_len 0 (length (takings q.streams))) in
        let print_lines : List ℕ = flat_map print_line q.prints in
        let c = length-append (reads_line (reads_of q)) (op_lines ++ (group_texts ++ print_lines)) in
        let d : length (compiled_text q) ≡ length first_line + length (reads_line (reads_of q)
        ++ (op_lines ++ (group_texts ++ print_lines))) =
        length-append first_line (reads_line (reads_of q) ++ (op_lines ++ (group_texts ++ print_lines))) in
        let together = group_names_total q.names q.folds q.streams v.streams names in
        omega (arith, line_size, reads_size, ops, groups, prints, length-append {A = ℕ}, c, d, few_ops, few_prints, together, short)
