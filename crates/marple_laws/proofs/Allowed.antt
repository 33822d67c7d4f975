-- The operations of a query's plan are allowed in sequence, and its groupbys after them.
use Rattle.marple_laws.proofs.{Fields.{operand_fits, operand_known, operand_readable, operands_readable}, GroupSizes.depth_below}
use Rattle.marple_laws.proofs.{Groups.HasGroup, Items.mapped_at, Known.{AllGood, AreFrom, AreRead, IsWritable, column_good, read_left}}
use Rattle.marple_laws.proofs.{Known.{read_right, writable_at}, KnownStreams.{AllAreGood, AreFit, AreNamed, named_from, query_good}}
use Rattle.marple_laws.proofs.{Listed.in_set, Moved.{AreAfterFields, moved_good, moved_writable, op_from}, OpLines.IsOpOk}
use Rattle.marple_laws.proofs.Words
use Words.{AreSoundOps, Bool, FIELDS, FieldSource, GroupPlan, GroupShape, HasPlanText, IsNamedWell, IsPlanOf, IsProgramOf, IsSoundGroup}
use Words.{IsSoundOp, IsSoundPlan, IsValidFold, IsValidQuery, IsWithin, List, None, Number, Operand, Option, PlanOp, PlanParts, Register}
use Words.{Some, Taking, TypedFold, TypedOp, TypedQuery, TypedStream, [], all_sources, ap, arith, false, fields_of, fold_at, fold_states}
use Words.{get_or_from_slice_get, group_shape, if◌then◌else◌, inl, inr, last_stage, length, length-map, length-take-le, moved, named_input}
use Words.{named_slots, operand_stage, ops_are, option_map, ordered, query_groups, query_made, query_ops, query_order, query_registers}
use Words.{query_wiring, range_with_len, reads_of, refl, register_in, same_Some, slice_get-map, slice_get_cases, slice_get_within}
use Words.{sources_at, stage_at, stage_of, subst, suc, sym, take, takings, true, unwrap_or, wiring_is, wiring_of, zero, ℕ, ◌++◌, ◌+◌, ◌-◌}
use Words.{◌<◌, ◌∙◌, ◌∷◌, ◌≡◌, ◌≤◌}
use Rattle.marple_laws.proofs.TakenFolds.{taken_fold}
use Rattle.std.specs.Prelude.{map, nat_lt, slice_get}
use Rattle.query_lang.specs.declared.typed.TypedOp.TheVariants as op
use Rattle.stage_plan.{proofs.Groupings.depth_is, specs.Making.{operand_at, wires_at}}

-- a prefix of a list

front_at : {A : Type 0} (xs : List A) (i k : ℕ) → k < i → slice_get (take i xs) k ≡ slice_get xs k
front_at xs zero k lt = absurd (omega arith)
front_at (x ∷ xs) (suc i) (suc k) lt = front_at _ i k (omega arith)
front_at _ (suc i) _ lt = refl

stage_found : (o : Option PlanOp) → stage_at o ≡ unwrap_or (option_map (λ one. one.stage) o) 0
stage_found None = refl
stage_found (Some one) = refl

-- an operand of an earlier operation keeps its stage
stage_before : (ops : List PlanOp) (i : ℕ) (o : Operand) → IsWithin (FIELDS + i) o → stage_of (take i ops) o ≡ operand_stage ops o
stage_before ops i (Number n) inside = refl
stage_before ops i (Register r) inside = by _ refl
  where
    by : (b : Bool) → nat_lt r FIELDS ≡ b → (if b then 0 else stage_at (slice_get (take i ops) (r - FIELDS)))
        ≡ (if b then 0 else unwrap_or (option_map (λ one. one.stage) (slice_get ops (r - FIELDS))) 0)
    by true e = refl
    by false e =
        let late : FIELDS ≤ r = grind arith in
        ap stage_at (front_at _ i _ (omega arith)) ∙ stage_found (slice_get ops (r - FIELDS))

last_before : {ops : List PlanOp} (i : ℕ) (one : PlanOp) → AreSoundOps ops → slice_get ops i ≡ Some one
    → last_stage (take i ops) ≤ one.stage
last_before zero one sound e = omega arith
last_before {ops} (suc j) one sound e =
    let long : length (take (suc j) ops) ≡ suc j = length-take-le (suc j) ops (omega (arith, slice_get_within)) in
    let at : length (take (suc j) ops) - 1 ≡ j = omega (arith, long) in
    elim ((slice_get_cases ops j).1) [
      | inl found ↦
          let last : last_stage (take (suc j) ops) ≡ found.0.stage = ap (λ n. stage_at (slice_get (take (suc j) ops) n)) at
          ∙ ap stage_at (front_at ops (suc j) j (omega arith) ∙ found.2) in
          omega (arith, last, sound.ordered j (suc j) found.0 one (omega arith) found.2 e)
      | inr past ↦ (let p = past.0 in absurd (omega (arith, slice_get_within)))
    ]

module _ (q : TypedQuery) (p : PlanParts) (valid : IsValidQuery q) (text : HasPlanText q) (plan : IsPlanOf q p) (sound : IsSoundPlan p)
  where
    fit : AreFit q.folds
    fit i f e =
        let v : IsValidFold f = subst IsValidFold (get_or_from_slice_get _ i f f e)
        (valid.folds i f (slice_get_within q.folds i f e)) in
        (v, text.initial i f e)

    good : AllAreGood (reads_of q) (all_sources q) (query_made q)
    good = query_good _ _ _ fit valid.streams

    named : AreNamed (reads_of q) (all_sources q) q.streams
    named = named_from _ _ _ (λ f i. in_set _ f i)

    beyond : AreAfterFields (query_registers q)
    beyond k r e =
        let c = mapped_at (register_in (query_order q)) (range_with_len 0 (length (query_made q).ops)) k r e in
        let same = c.2 in
        omega arith

    sound_ops : AreSoundOps (query_ops q)
    sound_ops = subst AreSoundOps (ops_are q p plan) sound.ops

    pub few_ops : length (query_ops q) ≤ 32768
    few_ops = sound_ops.most

    writable : (i : ℕ) (one : PlanOp) → slice_get (query_ops q) i ≡ Some one → IsWritable (reads_of q) one
    writable i one e =
        let o = op_from q i one e in
        subst (IsWritable (reads_of q)) o.3
        (moved_writable (query_registers q) _ beyond (writable_at (query_made q).ops o.0 good.written o.2))

    pub op_ok : (i : ℕ) (one : PlanOp) → slice_get (query_ops q) i ≡ Some one → IsOpOk (fields_of (reads_of q)) (take i (query_ops q)) one
    op_ok i one e = record {
      allowed = record {
        left = operand_known (reads_of q) (take i (query_ops q)) one.left w.left
            (subst (λ n. IsWithin (FIELDS + n) one.left) (sym long) s.left);
        right = operand_known (reads_of q) (take i (query_ops q)) one.right w.right
            (subst (λ n. IsWithin (FIELDS + n) one.right) (sym long) s.right);
        staged = record {
          room = omega (arith, long, within, few_ops);
          least = omega (arith, s.stage);
          most = s.most;
          order = last_before i one sound_ops e;
          stage = omega (arith, s.stage, stage_before (query_ops q) i one.left s.left, stage_before (query_ops q) i one.right s.right);
          constant = w.constant;
        };
      };
      stage = omega (arith, s.most);
      left = operand_fits (reads_of q) one.left w.left s.left (omega (arith, within, few_ops));
      right = operand_fits (reads_of q) one.right w.right s.right (omega (arith, within, few_ops));
      single = w.single;
    }
      where
        w : IsWritable (reads_of q) one
        w = writable i one e

        s : IsSoundOp (query_ops q) i one
        s = sound_ops.each i one e

        within : i < length (query_ops q)
        within = slice_get_within (query_ops q) i one e

        long : length (take i (query_ops q)) ≡ i
        long = length-take-le i (query_ops q) (omega (arith, within))

    -- what the groupbys take

    named_taking : (sources : List (List FieldSource)) (streams : List TypedStream) → AreNamed (reads_of q) sources streams
        → (i : ℕ) (t : Taking)
        → slice_get (takings streams) i ≡ Some t → AreRead (reads_of q) (sources_at sources t.input) (t.keys ++ t.args)
    named_taking sources [] n i t e = cc
    named_taking sources (one ∷ streams) n i t e = by _ n.0 (named_taking sources streams n.1) i e
      where
        by : (o : TypedOp) → AreRead (reads_of q) (sources_at sources (named_input o)) (named_slots o)
            → ((i : ℕ) (t : Taking) → slice_get (takings streams) i ≡ Some t
            → AreRead (reads_of q) (sources_at sources t.input) (t.keys ++ t.args)) →
            (i : ℕ) → slice_get (takings (record one { op = o } ∷ streams)) i ≡ Some t
            → AreRead (reads_of q) (sources_at sources t.input) (t.keys ++ t.args)
        by (op.Filter input condition) r rest i e = rest i t e
        by (op.Map input values) r rest i e = rest i t e
        by (op.Zip left right slots) r rest i e = rest i t e
        by (op.Group input keys f args) r rest zero e =
            let same : record { input = input; keys = keys; fold_number = f; args = args } ≡ t = same_Some _ t e in
            subst (λ (t : Taking). AreRead (reads_of q) (sources_at sources t.input) (t.keys ++ t.args)) same r
        by (op.Group input keys f args) r rest (suc i) e = rest i t e

    picked_good : (sources : List FieldSource) (columns : List Operand) (slots : List ℕ) → AreFrom (reads_of q) sources columns
        → AreRead (reads_of q) sources slots →
        AllGood (reads_of q) (map (λ slot. moved (query_registers q) (operand_at columns slot)) slots)
    picked_good sources columns [] from r = tt
    picked_good sources columns (slot ∷ slots) from r = (
      moved_good (reads_of q) (query_registers q) (operand_at columns slot) beyond (column_good (reads_of q) sources columns slot from r.0),
      picked_good sources columns slots from r.1,
    )

    shapes_are : map group_shape p.groups ≡ query_groups q
    shapes_are = ap (λ s. s.groups) plan.shape

    pub shapes_long : length (query_groups q) ≡ length (takings q.streams)
    shapes_long = ap length (sym shapes_are) ∙ length-map _ _ ∙ plan.groups

    -- the groupby of a shape
    has_group : (i : ℕ) (group : GroupPlan) (t : Taking) (f : TypedFold) → slice_get p.groups i ≡ Some group
        → slice_get (takings q.streams) i ≡ Some t → fold_at q i ≡ Some f →
        slice_get q.folds t.fold_number ≡ Some f → IsNamedWell (group_shape group)
        → HasGroup (fields_of (reads_of q)) (query_ops q) (group_shape group) (query_wiring q) (fold_at q) i
    has_group i group t f g e at fold_is well = record {
      wiring = wiring_of (query_registers q) (query_made q).streams t;
      wired = wired_here;
      fold = f;
      folds_are = at;
      ok = record {
        named = well.named;
        no_stream = well.no_stream;
        present = operand_readable (reads_of q) (moved_good (reads_of q) (query_registers q)
            (wires_at (query_made q).streams t.input).present beyond (good.streams t.input).present) s.present few_ops;
        key_names = well.key_names;
        keys_differ = well.keys_differ;
        all_keys = sym s.keys;
        some_keys = omega (arith, s.keys, s.some_keys);
        most_keys = omega (arith, s.keys, s.most_keys);
        keys = operands_readable (reads_of q) (query_ops q) (wiring_of (query_registers q) (query_made q).streams t).keys
            (picked_good (sources_at (all_sources q) t.input) (wires_at (query_made q).streams t.input).columns t.keys
            (good.streams t.input).columns (read_left (reads_of q) (sources_at (all_sources q) t.input) t.keys t.args read)) s.key_registers
            few_ops;
        most_args = s.most_args;
        args = operands_readable (reads_of q) (query_ops q) (wiring_of (query_registers q) (query_made q).streams t).args
            (picked_good (sources_at (all_sources q) t.input) (wires_at (query_made q).streams t.input).columns t.args
            (good.streams t.input).columns (read_right (reads_of q) (sources_at (all_sources q) t.input) t.keys t.args read))
            s.arg_registers few_ops;
        state_names = well.state_names;
        states_differ = well.states_differ;
        states_apart = well.states_apart;
        all_states = s.states ∙ ap length program.layout.initial;
        initial = text.initial t.fold_number f fold_is;
        valid = program.valid;
        all_args = sym (s.args ∙ program.layout.args);
        class = program.class;
        depth = program.depth;
        shallow = omega (arith, depth_is f group.program.depth program.depth, depth_below f (fold_states f) 0, program.valid.states);
        nodes = program.layout.nodes;
        statements = program.layout.statements;
      };
    }
      where
        wired_here : slice_get (query_wiring q) i ≡ Some (wiring_of (query_registers q) (query_made q).streams t)
        wired_here = slice_get-map (wiring_of (query_registers q) (query_made q).streams) (takings q.streams) i
            ∙ ap (option_map (wiring_of (query_registers q) (query_made q).streams)) e

        s : IsSoundGroup (FIELDS + length (query_ops q)) group (wiring_of (query_registers q) (query_made q).streams t)
        s = subst (λ ops. IsSoundGroup (FIELDS + length ops) group (wiring_of (query_registers q) (query_made q).streams t))
            (ops_are q p plan) (sound.each i group (wiring_of (query_registers q) (query_made q).streams t) g
            (ap (λ l. slice_get l i) (wiring_is q p plan) ∙ wired_here))

        program : IsProgramOf f group.program
        program = plan.programs i f group at g

        read : AreRead (reads_of q) (sources_at (all_sources q) t.input) (t.keys ++ t.args)
        read = named_taking (all_sources q) q.streams named i t e

    pub group_ok : (i : ℕ) (shape : GroupShape) → slice_get (query_groups q) i ≡ Some shape
        → HasGroup (fields_of (reads_of q)) (query_ops q) shape (query_wiring q) (fold_at q) i
    group_ok i shape e =
        let g = mapped_at group_shape p.groups i shape (ap (λ l. slice_get l i) shapes_are ∙ e) in
        let inside : i < length (takings q.streams) = (omega (arith, slice_get_within, plan.groups)) in
        let one = taken_fold valid inside in
        subst (λ s. HasGroup (fields_of (reads_of q)) (query_ops q) s (query_wiring q) (fold_at q) i) g.2
        (has_group i g.0 one.taking one.fold g.1 one.taken one.at one.found (subst IsNamedWell (sym g.2) (text.groups i shape e)))
