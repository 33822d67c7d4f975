-- The parts that are made for a query are its plan.
use Rattle.std.proofs.Common.{◌≡◌, ℕ, zero, suc, ◌+◌, ◌<◌, ◌≤◌, max, Bool, true, false, cond, List, [], ◌∷◌, length, get_or, Some, None}
use Rattle.std.proofs.{Common.{Option, refl, sym, ap, subst, ◌∙◌, inl, inr, arith}, lemmas.{Bool.Decides.nat_tests, List.length-map}}
use Rattle.std.proofs.lemmas.List.{Elements.All-map, Sums.sum_by-cons}
use Rattle.std.{proofs.lemmas.Option.{slice_get_within, same_Some, slice_get_cases, slice_get-map}, specs.Prelude.{All, map, sum_by}}
use Rattle.std.specs.Prelude.{count_by, ◌==◌, slice_get, slice_index, option_map, option_and_then, unwrap_or, if◌then◌else◌}
use Rattle.epoch_model.specs.Driving.{Taken, uses_taken}
use Rattle.fold_class.{specs.Program.IsProgramOf, proofs.TableLemmas.or_false_right}
use Rattle.marple_base.specs.declared.field.{FieldSet.FieldSet, TheConstants.FIELDS}
use Rattle.query_lang.specs.{Words.holds, declared.{fold.TypedFold.TypedFold, typed.TypedQuery.TypedQuery}}
use Rattle.query_lang.specs.{Streams.{Taking, takings, values_at}, TypedQueries.IsValidQuery, declared.fault.TheConstants.MAX_STAGES}
use Rattle.stage_plan.specs.Uses.{uses}
use Rattle.stage_plan.specs.declared.{group.{GroupPlan.GroupPlan, GroupWiring.GroupWiring}, op.Operand.{Operand, TheVariants.Number}}
use Rattle.stage_plan.specs.declared.{op.PlanOp.PlanOp, wires.StreamWires.StreamWires}
use Rattle.stage_plan.specs.{Registers.{operand_value, operand_stage, registers_after, stages_of, taken_at}, Depths.query_depths}
use Rattle.stage_plan.specs.{Fields.reads_of, Grouping.{IsGroupFor, AreGroupsOf}}
use Rattle.stage_plan.specs.Making.{operand_at, wires_at, packet_wires, all_made, are_deep}
use Rattle.stage_plan.specs.Ordering.{IsStaged, order_of, ArePlaced, moved, moved_op, op_numbered, wired, wiring_of}
use Rattle.stage_plan.specs.Planned.{wiring_at, taken, shape_of, fold_at, IsPlanOf}
use Rattle.stage_plan.specs.Shape.{PlanShape, GroupShape, greatest, up_to, sizes_of, group_shape, query_groups, query_shape}
use Rattle.stage_plan.specs.Sound.{PlanParts, IsWithin, IsSoundOp, AreSoundOps, IsSoundGroup, IsSoundPlan}
use Rattle.stage_plan.proofs.{Depths.{IsMade, column_is, stages}, Faults.QueryMade, Runs.{within_more, stage_below, Filled, after_filled}}
use Rattle.stage_plan.proofs.{Sorted.{Staged, whole_sum}, Reordered.{Arranged, all, all_long, Stands, stands, Comes, comes, keeps}}
use Rattle.stage_plan.proofs.Reordered.{all_ascends, stands_before, unmoved, moved_value, unmoved_front, unmoved_long, unmoved_solved}
use Rattle.stage_plan.proofs.StreamRows.{Row, row_at, all_rows, row_taken, uses_are}
use Rattle.stage_plan.proofs.Values.{column_value, Solved, Matches, Matched, all_matched, packets_matched}

each_shallow : (ops : List PlanOp) (i : ℕ) (one : PlanOp) → are_deep ops ≡ false → slice_get ops i ≡ Some one → one.stage ≤ MAX_STAGES
each_shallow [] i _ _ e = cc
each_shallow (first ∷ _) zero one none e = grind (arith, nat_tests)
each_shallow (first ∷ ops) (suc i) one none e = each_shallow ops i _ (or_false_right _ _ none) e

pub stages_within : (xs : List PlanOp) (b : ℕ) → ((i : ℕ) (x : PlanOp) → slice_get xs i ≡ Some x → x.stage ≤ b) → stages_of xs ≤ b
stages_within [] b h = omega arith
stages_within (x ∷ xs) b h = omega (arith, h 0 x refl, stages_within xs b (λ i y e. h (suc i) y e))

greatest_is : (xs : List PlanOp) → stages_of xs ≡ greatest (stages xs)
greatest_is [] = refl
greatest_is (x ∷ xs) = cc (greatest_is xs)

pub sum_map : {A B : Type 0} (f : B → ℕ) (g : A → B) (xs : List A) → sum_by f (map g xs) ≡ sum_by (λ x. f (g x)) xs
sum_map f g [] = refl
sum_map f g (x ∷ xs) = cc (sum_by-cons f (g x) (map g xs), sum_map f g xs, sum_by-cons (λ y. f (g y)) x xs)

same_map : {A B : Type 0} (f g : A → B) (xs : List A) → ((x : A) → f x ≡ g x) → map f xs ≡ map g xs
same_map f g [] _ = refl
same_map f g (x ∷ xs) same = cc (same x, same_map f g xs same)

abbrev taken_with : List ℕ → List ℕ → Taken
taken_with key row = record { key = key; row = row }

made_taken : (x y z w : List ℕ) → x ≡ z → y ≡ w → Some (taken_with x y) ≡ Some (taken_with z w)
made_taken x y z w p r = ap (λ k. Some (taken_with k y)) p ∙ ap (λ k. Some (taken_with z k)) r

-- the parts of a plan before they are put together
module _ (q : TypedQuery) (valid : IsValidQuery q) (ops : List PlanOp) (streams : List StreamWires) (made : QueryMade q ops streams)
    (ops_are : ops ≡ (all_made q.folds [] (packet_wires ∷ []) q.streams).ops)
    (streams_are : streams ≡ (all_made q.folds [] (packet_wires ∷ []) q.streams).streams) (few : length ops ≤ 32768)
    (registers : List ℕ) (placed : ArePlaced (order_of ops (stages_of ops)) registers (length (order_of ops (stages_of ops))))
    (long : length registers ≡ length ops) where
  pub staged : Staged ops (stages_of ops)
  staged = record {
    some = λ i one e. omega (arith, (made.made.each i one e).stage);
    most = λ i one e. stage_below ops i one e;
  }

  pub arranged : Arranged ops (stages_of ops) registers
  arranged = record { staged = staged; placed = placed; long = long }

  abbrev pub sorted : List PlanOp
  sorted = all arranged

  sorted_long : length sorted ≡ length ops
  sorted_long = all_long arranged

  abbrev before : List ℕ → List ℕ
  before row = unmoved arranged row

  abbrev operand_of : StreamWires → ℕ → Operand
  operand_of source slot = moved registers (operand_at source.columns slot)

  sound_op : (k : ℕ) (new : PlanOp) → slice_get sorted k ≡ Some new → IsSoundOp sorted k new
  sound_op k new e =
      let c : Comes arranged k new = comes arranged k new e in
      let m : IsMade ops c.number c.one = made.made.each c.number c.one c.found in
      let lt : c.number < length ops = slice_get_within ops c.number c.one c.found in
      let l = keeps arranged c.one.left (within_more (FIELDS + c.number) (FIELDS + length ops) c.one.left (omega arith) m.left) in
      let r = keeps arranged c.one.right (within_more (FIELDS + c.number) (FIELDS + length ops) c.one.right (omega arith) m.right) in
      let low : c.one.stage ≤ MAX_STAGES = each_shallow ops c.number c.one made.none c.found in
      let stage : c.one.stage ≡ suc (max (operand_stage sorted (moved registers c.one.left))
      (operand_stage sorted (moved registers c.one.right))) = (let a = m.stage in let b = l.stage in let d = r.stage in omega arith)
      in
      let here : slice_get sorted k ≡ Some (moved_op registers c.one) = e ∙ ap Some c.is in
      subst (IsSoundOp sorted k) (sym c.is) (record {
        left = stands_before arranged k (moved_op registers c.one) (moved registers c.one.left) here l.within (omega arith);
        right = stands_before arranged k (moved_op registers c.one) (moved registers c.one.right) here r.within (omega arith);
        stage = stage;
        most = low;
      })

  pub sound_ops : AreSoundOps sorted
  sound_ops = record {
    each = sound_op;
    ordered = all_ascends arranged;
    most = omega (arith, sorted_long);
  }

  -- what a groupby takes
  taken_is : (row : List ℕ) (t : Taking) (source : StreamWires) (r : Row) → FIELDS ≤ length row → Matches (before row) source r →
      option_map (row_taken t) r ≡ taken_at (wired registers source t.keys t.args) row
  taken_is row t source r fields m = go r m
    where
      value : (o : Operand) → operand_value row (moved registers o) ≡ operand_value (before row) o
      value = moved_value arranged row fields

      present : (b : Bool) → holds (operand_value (before row) source.present) ≡ b
          → holds (operand_value row (moved registers source.present)) ≡ b
      present b e = ap holds (value source.present) ∙ e

      column : (columns : List Operand) (slot : ℕ) → operand_value row (moved registers (operand_at columns slot)) ≡ slice_index
          (map (operand_value (before row)) columns) slot
      column columns slot = value (operand_at columns slot) ∙ column_value (before row) columns slot

      words : (slots : List ℕ) → map (operand_value row) (map (operand_of source) slots)
          ≡ values_at (map (operand_value (before row)) source.columns) slots
      words [] = refl
      words (slot ∷ slots) = ap (λ x. x ∷ map (operand_value row) (map (operand_of source) slots)) (column source.columns slot)
          ∙ ap (λ l. slice_index (map (operand_value (before row)) source.columns) slot ∷ l) (words slots)

      go : (r : Row) → Matches (before row) source r → option_map (row_taken t) r ≡ taken_at (wired registers source t.keys t.args) row
      go None m = sym (ap (λ b. if b then Some (record {
        key = map (operand_value row) (map (operand_of source) t.keys);
        row = map (operand_value row) (map (operand_of source) t.args);
      }) else None) (present false m))
      go (Some values) m =
          let a : map (operand_value row) (map (operand_of source) t.keys) ≡ values_at values
          t.keys = words t.keys ∙ ap (λ l. values_at l t.keys) m.1 in
          let b : map (operand_value row) (map (operand_of source) t.args) ≡ values_at values
          t.args = words t.args ∙ ap (λ l. values_at l t.args) m.1 in
          sym (
          ap (λ b. if b then Some (record {
            key = map (operand_value row) (map (operand_of source) t.keys);
            row = map (operand_value row) (map (operand_of source) t.args);
          }) else None) (present true m.0) ∙ made_taken _ _ _ _ a b
          )

  packet_taken : (t : Taking) (words : List ℕ) → length words ≡ FIELDS
      → option_map (row_taken t) (row_at (all_rows q words) t.input) ≡ taken_at
      (wiring_of registers streams t) (registers_after sorted words (stages_of sorted))
  packet_taken t words words_long =
      let filled : Filled sorted words (registers_after sorted words (stages_of sorted)) = after_filled sorted words sound_ops words_long in
      let row : List ℕ = registers_after sorted words (stages_of sorted) in
      let fields : FIELDS ≤ length row = (let l = filled.long in omega arith) in
      let solved : Solved ops (before row) = unmoved_solved arranged row fields (record { each = filled.each }) in
      let start : Matched (before row) (packet_wires ∷ []) (Some words ∷ []) = packets_matched (before row) words
      (unmoved_long arranged row fields) (unmoved_front arranged row fields ∙ filled.front)
      in
      let matched : Matched (before row) (all_made q.folds [] (packet_wires ∷ []) q.streams).streams (all_rows q words) =
      all_matched (before row) q.folds q.streams [] (packet_wires ∷ []) (Some words ∷ []) start
      (let P : List PlanOp → Type 0 = λ l. Solved l (before row) in subst P ops_are solved)
      in
      let here : Matches (before row) (wires_at streams t.input) (row_at (all_rows q words) t.input) =
      (let P : List StreamWires → Type 0 = λ l. Matches (before row) (wires_at l t.input)
      (row_at (all_rows q words) t.input) in subst P (sym streams_are) (matched.each t.input))
      in
      taken_is row t (wires_at streams t.input) (row_at (all_rows q words) t.input) fields here

  -- the sizes
  same_stages : stages_of sorted ≡ stages_of ops
  same_stages =
      let a : stages_of sorted ≤ stages_of ops = stages_within sorted (stages_of ops) (λ k new e.
      let c : Comes arranged k new = comes arranged k new e in
      let s : new.stage ≡ c.one.stage = ap (λ (x : PlanOp). x.stage) c.is in
      omega (arith, stage_below ops c.number c.one c.found)) in
      let b : stages_of ops ≤ stages_of sorted = stages_within ops (stages_of sorted) (λ i one e.
      let st : Stands arranged i one = stands arranged i one e in
      stage_below sorted st.place (moved_op registers one) st.found) in
      omega arith

  same_count : (stage : ℕ) → count_by (λ depth. depth == stage) (stages sorted) ≡ count_by (λ depth. depth == stage) (query_depths q)
  same_count stage = sum_map (λ depth. cond (depth == stage) 1 0) (λ (one : PlanOp). one.stage) sorted
      ∙ sum_map (λ (one : PlanOp). cond (one.stage == stage) 1 0) (λ number. moved_op registers (op_numbered ops number))
      (order_of ops (stages_of ops)) ∙ whole_sum (λ one. cond (one.stage == stage) 1 0) ops (stages_of ops) staged
      ∙ sym (sum_map (λ depth. cond (depth == stage) 1 0) (λ (one : PlanOp). one.stage) ops)
      ∙ ap (count_by (λ depth. depth == stage)) made.stages_are

  same_sizes : sizes_of (stages_of sorted) (stages sorted) ≡ sizes_of (greatest (query_depths q)) (query_depths q)
  same_sizes =
      same_map (λ stage. count_by (λ depth. depth == stage) (stages sorted)) (λ stage. count_by (λ depth. depth == stage) (query_depths q))
      (up_to (stages_of sorted)) same_count
      ∙ ap (λ n. sizes_of n (query_depths q)) (same_stages ∙ greatest_is ops ∙ ap greatest made.stages_are)

  same_operations : length sorted ≡ length (query_depths q)
  same_operations = sorted_long ∙ sym (length-map ops (λ (one : PlanOp). one.stage)) ∙ ap length made.stages_are

  -- the groupbys
  module _ (groups : List GroupPlan) (shapes : map group_shape groups ≡ query_groups q)
      (sound : AreGroupsOf q.folds (takings q.streams) groups) (count : length groups ≡ length (takings q.streams)) (reads : FieldSet)
      (reads_are : reads ≡ reads_of q) where
    abbrev pub parts : PlanParts
    parts = record { reads = reads; ops = sorted; groups = groups; wiring = map (wiring_of registers streams) (takings q.streams) }

    shape_with : ℕ → List ℕ → List GroupShape → PlanShape
    shape_with n sizes list = record { operations = n; stage_sizes = sizes; groups = list }

    same_shape : shape_of parts ≡ query_shape q
    unfolding shape_with
    same_shape = ap (λ n. shape_with n (sizes_of (stages_of sorted) (stages sorted)) (map group_shape groups)) same_operations
        ∙ ap (λ sizes. shape_with (length (query_depths q)) sizes (map group_shape groups)) same_sizes
        ∙ ap (λ list. shape_with (length (query_depths q)) (sizes_of (greatest (query_depths q)) (query_depths q)) list) shapes

    wiring_is : (i : ℕ) (t : Taking) → slice_get (takings q.streams) i ≡ Some t
        → slice_get parts.wiring i ≡ Some (wiring_of registers streams t)
    wiring_is i t e = slice_get-map (wiring_of registers streams) (takings q.streams) i ∙ ap (option_map (wiring_of registers streams)) e

    takes_are : (i : ℕ) (packets : List (List ℕ)) → i < length groups → All (λ words. length words ≡ FIELDS) packets
        → uses q i packets ≡ uses_taken 1 (map (taken parts i) packets)
    takes_are i packets lt all14 = elim ((slice_get_cases (takings q.streams) i).1) [
      | inl found ↦
          let t : Taking = found.0 in
          let w : wiring_at parts i ≡ wiring_of registers streams t = ap
          (λ o. unwrap_or o (record { present = Number 0; keys = []; args = [] })) (wiring_is i t found.2) in
          uses_are q i t (taken parts i) found.2 (λ words words_long. packet_taken t words words_long
          ∙ ap (λ x. taken_at x (registers_after sorted words (stages_of sorted))) (sym w)) packets all14
      | inr past ↦ absurd (omega arith)
    ]

    programs_are : (i : ℕ) (f : TypedFold) (group : GroupPlan) → fold_at q i ≡ Some f → slice_get groups i ≡ Some group
        → IsProgramOf f group.program
    programs_are i f group e g = go (slice_get (takings q.streams) i) refl
      where
        go : (o : Option Taking) → slice_get (takings q.streams) i ≡ o → IsProgramOf f group.program
        go None h = let none : None ≡ Some f = sym (ap (option_and_then (λ t. slice_get q.folds t.fold_number)) h) ∙ e in cc
        go (Some t) h = (sound i t group h g).program f (sym (ap (option_and_then (λ (t : Taking). slice_get q.folds t.fold_number)) h) ∙ e)

    staged_here : IsStaged ops streams (takings q.streams) sorted (map (wiring_of registers streams) (takings q.streams))
    staged_here = record { registers = registers; placed = placed; all = long; ops_are = refl; wiring_is = refl }

    staged_parts : IsStaged (all_made q.folds [] (packet_wires ∷ []) q.streams).ops
        (all_made q.folds [] (packet_wires ∷ []) q.streams).streams (takings q.streams) sorted
        (map (wiring_of registers streams) (takings q.streams))
    staged_parts =
        let P : List PlanOp → Type 0 = λ o. IsStaged o streams (takings q.streams) sorted
        (map (wiring_of registers streams) (takings q.streams)) in
        let Q : List StreamWires → Type 0 = λ s. IsStaged (all_made q.folds [] (packet_wires ∷ []) q.streams).ops s (takings q.streams)
        sorted (map (wiring_of registers streams) (takings q.streams)) in
        subst Q streams_are (subst P ops_are staged_here)

    pub is_plan : IsPlanOf q parts
    is_plan =
        record { groups = count; takes = takes_are; programs = programs_are; reads = reads_are; staged = staged_parts; shape = same_shape }

    sound_group : (i : ℕ) (group : GroupPlan) (wiring : GroupWiring) → slice_get groups i ≡ Some group
        → slice_get parts.wiring i ≡ Some wiring → IsSoundGroup (FIELDS + length sorted) group wiring
    sound_group i group wiring g e = elim ((slice_get_cases (takings q.streams) i).1) [
      | inl found ↦
          let t : Taking = found.0 in
          let w : wiring ≡ wiring_of registers streams t = same_Some wiring (wiring_of registers streams t)
          (sym e ∙ wiring_is i t found.2) in
          let h : IsGroupFor q.folds t.fold_number (length t.keys) (length t.args) group = sound i t group found.2 g in
          let at = made.within t.input in
          let source : StreamWires = wires_at streams t.input in
          let column : (slot : ℕ) → IsWithin (FIELDS + length sorted) (moved registers (operand_at source.columns slot)) =
          λ slot. (keeps arranged (operand_at source.columns slot) (column_is ops source.columns at.0.columns slot
          at.1.columns).within).within
          in
          let keys : length (wiring_of registers streams t).keys ≡ length t.keys = length-map t.keys (operand_of source) in
          let args : length (wiring_of registers streams t).args ≡ length t.args = length-map t.args (operand_of source) in
          subst (IsSoundGroup (FIELDS + length sorted) group) (sym w) (record {
            program = h.is_program;
            some_keys = h.some_keys;
            most_keys = h.most_keys;
            most_states = h.most_states;
            states = h.states;
            keys = keys ∙ sym h.keys;
            args = args ∙ sym h.args;
            most_args = (let m = h.most_args in omega arith);
            present = (keeps arranged source.present at.1.present.within).within;
            key_registers = All-map (IsWithin (FIELDS + length sorted)) (operand_of source) t.keys (λ k d _. column (get_or t.keys k d));
            arg_registers = All-map (IsWithin (FIELDS + length sorted)) (operand_of source) t.args (λ k d _. column (get_or t.args k d));
          })
      | inr past ↦ absurd (let n = slice_get_within groups i group g in omega arith)
    ]

    pub sound_plan : IsSoundPlan parts
    sound_plan = record {
      ops = sound_ops;
      most_groups = (let m = valid.most_groupbys in omega arith);
      wired = length-map (takings q.streams) (wiring_of registers streams) ∙ sym count;
      each = sound_group;
    }
