-- What the text of a query's plan prints over packets is what the query prints.
use Rattle.marple_laws.proofs.Words
use Words.{All, All-tail, FIELDS, Folded, Geometry, GroupPlan, GroupShape, GroupWiring, IsBody, IsFoldOf, IsPlanOf, IsProgramOf}
use Words.{IsQueryTable, IsSoundGroup, IsSoundPlan, IsValidFold, IsValidQuery, List, None, Number, PlanParts, PrintOf, Some, Table, Taking}
use Words.{TypedFinal, TypedFold, TypedQuery, [], ap, arith, body, class_same, final_fault, first_final, flat_map, fold_args, fold_at}
use Words.{fold_block, fold_in, fold_states, folded_of, folded_with, folding_of, group_made, group_table, group_tables, heading_of_shape}
use Words.{inl, inr, length, length-map, made_of, ops_are, option_map, per_epoch, plan_output, plan_tables, printed_group, query_groups}
use Words.{query_made, query_registers, query_table, query_text, query_wiring, range_with_len, refl, registers_after, slice_get-map}
use Words.{slice_get_cases, slice_get_within, stages_of, subst, suc, sym, table_if, table_in, table_text_at, tables_from, taken_at, takings}
use Words.{unwrap_or, uses, uses_in, uses_taken, wiring_at, wiring_is, wiring_of, with_finals, written_block, ℕ, ◌++◌, ◌+◌, ◌<◌, ◌∙◌, ◌∷◌}
use Words.{◌≡◌}
use Rattle.marple_laws.proofs.{Bodies.few_braces, TakenFolds.taken_fold}
use Rattle.std.specs.Prelude.{map, slice_get}
use Rattle.query_lang.specs.declared.typed.PrintOf.TheVariants as printed
use Rattle.query_lang.specs.TypedFinals.{table_number}
use Rattle.plan_loader.proofs.Folds.{fold_in_is, foldings}

no_finals_from : (finals : List TypedFinal) → first_final finals ≡ None → finals ≡ []
no_finals_from [] e = refl
no_finals_from (one ∷ finals) e = cc

-- the parts of a groupby
record HasParts (q : TypedQuery) (i : ℕ) : Type 0 where
  wiring : GroupWiring
  wired : slice_get (query_wiring q) i ≡ Some wiring
  fold : TypedFold
  fold_is : fold_at q i ≡ Some fold
  valid : IsValidFold fold
  args : fold_args fold ≡ length wiring.args

-- the fold of a groupby folds rows as the one that its lines say
module _ (shape : GroupShape) (w : GroupWiring) (f : TypedFold) (valid : IsValidFold f) (args : fold_args f ≡ length w.args) where
  abbrev one : Folded
  one = folded_with shape w f

  abbrev quiet : TypedFold
  quiet = record f { emit = None }

  is_body : IsBody (length f.initial) (length w.args) (written_block (fold_states f) (fold_block f)) (fold_block f)
  is_body =
      subst (λ a. IsBody (length f.initial) a (written_block (fold_states f) (fold_block f)) (fold_block f)) args
      (subst (λ s. IsBody s (fold_args f) (written_block (fold_states f) (fold_block f)) (fold_block f)) (sym valid.starts)
      (record {
        statements = refl;
        typed = valid.statements;
        nesting = omega (arith, few_braces (fold_block f), valid.enough_statements, valid.most_statements);
      }))

  of_group : IsFoldOf one.group quiet
  of_group = record {
    words = written_block _ _;
    has_body = refl;
    body = is_body;
    states = sym valid.starts;
    args = args;
    initial = refl;
    emit = refl;
  }

  same_folding : folding_of quiet ≡ folding_of f
  same_folding = ap (λ c. record { step = body f; initial = f.initial; row_per_epoch = per_epoch c }) (class_same quiet f refl refl)

  one_folding : folding_of (fold_in one) ≡ folding_of f
  one_folding = foldings one.group (fold_in one) quiet (fold_in_is one quiet of_group) of_group ∙ same_folding

module _ (q : TypedQuery) (p : PlanParts) (valid : IsValidQuery q) (plan : IsPlanOf q p) (sound : IsSoundPlan p) where
  shapes_long : length (query_groups q) ≡ length p.groups
  shapes_long = ap (λ s. length s.groups) (sym plan.shape) ∙ length-map _ _

  parts_of : (i : ℕ) (group : GroupPlan) (t : Taking) (f : TypedFold) → slice_get p.groups i ≡ Some group
      → slice_get (takings q.streams) i ≡ Some t → fold_at q i ≡ Some f → HasParts q i
  parts_of i group t f g e at = record {
    wiring = wiring_of (query_registers q) (query_made q).streams t;
    wired = wired;
    fold = f;
    fold_is = at;
    valid = program.valid;
    args = sym (s.args ∙ program.layout.args);
  }
    where
      wired : slice_get (query_wiring q) i ≡ Some (wiring_of (query_registers q) (query_made q).streams t)
      wired = slice_get-map (wiring_of (query_registers q) (query_made q).streams) (takings q.streams) i ∙ ap (option_map _) e

      s : IsSoundGroup (FIELDS + length p.ops) group (wiring_of (query_registers q) (query_made q).streams t)
      s = sound.each i group (wiring_of (query_registers q) (query_made q).streams t) g
          (ap (λ l. slice_get l i) (wiring_is q p plan) ∙ wired)

      program : IsProgramOf f group.program
      program = plan.programs i f group at g

  parts_at : (i : ℕ) (shape : GroupShape) → slice_get (query_groups q) i ≡ Some shape → HasParts q i
  parts_at i shape e = elim ((slice_get_cases p.groups i).1) [
    | inl group ↦
        let one = taken_fold valid (omega (arith, group.1, plan.groups)) in
        parts_of i group.0 one.taking one.fold group.2 one.taken one.at
    | inr past ↦ absurd (omega (arith, past.0, slice_get_within, shapes_long))
  ]

  module _ (g : Geometry) (packets : List (List ℕ)) (whole : All (λ words. length words ≡ FIELDS) packets) where
    same_uses : (i : ℕ) (shape : GroupShape) (h : HasParts q i) → i < length p.groups
        → uses_in (made_of q) (folded_with shape h.wiring h.fold) packets ≡ uses q i packets
    same_uses i shape h lt = sym (
        plan.takes i packets lt whole
        ∙ (λ k. (let ops = ops_are q p plan k in
        uses_taken 1 (map (λ words. taken_at (wiring k) (registers_after ops words (stages_of ops))) packets))))
      where
        wiring : wiring_at p i ≡ h.wiring
        wiring = ap (λ o. unwrap_or o (record { present = Number 0; keys = []; args = [] }))
            (ap (λ l. slice_get l i) (wiring_is q p plan) ∙ h.wired)

    same_table : (i : ℕ) (shape : GroupShape) (h : HasParts q i) → i < length p.groups
        → table_in (made_of q) g packets (folded_with shape h.wiring h.fold) ≡ query_table q g packets i shape h.fold
    same_table i shape h lt =
        λ k. group_table (heading_of_shape shape) (one_folding shape h.wiring h.fold h.valid h.args k) g (same_uses i shape h lt k)

    same_tables : (rest : List GroupShape) (i : ℕ) → i + length rest ≡ length p.groups
        → ((k : ℕ) → slice_get (query_groups q) (i + k) ≡ slice_get rest k) →
        map (table_in (made_of q) g packets) (flat_map (group_made q) (range_with_len i (length rest))) ≡ tables_from q g packets i rest
    same_tables [] i long are = refl
    same_tables (shape ∷ rest) i long are =
        let here : slice_get (query_groups q) i ≡ Some shape = (let z : i ≡ i + 0 = omega arith in ap (slice_get (query_groups q)) z
        ∙ are 0) in
        let h = parts_at i shape here in
        let next : i + 1 ≡ suc i = omega arith in
        let later = flat_map (group_made q) (range_with_len (i + 1) (length rest)) in
        let made_is : group_made q i ≡ folded_with shape h.wiring h.fold ∷ [] = (λ k. folded_of (here k) (h.wired k) (h.fold_is k)) in
        let more = same_tables rest (suc i) (omega (arith, long)) (λ k.
        (let z : suc i + k ≡ i + suc k = omega arith in ap (slice_get (query_groups q)) z ∙ are (suc k))) in
        ap (λ l. map (table_in (made_of q) g packets) (l ++ later)) made_is
        ∙ (λ k. same_table i shape h (omega (arith, long)) k
        ∷ (ap (λ n. map (table_in (made_of q) g packets) (flat_map (group_made q) (range_with_len n (length rest)))) next ∙ more) k)
        ∙ ap (λ o. table_if q g packets i shape o ++ tables_from q g packets (suc i) rest) (sym h.fold_is)

    printed_same : (tables : List Table) (prints : List PrintOf) → q.finals ≡ [] → All (IsQueryTable q) prints →
        flat_map (table_text_at tables) (flat_map printed_group prints) ≡ flat_map
        (λ one. table_text_at tables (table_number (length (takings q.streams)) one)) prints
    printed_same tables [] none all = refl
    printed_same tables (printed.Group i ∷ prints) none all = ap (λ l. table_text_at tables i ++ l)
        (printed_same tables prints none (All-tail (IsQueryTable q) (printed.Group i) prints all))
    printed_same tables (printed.Final i ∷ prints) none all = absurd (let lt =
        all 0 (printed.Final i) (omega arith) in omega (arith, lt, ap length none))

    pub one_output : final_fault q ≡ None → plan_output (made_of q) g packets ≡ query_text q g packets
    unfolding plan_output plan_tables query_text group_tables
    one_output e =
        let none : q.finals ≡ [] = no_finals_from _ e in
        let n : length (takings q.streams) ≡ length (query_groups q) = omega (arith, shapes_long, plan.groups) in
        let tables : plan_tables (made_of q) g packets ≡ group_tables q g packets =
        ap (λ n. map (table_in (made_of q) g packets) (flat_map (group_made q) (range_with_len 0 n))) n
        ∙ same_tables _ 0 (omega (arith, shapes_long)) (λ k.
        (let z : 0 + k ≡ k = omega arith in ap (slice_get (query_groups q)) z))
        in
        ap (λ l. flat_map (table_text_at l) (flat_map printed_group q.prints)) tables
        ∙ printed_same _ _ none valid.prints
        ∙ ap (λ finals. flat_map (λ one. table_text_at (with_finals q.names q.folds (group_tables q g packets) finals)
        (table_number (length (takings q.streams)) one)) q.prints) (sym none)
