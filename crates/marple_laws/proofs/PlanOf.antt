-- The query of an accepted text has the plan that definitions give.
use Rattle.marple_laws.proofs.Words
use Words.{◌≡◌, ℕ, zero, suc, List, [], ◌∷◌, length, Option, Some, None, Ok, refl, sym, ap, subst, ◌∙◌, inl, inr, arith, All, filter_map}
use Words.{option_map, cons_option, All-tail, same_Some, slice_get_cases, TypedFold, TypedOp, TypedQuery, TypedStream, IsValidFold, Taking}
use Words.{taking_of, takings, IsValidQuery, IsProgramOf, depth_found_is, GroupPlan, query_made, stages_of, GroupShape, group_shape}
use Words.{shape_made, shape_with, query_fault, query_order, register_in, accepted, accepted_valid, AcceptedHavePlans}
use Rattle.std.{specs.Prelude.{map, slice_get}, proofs.lemmas.List.FromFn.length-map-range_with_len}
use Rattle.query_lang.specs.declared.typed.TypedOp.TheVariants as typed
use Rattle.fold_code.{specs.Meaning.IsCodeOf, proofs.Meanings.meaning_of}
use Rattle.fold_class.proofs.ProgramLemmas.{rows_are}
use Rattle.stage_plan.{specs.{Depths.stage_fault, Grouping.{FitsGroup, IsGroupFor, IsGroupOf, AreGroupsOf}}, proofs.Counts.all_fit}
use Rattle.stage_plan.proofs.{Groupings.{args_are, fitting_sound, shape_is}, Putting.{IsPut, put}}
use Rattle.plan_writer.proofs.Once.{registers_placed}
use Rattle.marple_laws.specs.PlanOf.{code_of, rows_of, program_of, group_with, group_planned, groups_planned, plan_of}
use Rattle.marple_laws.proofs.{Counts.few_made, Hold.staged_none, Texts.all_at}

program_is : (f : TypedFold) → IsValidFold f → IsProgramOf f (program_of f)
program_is f valid = record {
  valid = valid;
  class = refl;
  algebra = refl;
  moves = refl;
  depth = depth_found_is f;
  code = code;
  rows = rows_are f (rows_of f) valid code refl refl refl refl refl;
  layout = record { linear = refl; history = refl; initial = refl; args = refl; nodes = refl; statements = refl };
}
  where
    code : IsCodeOf f (code_of f)
    code = meaning_of f _ valid refl refl refl

module _ (q : TypedQuery) (valid : IsValidQuery q) where
  program_at : (number : ℕ) (f : TypedFold) → slice_get q.folds number ≡ Some f → IsProgramOf f (program_of f)
  program_at number f found = program_is f (all_at IsValidFold q.folds number f valid.folds found)

  -- the groupby of a stream has the shape that the query gives it
  one_shape : (one : TypedStream) (op : TypedOp) → FitsGroup q one op
      → option_map group_shape (group_planned q.names q.folds one op) ≡ shape_made q.names q.folds one op
  one_shape one (typed.Filter input condition) fits = refl
  one_shape one (typed.Map input values) fits = refl
  one_shape one (typed.Zip left right slots) fits = refl
  one_shape one (typed.Group input keys number args) fits = by (slice_get q.folds number) refl
    where
      by : (o : Option TypedFold) → slice_get q.folds number ≡ o → option_map group_shape (option_map (group_with q.names one) o)
          ≡ option_map (shape_with q.names one.name.id one.columns (length args)) o
      by None e = refl
      by (Some f) e =
          let count : length f.arg_names ≡ length args = args_are q.folds number (length args) f e fits.all_args in
          ap Some (shape_is q.names one (length args) f (group_with q.names one f) (program_at number f e) refl refl refl count)

  -- and it is one of its fold
  one_sound : (one : TypedStream) (op : TypedOp) → FitsGroup q one op → IsGroupOf q.folds (taking_of op)
      (group_planned q.names q.folds one op)
  one_sound one (typed.Filter input condition) fits = tt
  one_sound one (typed.Map input values) fits = tt
  one_sound one (typed.Zip left right slots) fits = tt
  one_sound one (typed.Group input keys number args) fits = elim ((slice_get_cases q.folds number).1) [
    | inl found ↦
        let f : TypedFold = found.0 in
        let count : length f.arg_names ≡ length args = args_are q.folds number (length args) f found.2 fits.all_args in
        subst (λ o. IsGroupOf q.folds (taking_of (typed.Group input keys number args)) (option_map (group_with q.names one) o))
        (sym found.2)
        (fitting_sound q.folds q.names number (length keys) (length args) one.columns f (group_with q.names one f) found.2
        (program_at number f found.2) refl refl
        fits.some_keys fits.most_keys fits.all_keys count)
    | inr past ↦ absurd (omega (arith, past.0, fits.is_fold))
  ]

  abbrev is_for : Taking → GroupPlan → Type 0
  is_for t group = IsGroupFor q.folds t.fold_number (length t.keys) (length t.args) group

  -- the groupbys of streams
  record AreOf (all : List Taking) (groups : List GroupPlan) (shapes : List GroupShape) : Type 0 where
    shapes_are : map group_shape groups ≡ shapes
    sound : AreGroupsOf q.folds all groups
    count : length groups ≡ length all

  one_more : (t : Option Taking) (group : Option GroupPlan) (all : List Taking) (groups : List GroupPlan) (shapes : List GroupShape)
      → IsGroupOf q.folds t group
      → AreOf all groups shapes → AreOf (cons_option t all) (cons_option group groups) (cons_option (option_map group_shape group) shapes)
  one_more None None all groups shapes h rest = rest
  one_more (Some t) (Some group) all groups shapes h rest = record {
    shapes_are = ap (λ l. group_shape group ∷ l) rest.shapes_are;
    sound = sound;
    count = ap suc rest.count;
  }
    where
      sound : AreGroupsOf q.folds (t ∷ all) (group ∷ groups)
      sound zero u other e f = subst (λ x. is_for x other) (same_Some t u e) (subst (is_for t) (same_Some _ _ f) h)
      sound (suc i) u other e f = rest.sound i u other e f
  one_more _ _ all groups shapes h rest = absurd h

  groups_are : (streams : List TypedStream) → All (λ one. FitsGroup q one one.op) streams
      → AreOf (takings streams) (groups_planned q.names q.folds streams) (filter_map (λ one. shape_made q.names q.folds one one.op) streams)
  groups_are [] fits = record { shapes_are = refl; sound = λ i t group e f. cc; count = refl }
  groups_are (one ∷ streams) fits =
      let first : FitsGroup q one one.op = fits 0 one (omega arith) in
      let rest = groups_are streams (All-tail (λ (one : TypedStream). FitsGroup q one one.op) one streams fits) in
      let planned = groups_planned q.names q.folds streams in
      let shapes = filter_map (λ (one : TypedStream). shape_made q.names q.folds one one.op) streams in
      subst (λ shape. AreOf (cons_option (taking_of one.op) (takings streams))
      (cons_option (group_planned q.names q.folds one one.op) planned) (cons_option shape shapes))
      (one_shape one one.op first)
      (one_more (taking_of one.op) (group_planned q.names q.folds one one.op) (takings streams) planned shapes (one_sound one one.op first)
      rest)

  pub plan_put : stage_fault q ≡ None → IsPut q (plan_of q)
  plan_put none =
      let groups = groups_are _ (all_fit q valid) in
      let few = few_made valid none in
      put q _ _ _ _ _ _
      _ _ (record {
        made = record { valid = valid; ops_are = refl; streams_are = refl; fits = query_fault q ∙ none; few = omega arith };
        order_is = refl;
        placed = registers_placed (query_made q).ops (stages_of (query_made q).ops);
        long = length-map-range_with_len (register_in (query_order q)) 0 (length (query_made q).ops);
        sorted_are = refl;
        wiring_is = refl;
        shapes = groups.shapes_are;
        sound = groups.sound;
        count = groups.count;
        reads_are = refl;
      })

pub accepted_put : (text : List ℕ) {q : TypedQuery} → accepted text ≡ Ok q → IsPut q (plan_of q)
accepted_put text {q} e = plan_put q (accepted_valid text q e) (staged_none _ q e)

pub have_plans : AcceptedHavePlans
have_plans = record { is_plan = λ text q e. (accepted_put _ e).is_plan; is_sound = λ text q e. (accepted_put _ e).is_sound }
