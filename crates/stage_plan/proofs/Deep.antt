-- The stages of operations that are made are the depths of the query, and each reads what is before it.
use Rattle.std.proofs.Common.{◌≡◌, ℕ, ◌+◌, max, List, [], ◌∷◌, ◌++◌, length, Some, None, Option, sym, ap, subst, ◌∙◌, inl, inr, arith}
use Rattle.std.proofs.{Common.{append_assoc, append-nil}, lemmas.{Bool.{cases_eq, cases_lt}, List.length_push}}
use Rattle.std.specs.Prelude.{map, fold, flat_map, replicate}
use Rattle.query_lang.specs.declared.{fold.{TypedExpr.TypedExpr, TypedFold.TypedFold}, typed.TypedOp.TypedOp}
use Rattle.query_lang.specs.declared.typed.{TypedOp.TheVariants.{Filter, Map, Zip, Group}, TypedQuery.TypedQuery, TypedStream.TypedStream}
use Rattle.query_lang.specs.{Streams.values_at, Terms.{Term, Literal, Read, Negation, Operation, term_of}}
use Rattle.stage_plan.specs.declared.op.{Operand.{Operand, TheVariants.Number}, Operation.TheVariants.Not, PlanOp.PlanOp}
use Rattle.stage_plan.specs.{declared.wires.StreamWires.StreamWires, Depths.{term_depth, term_depths, StreamDepths, packet_depths}}
use Rattle.stage_plan.specs.{Depths.{depths_at, joined_depths, emit_depths, group_depths, depths_made, all_depths}, Making.compiled}
use Rattle.stage_plan.specs.Making.{compiled_all, operand_at, wires_at, conditioned, emit_columns, made_emit, made_group, made_by, all_made}
use Rattle.stage_plan.proofs.{StreamRows.{at_earlier, at_last, at_past}, Extending.Extends, Depths.{IsAt, is_more, number_at, AreAt}}
use Rattle.stage_plan.proofs.Depths.{are_more, column_is, are_picked, are_append, are_numbers, AreMade, Added, added_none, added_then}
use Rattle.stage_plan.proofs.Depths.{added_one, last_at}

-- an expression
pub record Compiles (ops : List PlanOp) (columns : List Operand) (depths : List ℕ) (e : Term) : Type 0 where
  pub added : Added ops (compiled columns e ops).ops (term_depths depths e)
  pub value : IsAt (compiled columns e ops).ops (compiled columns e ops).value (term_depth depths e)

compiles : (ops : List PlanOp) (columns : List Operand) (depths : List ℕ) (e : Term) → AreMade ops → AreAt ops columns depths
    → Compiles ops columns depths e
compiles ops _ _ (Literal n) made at = record { added = added_none _ made; value = number_at _ n }
compiles ops columns depths (Read s) made at = record { added = added_none _ made; value = column_is _ _ _ s at }
compiles ops columns depths (Negation e) made at =
    let c = compiles _ _ _ e made at in
    let more = (compiled columns e ops).ops in
    let same : 1 + max (term_depth depths e) 0 ≡ 1 + term_depth depths e = omega arith in
    record {
      added = added_then _ _ _ _ _ c.added (subst (λ d. Added more (compiled columns (Negation e) ops).ops (d ∷ [])) same
          (added_one _ _ _ _ _ 0 c.added.made c.value (number_at _ 0)));
      value = rw same at (last_at more Not (compiled columns e ops).value (Number 0) (term_depth depths e) 0 c.value (number_at more 0));
    }
compiles ops columns depths (Operation op a b) made at =
    let c = compiles _ _ _ a made at in
    let more = (compiled columns a ops).ops in
    let d = compiles more columns depths b c.added.made (are_more _ _ _ _ c.added.extends at) in
    let most = (compiled columns b more).ops in
    let left = is_more _ _ _ _ d.added.extends c.value in
    record {
      added = added_then _ _ _ _ _ c.added (added_then _ _ _ _ _ d.added (added_one _ _ _ _ _ _ d.added.made left d.value));
      value = last_at _ _ _ _ _ _ left d.value;
    }

-- a stream's operands
pub record WiresAt (ops : List PlanOp) (wires : StreamWires) (depths : StreamDepths) : Type 0 where
  pub present : IsAt ops wires.present depths.present
  pub columns : AreAt ops wires.columns depths.columns

wires_more : (ops more : List PlanOp) (wires : StreamWires) (depths : StreamDepths) → Extends ops more → WiresAt ops wires depths
    → WiresAt more wires depths
wires_more ops more wires depths e h = record {
  present = is_more _ _ _ _ e h.present;
  columns = are_more _ _ _ _ e h.columns;
}

-- what an operator adds
pub record Makes (ops more : List PlanOp) (wires : StreamWires) (depths : StreamDepths) : Type 0 where
  pub added : Added ops more depths.operations
  pub wires_are : WiresAt more wires depths

conditioned_makes : (ops : List PlanOp) (over : List Operand) (over_depths : List ℕ) (condition : Term) (present : Operand) (depth : ℕ)
    (columns : List Operand) (depths : List ℕ) →
    AreMade ops → AreAt ops over over_depths → IsAt ops present depth → AreAt ops columns depths →
    Makes ops (conditioned over condition ops present columns).ops (conditioned over condition ops present columns).wires
    (joined_depths over_depths condition depth depths)
conditioned_makes ops over over_depths condition present depth columns depths made over_at present_at columns_at =
    let c = compiles _ _ _ _ made over_at in
    let more = (compiled over condition ops).ops in
    let value = (compiled over condition ops).value in
    let joined_at = is_more _ _ _ _ c.added.extends present_at in
    let last = added_one _ _ _ _ _ _ c.added.made joined_at c.value in
    let all = added_then _ _ _ _ _ c.added last
    in
    record {
      added = all;
      wires_are = record {
        present = last_at _ _ _ _ _ _ joined_at c.value;
        columns = are_more _ _ _ _ all.extends columns_at;
      };
    }

-- new columns of a `map`
record MakesColumns (ops more : List PlanOp) (values : List Operand) (operations depths : List ℕ) : Type 0 where
  added : Added ops more operations
  values_at' : AreAt more values depths

columns_make : (ops : List PlanOp) (columns : List Operand) (depths : List ℕ) (found : List Operand) (found_depths : List ℕ)
    (values : List TypedExpr) → AreMade ops → AreAt ops columns depths → AreAt ops found found_depths →
    MakesColumns ops (compiled_all columns found (map term_of values) ops).ops (compiled_all columns found (map term_of values) ops).values
    (flat_map (λ e. term_depths depths (term_of e)) values) (found_depths ++ map (λ e. term_depth depths (term_of e)) values)
columns_make ops _ _ found found_depths [] made at found_at =
    record { added = added_none _ made; values_at' = rw (append-nil found_depths) found_at }
columns_make ops columns depths found found_depths (e ∷ values) made at found_at =
    let c = compiles _ _ _ _ made at in
    let more = (compiled columns (term_of e) ops).ops in
    let value = (compiled columns (term_of e) ops).value in
    let rest =
    columns_make more columns depths (found ++ value ∷ []) (found_depths ++ term_depth depths (term_of e) ∷ []) values c.added.made
    (are_more _ _ _ _ c.added.extends at) (are_append more found (value ∷ []) found_depths (term_depth depths (term_of e) ∷ [])
    (are_more _ _ _ _ c.added.extends found_at) (c.value, tt))
    in
    record {
      added = added_then _ _ _ _ _ c.added rest.added;
      values_at' =
          rw (append_assoc found_depths (term_depth depths (term_of e) ∷ []) (map (λ e. term_depth depths (term_of e)) values)) at
          rest.values_at';
    }

emit_makes : (ops : List PlanOp) (o : Option TypedExpr) (initial : List ℕ) (source : StreamWires) (depths : StreamDepths)
    (keys args : List ℕ) → AreMade ops → WiresAt ops source depths →
    Makes ops (made_emit o (emit_columns initial source.columns args) source (map (operand_at source.columns) keys) ops).ops
    (made_emit o (emit_columns initial source.columns args) source (map (operand_at source.columns) keys) ops).wires
    (emit_depths o (length initial) (values_at depths.columns args) depths.present (values_at depths.columns keys))
emit_makes ops None _ source depths keys _ made at = record {
  added = added_none _ made;
  wires_are =
      record { present = number_at _ 0; columns = are_picked _ _ _ _ at.columns };
}
emit_makes ops (Some condition) initial source depths keys args made at =
    conditioned_makes _ (emit_columns initial source.columns args) (replicate (length initial) 0 ++ values_at depths.columns args)
    (term_of condition) _ _ _ _ made
    (are_append ops (map Number initial) (map (operand_at source.columns) args) (replicate (length initial) 0)
    (values_at depths.columns args) (are_numbers ops initial) (are_picked _ _ _ args at.columns)) at.present (are_picked _ _ _ _ at.columns)

group_makes : (ops : List PlanOp) (o : Option TypedFold) (source : StreamWires) (depths : StreamDepths) (keys args : List ℕ) → AreMade ops
    → WiresAt ops source depths →
    Makes ops (made_group o source keys args ops).ops (made_group o source keys args ops).wires (group_depths o depths keys args)
group_makes ops None source depths keys _ made at = record {
  added = added_none _ made;
  wires_are =
      record { present = number_at _ 0; columns = are_picked _ _ _ _ at.columns };
}
group_makes ops (Some f) source depths keys args made at = emit_makes _ _ _ _ _ _ _ made at

abbrev pub AllAt : List PlanOp → List StreamWires → List StreamDepths → Type 0
AllAt ops streams depths = (j : ℕ) → WiresAt ops (wires_at streams j) (depths_at depths j)

pub op_makes : (folds : List TypedFold) (ops : List PlanOp) (streams : List StreamWires) (depths : List StreamDepths) (op : TypedOp)
    → AreMade ops → AllAt ops streams depths →
    Makes ops (made_by folds streams op ops).ops (made_by folds streams op ops).wires (depths_made folds depths op)
op_makes _ ops streams depths (Filter input condition) made at = conditioned_makes _ _ _ _ _ _
    _ _ made (at input).columns (at input).present (at input).columns
op_makes folds ops streams depths (Map input values) made at =
    let c = columns_make _ _ _ _ _ _ made (at input).columns (at input).columns in
    record {
      added = c.added;
      wires_are = record {
        present = is_more _ _ _ _ c.added.extends (at input).present;
        columns = c.values_at';
      };
    }
op_makes folds ops streams depths (Zip left right slots) made at =
    let l = (at left).present in
    let r = (at right).present in
    let last = added_one _ _ _ _ _ _ made l r in
    record {
      added = last;
      wires_are = record {
        present = last_at _ _ _ _ _ _ l r;
        columns = are_more _ _ _ _ last.extends (are_append _ _ _ _ _ (at left).columns (are_picked _ _ _ _ (at right).columns));
      };
    }
op_makes folds ops streams depths (Group input keys f args) made at = group_makes _ _ _ _ _ _ made (at input)

-- the depths of the streams that follow others
abbrev pub depths_after : List TypedFold → List StreamDepths → List TypedStream → List StreamDepths
depths_after _ _ [] = []
depths_after folds depths (one ∷ list) = depths_made folds depths one.op
    ∷ depths_after folds (depths ++ depths_made folds depths one.op ∷ []) list

folded_after : (folds : List TypedFold) (depths : List StreamDepths) (list : List TypedStream) →
    fold (λ streams one. streams ++ depths_made folds streams one.op ∷ []) depths list ≡ depths ++ depths_after folds depths list
folded_after _ depths [] = simp append-nil
folded_after folds depths (one ∷ list) = folded_after folds (depths ++ depths_made folds depths one.op ∷ []) list
    ∙ append_assoc depths (depths_made folds depths one.op ∷ []) (depths_after folds (depths ++ depths_made folds depths one.op ∷ []) list)

pub depths_are : (q : TypedQuery) → all_depths q ≡ packet_depths ∷ depths_after q.folds (packet_depths ∷ []) q.streams
depths_are q = folded_after q.folds (packet_depths ∷ []) q.streams

pub all_more : (ops more : List PlanOp) (streams : List StreamWires) (depths : List StreamDepths) (wires : StreamWires) (d : StreamDepths)
    → length streams ≡ length depths → Extends ops more → AllAt ops streams depths →
    WiresAt more wires d → AllAt more (streams ++ wires ∷ []) (depths ++ d ∷ [])
all_more ops more streams depths wires d long e at new = λ j. elim (cases_lt j (length streams)) [
  | inl lt ↦ place j (wires_at streams j) (depths_at depths j) (at_earlier streams wires none j lt)
      (at_earlier depths d no_depths j (omega arith)) (wires_more ops more (wires_at streams j) (depths_at depths j) e (at j))
  | inr le ↦ elim (cases_eq j (length streams)) [
    | inl here ↦ place j wires d (at_last streams wires none j here) (at_last depths d no_depths j (here ∙ long)) new
    | inr past ↦ place j none no_depths (at_past (streams ++ wires ∷ []) none j (let l = length_push streams wires in omega arith))
        (at_past (depths ++ d ∷ []) no_depths j (let l = length_push depths d in omega arith))
        (record { present = number_at more 0; columns = tt })
  ]
]
  where
    none : StreamWires
    none = record { present = Number 0; columns = [] }

    no_depths : StreamDepths
    no_depths = record { operations = []; present = 0; columns = [] }

    place : (j : ℕ) (w : StreamWires) (s : StreamDepths) → wires_at (streams ++ wires ∷ []) j ≡ w → depths_at (depths ++ d ∷ []) j ≡ s
        → WiresAt more w s → WiresAt more (wires_at (streams ++ wires ∷ []) j) (depths_at (depths ++ d ∷ []) j)
    place j w s p q h = rw p (subst (WiresAt more w) (sym q) h)

-- all operations of streams, whose wires are somewhere
pub record AllMakes (folds : List TypedFold) (ops : List PlanOp) (streams : List StreamWires) (depths : List StreamDepths)
    (list : List TypedStream) : Type 0 where
  pub added : Added ops (all_made folds ops streams list).ops (flat_map (λ d. d.operations) (depths_after folds depths list))
  pub within : (j : ℕ) → (d : StreamDepths) × WiresAt (all_made folds ops streams list).ops
      (wires_at (all_made folds ops streams list).streams j) d

pub all_make : (folds : List TypedFold) (ops : List PlanOp) (streams : List StreamWires) (depths : List StreamDepths)
    (list : List TypedStream) → AreMade ops → length streams ≡ length depths → AllAt ops streams depths →
    AllMakes folds ops streams depths list
all_make _ ops _ depths [] made _ at = record { added = added_none _ made; within = λ j. (depths_at depths j, at j) }
all_make folds ops streams depths (one ∷ list) made long at =
    let d = depths_made folds depths one.op in
    let more = (made_by folds streams one.op ops).ops in
    let wires = (made_by folds streams one.op ops).wires in
    let m = op_makes folds _ _ _ one.op made at in
    let rest = all_make folds more (streams ++ wires ∷ []) (depths ++ d ∷ []) list m.added.made
    (length_push _ _ ∙ ap (λ n. n + 1) long ∙ sym (length_push _ d)) (all_more _ _ _ _ _ d long m.added.extends at m.wires_are)
    in
    record {
      added = added_then _ _ _ _ _ m.added rest.added;
      within = rest.within;
    }
