-- Operations of expressions and streams are added after those before them.
use Rattle.std.proofs.{Common.{◌≡◌, ℕ, ◌≤◌, List, [], ◌∷◌, ◌++◌, length, Some, None, Option, arith}, lemmas.List.length_push}
use Rattle.std.specs.Prelude.{map, slice_get}
use Rattle.query_lang.specs.declared.{fold.{Op.TheVariants.Both, TypedExpr.TypedExpr, TypedFold.TypedFold}, typed.TypedOp.TypedOp}
use Rattle.query_lang.specs.declared.typed.{TypedOp.TheVariants.{Filter, Map, Zip, Group}, TypedStream.TypedStream}
use Rattle.query_lang.specs.Terms.{Term, Literal, Read, Negation, Operation, term_of}
use Rattle.stage_plan.specs.declared.{op.{Operand.Operand, Operation.TheVariants.Two, PlanOp.PlanOp}, wires.StreamWires.StreamWires}
use Rattle.stage_plan.specs.Making.{compiled, compiled_all, op_on, wires_at, conditioned, made_emit, made_group, made_by, all_made}
use Rattle.stage_plan.proofs.Lists.{slice_get-left}

-- a list of operations goes on from another
pub record Extends (ops more : List PlanOp) : Type 0 where
  pub keeps : (i : ℕ) (one : PlanOp) → slice_get ops i ≡ Some one → slice_get more i ≡ Some one
  pub grows : length ops ≤ length more

pub same_ops : (ops : List PlanOp) → Extends ops ops
same_ops _ = record { keeps = λ i one f. f; grows = omega arith }

pub and_more : (a b c : List PlanOp) → Extends a b → Extends b c → Extends a c
and_more a b c p q = record { keeps = λ i one f. q.keeps i one (p.keeps i one f); grows = omega (arith, p.grows, q.grows) }

pub one_more : (ops : List PlanOp) (one : PlanOp) → Extends ops (ops ++ one ∷ [])
one_more ops one = record { keeps = λ i other f. slice_get-left ops (one ∷ []) i _ f; grows = omega (arith, length_push ops one) }

pub compiled_extends : (columns : List Operand) (e : Term) (ops : List PlanOp) → Extends ops (compiled columns e ops).ops
compiled_extends _ (Literal n) ops = same_ops _
compiled_extends _ (Read s) ops = same_ops _
compiled_extends columns (Negation e) ops = and_more _ _ _ (compiled_extends _ e _) (one_more _ _)
compiled_extends columns (Operation op a b) ops = and_more _ _ _ (compiled_extends _ a _) (and_more _ _ _ (compiled_extends _ b _)
    (one_more _ _))

pub all_extend : (columns found : List Operand) (list : List Term) (ops : List PlanOp)
    → Extends ops (compiled_all columns found list ops).ops
all_extend _ _ [] ops = same_ops _
all_extend columns found (e ∷ list) ops = and_more _ _ _ (compiled_extends columns e _)
    (all_extend columns (found ++ (compiled columns e ops).value ∷ []) list (compiled columns e ops).ops)

pub conditioned_extends : (over : List Operand) (condition : Term) (ops : List PlanOp) (present : Operand) (columns : List Operand)
    → Extends ops (conditioned over condition ops present columns).ops
conditioned_extends over condition ops present columns = and_more _ _ _ (compiled_extends over condition _)
    (one_more _ (op_on (compiled over condition ops).ops (Two Both) present (compiled over condition ops).value))

emitted_extends : (o : Option TypedExpr) (over : List Operand) (input : StreamWires) (keys : List Operand) (ops : List PlanOp)
    → Extends ops (made_emit o over input keys ops).ops
emitted_extends None _ _ _ ops = same_ops _
emitted_extends (Some condition) over input keys ops = conditioned_extends over (term_of condition) _ input.present keys

grouped_extends : (o : Option TypedFold) (input : StreamWires) (keys args : List ℕ) (ops : List PlanOp)
    → Extends ops (made_group o input keys args ops).ops
grouped_extends None _ _ _ ops = same_ops _
grouped_extends (Some f) input keys args ops = emitted_extends _ _ _ _ _

pub made_extends : (folds : List TypedFold) (streams : List StreamWires) (op : TypedOp) (ops : List PlanOp)
    → Extends ops (made_by folds streams op ops).ops
made_extends _ streams (Filter input condition) ops =
    conditioned_extends (wires_at streams input).columns (term_of condition) _ (wires_at streams input).present
    (wires_at streams input).columns
made_extends _ streams (Map input values) ops = all_extend (wires_at streams input).columns (wires_at streams input).columns
    (map term_of values) _
made_extends _ streams (Zip left right _) ops = one_more _ _
made_extends folds streams (Group input keys f args) ops = grouped_extends _ _ _ _ _

pub all_made_extends : (folds : List TypedFold) (ops : List PlanOp) (streams : List StreamWires) (list : List TypedStream)
    → Extends ops (all_made folds ops streams list).ops
all_made_extends folds ops streams [] = same_ops ops
all_made_extends folds ops streams (one ∷ list) =
    and_more ops (made_by folds streams one.op ops).ops (all_made folds ops streams (one ∷ list)).ops
    (made_extends folds streams one.op ops)
    (all_made_extends folds (made_by folds streams one.op ops).ops (streams ++ (made_by folds streams one.op ops).wires ∷ []) list)
