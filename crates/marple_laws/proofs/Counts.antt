-- The most operations that the plan of a query has.
use Rattle.marple_laws.proofs.Words
use Words.{◌≡◌, ℕ, ◌+◌, ◌*◌, ◌≤◌, List, [], ◌∷◌, ◌++◌, length, Option, Some, None, refl, ap, ◌∙◌, arith, All, flat_map, fold, sum_by}
use Words.{flat_map-append, length-map, sum_by-cons, TypedExpr, TypedFold, TypedOp, TypedQuery, TypedStream, IsValidEmit, IsValidFold}
use Words.{term_nodes, Term, Literal, Read, Negation, Operation, term_of, AreValidStreams, IsValidOp, IsValidQuery, query_made, stages_of}
use Words.{PlanOp, QueryMade, query_fault, order_long, query_ops, query_order, query_registers, made_staged, moved_op, op_numbered}
use Rattle.std.{specs.Prelude.{IfSome, map, max, slice_get}, proofs.lemmas.List.length-append}
use Rattle.query_lang.specs.declared.typed.TypedOp.TheVariants as typed
use Rattle.stage_plan.specs.Depths.{StreamDepths, depths_at, depths_made, emit_depths, group_depths, joined_depths, packet_depths}
use Rattle.stage_plan.specs.Depths.{query_depths, stage_fault, term_depth, term_depths}
use Rattle.stage_plan.proofs.Faults as faults
use Rattle.marple_laws.proofs.Texts.{all_at}

term_few : (columns : List ℕ) (t : Term) → length (term_depths columns t) ≤ term_nodes t
term_few columns (Literal n) = omega arith
term_few columns (Read s) = omega arith
term_few columns (Negation e) =
    let h = term_few columns e in
    omega (arith, length-append {A = ℕ}, h)
term_few columns (Operation op a b) =
    let last : List ℕ = (1 + max (term_depth columns a) (term_depth columns b)) ∷ [] in
    let one : length last ≡ 1 = refl in
    let h = term_few columns a in
    let k = term_few columns b in
    omega (arith, length-append {A = ℕ}, one, h, k)

values_few : (columns : List ℕ) (values : List TypedExpr)
    → length (flat_map (λ e. term_depths columns (term_of e)) values) ≤ sum_by (λ e. term_nodes (term_of e)) values
values_few columns [] = omega arith
values_few columns (e ∷ values) =
    let k = values_few columns values in
    omega (arith, length-append {A = ℕ}, sum_by-cons, term_few, k)

joined_few : (over : List ℕ) (c : Term) (present : ℕ) (columns : List ℕ)
    → length (joined_depths over c present columns).operations ≤ term_nodes c + 1
joined_few over c present columns = omega (arith, length-append {A = ℕ}, term_few)

emit_few : (o : Option TypedExpr) (states args initial : ℕ) (over : List ℕ) (present : ℕ) (columns : List ℕ)
    → IfSome o (λ e. IsValidEmit states args (term_of e)) → length (emit_depths o initial over present columns).operations ≤ 641
emit_few None states args initial over present columns h = omega arith
emit_few (Some c) states args initial over present columns h = omega (arith, joined_few)

group_few : (o : Option TypedFold) (input : StreamDepths) (keys args : List ℕ) → ((f : TypedFold) → o ≡ Some f → IsValidFold f)
    → length (group_depths o input keys args).operations ≤ 641
group_few None input keys args valid = omega arith
group_few (Some f) input keys args valid = emit_few _ _ _ _ _ _ _ (valid f refl).emits

made_few : (folds : List TypedFold) → All IsValidFold folds → (before : List TypedStream) (width : ℕ) (op : TypedOp)
    → IsValidOp folds before width op → (streams : List StreamDepths) → length (depths_made folds streams op).operations ≤ 641
made_few folds valid before width (typed.Filter input condition) v streams = omega (arith, joined_few)
made_few folds valid before width (typed.Map input values) v streams =
    let j = values_few (depths_at streams input).columns values in
    omega (arith, j)
made_few folds valid before width (typed.Zip left right slots) v streams = omega arith
made_few folds valid before width (typed.Group input keys f args) v streams =
    group_few (slice_get folds f) (depths_at streams input) keys args (λ g e. all_at IsValidFold folds f g valid e)

abbrev operations_of : List StreamDepths → ℕ
operations_of depths = length (flat_map (λ d. d.operations) depths)

counted : (folds : List TypedFold) → All IsValidFold folds → (names : ℕ) (before list : List TypedStream)
    → AreValidStreams names folds before list → (depths : List StreamDepths)
    → operations_of (fold (λ streams one. streams ++ depths_made folds streams one.op ∷ []) depths list) ≤ operations_of depths + 641
    * length list
counted folds valid names before [] v depths = omega arith
counted folds valid names before (one ∷ list) v depths =
    let made : StreamDepths = depths_made folds depths one.op in
    let rest = counted folds valid names (before ++ one ∷ []) list v.1 (depths ++ made ∷ []) in
    let few = made_few folds valid before (length one.columns) one.op v.0.operator depths in
    let n = ap length (flat_map-append (λ (d : StreamDepths). d.operations) depths (made ∷ [])) in
    omega (arith, rest, few, n, length-append {A = ℕ})

few_depths : {q : TypedQuery} → IsValidQuery q → length (query_depths q) ≤ 20512
few_depths v =
    let c = counted _ v.folds _ [] _ v.streams (packet_depths ∷ []) in
    omega arith

pub made_of_query : (q : TypedQuery) → stage_fault q ≡ None → QueryMade q (query_made q).ops (query_made q).streams
made_of_query q none = faults.query_made q _ _ refl refl (query_fault q ∙ none)

pub few_made : {q : TypedQuery} → IsValidQuery q → stage_fault q ≡ None → length (query_made q).ops ≤ 20512
few_made {q} v none =
    let stages : length (map (λ (one : PlanOp). one.stage) (query_made q).ops) ≡ length (query_depths q) =
    ap length (made_of_query q none).stages_are in
    let same = length-map (query_made q).ops (λ (one : PlanOp). one.stage) in
    let few = few_depths v in
    omega arith

pub few_ops : {q : TypedQuery} → IsValidQuery q → stage_fault q ≡ None → length (query_ops q) ≤ 20512
few_ops {q} v none =
    let long = order_long (query_made q).ops (stages_of (query_made q).ops) (made_staged q) in
    let ops = length-map (query_order q) (λ number. moved_op (query_registers q) (op_numbered (query_made q).ops number)) in
    let few = few_made v none in
    omega arith
