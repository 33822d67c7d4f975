-- What a valid query's operators name is there, and few operations are made for each.
use Rattle.std.proofs.Common.{◌≡◌, ℕ, zero, suc, ◌+◌, ◌<◌, ◌≤◌, List, [], ◌∷◌, ◌++◌, length, get_or, Some, None, Option, sym, ap, subst}
use Rattle.std.proofs.{Common.{◌∙◌, inl, inr, arith}, lemmas.{List.{length_push, Elements.All-get_or}, Option.slice_get_cases}}
use Rattle.std.specs.Prelude.{All, IfSome, slice_get, option_and_then}
use Rattle.query_lang.specs.declared.{fold.{TypedExpr.TypedExpr, TypedFold.TypedFold}, typed.TypedOp.TypedOp}
use Rattle.query_lang.specs.declared.typed.{TypedOp.TheVariants.{Filter, Map, Zip, Group}, TypedQuery.TypedQuery, TypedStream.TypedStream}
use Rattle.query_lang.specs.{Folds.{IsValidEmit, IsValidFold, fold_args, fold_states}, Terms.term_of}
use Rattle.query_lang.specs.TypedQueries.{IsValidOp, IsValidStream, AreValidStreams, IsValidQuery}
use Rattle.stage_plan.specs.{declared.{op.PlanOp.PlanOp, wires.StreamWires.StreamWires}, Counting.{HasInputs, HasFold, emit_most, op_most}}
use Rattle.stage_plan.specs.{Grouping.FitsGroup, Making.{made_by, all_made}}

-- a valid stream after this many others
record IsAfter (names : ℕ) (folds : List TypedFold) (streams : ℕ) (one : TypedStream) : Type 0 where
  pub before : List TypedStream
  pub long : length before ≡ streams
  pub valid : IsValidStream names folds before one

beyond : (names : ℕ) (folds : List TypedFold) (before list : List TypedStream) (i : ℕ) (d : TypedStream)
    → AreValidStreams names folds before list → i < length list → IsAfter names folds (length before + i) (get_or list i d)
beyond _ _ _ [] i d _ lt = absurd (omega arith)
beyond _ _ before (_ ∷ _) zero d all lt = record { before = before; long = omega arith; valid = all.0 }
beyond names folds before (one ∷ rest) (suc i) d all lt =
    let r = beyond names folds (before ++ one ∷ []) rest i d all.1 (omega arith) in
    let same : length (before ++ one ∷ []) + i ≡ length before + suc i = omega (arith, length_push before one) in
    rw same at r

after_none : (q : TypedQuery) → IsValidQuery q → (i : ℕ) (d : TypedStream) → i < length q.streams
    → IsAfter (length q.names) q.folds i (get_or q.streams i d)
after_none q valid i d lt =
    let same : 0 + i ≡ i = omega arith in
    rw same at (beyond (length q.names) q.folds [] q.streams i d valid.streams lt)

inputs_there : (folds : List TypedFold) (before : List TypedStream) (width : ℕ) (op : TypedOp) → IsValidOp folds before width op
    → HasInputs (length before + 1) op
inputs_there _ _ _ (Filter _ _) v = omega arith
inputs_there _ _ _ (Map _ _) v = omega arith
inputs_there _ _ _ (Zip _ _ _) v = (omega arith, omega arith)
inputs_there _ _ _ (Group _ _ f _) v = omega arith

fold_there : (folds : List TypedFold) (before : List TypedStream) (width : ℕ) (op : TypedOp) → IsValidOp folds before width op
    → HasFold (length folds) op
fold_there _ _ _ (Filter _ _) v = tt
fold_there _ _ _ (Map _ _) v = tt
fold_there _ _ _ (Zip _ _ _) v = tt
fold_there _ _ _ (Group _ _ f _) v = v.1.is_fold

emit_few : (states args : ℕ) (o : Option TypedExpr) → IfSome o (λ e. IsValidEmit states args (term_of e)) → emit_most o ≤ 641
emit_few _ _ None h = omega arith
emit_few _ _ (Some e) h = omega arith

fold_few : (folds : List TypedFold) (number : ℕ) → All IsValidFold folds
    → emit_most (option_and_then (λ f. f.emit) (slice_get folds number)) ≤ 641
fold_few folds number all = elim ((slice_get_cases folds number).1) [
  | inl found ↦
      let f : TypedFold = found.0 in
      let valid : IsValidFold f = rw (← found.3) (All-get_or IsValidFold folds number f found.1 all) in
      let few : emit_most f.emit ≤ 641 = emit_few (fold_states f) (fold_args f) f.emit valid.emits in
      subst (λ o. emit_most (option_and_then (λ g. g.emit) o) ≤ 641) (sym found.2) few
  | inr past ↦
      let none : emit_most None ≤ 641 = omega arith in
      subst (λ o. emit_most (option_and_then (λ g. g.emit) o) ≤ 641) (sym past.1) none
]

op_few : (folds : List TypedFold) (before : List TypedStream) (width : ℕ) (op : TypedOp) → All IsValidFold folds
    → IsValidOp folds before width op → op_most folds op ≤ 641
op_few _ _ _ (Filter _ _) _ v = omega arith
op_few _ _ _ (Map _ _) _ v = omega arith
op_few _ _ _ (Zip _ _ _) _ v = omega arith
op_few folds _ _ (Group _ _ f _) all v = fold_few _ f all

-- what the operator of a valid query's stream names is there, and few operations are made for it
pub record Stands (q : TypedQuery) (i : ℕ) (op : TypedOp) : Type 0 where
  pub inputs : HasInputs (i + 1) op
  pub fold : HasFold (length q.folds) op
  pub few : op_most q.folds op ≤ 641

stands_at : (q : TypedQuery) → IsValidQuery q → (i : ℕ) (d : TypedStream) → i < length q.streams → Stands q i (get_or q.streams i d).op
stands_at q valid i d lt =
    let b = after_none q valid i d lt in
    let v = b.valid.operator in
    record {
      inputs = rw b.long at (inputs_there q.folds b.before _ _ v);
      fold = fold_there _ _ _ _ v;
      few = op_few _ _ _ _ valid.folds v;
    }

pub stands : (q : TypedQuery) (list : List TypedStream) (i : ℕ) (one : TypedStream) → IsValidQuery q → list ≡ q.streams → i < length list
    → one ≡ get_or list i one → Stands q i one.op
stands q _ i one valid same lt is =
    let here = is ∙ ap (λ l. get_or l i one) same in
    rw here (stands_at q valid i one (omega (arith, ap length same)))

-- this many more operations fit
pub op_fits : (q : TypedQuery) (folds : List TypedFold) (i : ℕ) (op : TypedOp) → folds ≡ q.folds → Stands q i op → op_most folds op ≤ 641
op_fits q _ i op same s = rw same s.few

pub fold_fits : (q : TypedQuery) (folds : List TypedFold) (i : ℕ) (op : TypedOp) → folds ≡ q.folds → Stands q i op
    → HasFold (length folds) op
fold_fits q _ i op same s = rw same s.fold

pub inputs_at : (n m : ℕ) (op : TypedOp) → n ≡ m → HasInputs n op → HasInputs m op
inputs_at n m op e h = rw e at h

inputs_more : (n m : ℕ) (op : TypedOp) → n ≤ m → HasInputs n op → HasInputs m op
inputs_more n m (Filter _ _) le h = omega arith
inputs_more n m (Map _ _) le h = omega arith
inputs_more n m (Zip _ _ _) le h = (omega arith, omega arith)
inputs_more n m (Group _ _ f _) le h = omega arith

-- every stream is made of those that are made
made_long : (folds : List TypedFold) (ops : List PlanOp) (streams : List StreamWires) (list : List TypedStream)
    → length (all_made folds ops streams list).streams ≡ length streams + length list
made_long folds ops streams [] = omega arith
made_long folds ops streams (one ∷ rest) =
    let wires : StreamWires = (made_by folds streams one.op ops).wires in
    let later = made_long folds (made_by folds streams one.op ops).ops (streams ++ wires ∷ []) rest in
    omega (arith, later, length_push streams wires)

pub all_inputs : (q : TypedQuery) (streams wires : List StreamWires) (start : StreamWires) (list : List TypedStream) → IsValidQuery q
    → streams ≡ (all_made q.folds [] (start ∷ []) q.streams).streams → wires ≡ streams →
    list ≡ q.streams → All (λ one. HasInputs (length wires) one.op) list
all_inputs q streams wires start list valid made there same = λ k d lt.
    let long : length wires ≡ 1 + length q.streams = (let l = made_long q.folds [] (start ∷ []) q.streams in omega
    (arith, ap length there, ap length made)) in
    let few : k < length q.streams = omega (arith, ap length same) in
    let one : HasInputs (k + 1) (get_or q.streams k d).op = (stands_at q valid k d few).inputs in
    let more : HasInputs (length wires) (get_or q.streams k d).op = inputs_more (k + 1) (length wires) (get_or q.streams k d).op
    (omega arith) one in
    subst (λ l. HasInputs (length wires) (get_or l k d).op) (sym same) more

group_fits : (q : TypedQuery) (one : TypedStream) (before : List TypedStream) → IsValidStream (length q.names) q.folds before one
    → (op : TypedOp) → IsValidOp q.folds before (length one.columns) op → FitsGroup q one op
group_fits q _ _ s (Filter _ _) v = tt
group_fits q _ _ s (Map _ _) v = tt
group_fits q _ _ s (Zip _ _ _) v = tt
group_fits q _ _ s (Group _ _ f _) v =
    let count = v.2 in
    record {
      name = s.name;
      key_names = s.columns;
      some_keys = omega arith;
      most_keys = omega arith;
      all_keys = count;
      is_fold = v.1.is_fold;
      all_args = v.1.all_args;
    }

pub all_fit : (q : TypedQuery) → IsValidQuery q → All (λ one. FitsGroup q one one.op) q.streams
all_fit q valid = λ k d lt.
    let b = after_none q valid k d lt in
    group_fits q _ _ b.valid _ b.valid.operator
