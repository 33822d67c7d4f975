-- What is made of one stream more.
use Rattle.std.proofs.{Common.{◌≡◌, ℕ, ◌+◌, ◌<◌, false, List, [], ◌∷◌, ◌++◌, length, get_or, drop, sym, ap, ◌∙◌}, lemmas.List.drop_more}
use Rattle.query_lang.specs.declared.{fold.TypedFold.TypedFold, typed.TypedStream.TypedStream}
use Rattle.stage_plan.specs.{declared.{op.PlanOp.PlanOp, wires.StreamWires.StreamWires}, Making.{made_by, all_made, are_deep, made_fault}}

-- the stream at a place is made of those before it
pub record IsNext (folds : List TypedFold) (ops more : List PlanOp) (streams others : List StreamWires) (list : List TypedStream) (i : ℕ)
    (one : TypedStream) : Type 0 where
  pub front : drop i list ≡ one ∷ drop (i + 1) list
  pub ops_are : more ≡ (made_by folds streams one.op ops).ops
  pub streams_are : others ≡ streams ++ (made_by folds streams one.op ops).wires ∷ []

pub is_next : (folds given : List TypedFold) (ops more : List PlanOp) (streams before others : List StreamWires) (wires : StreamWires)
    (list : List TypedStream) (i : ℕ) (one : TypedStream) →
    i < length list → one ≡ get_or list i one → given ≡ folds → before ≡ streams → more ≡ (made_by given before one.op ops).ops
    → wires ≡ (made_by given before one.op ops).wires → others ≡ streams ++ wires ∷ [] → IsNext folds ops more streams others list i one
is_next folds _ ops _ streams before _ _ list i one lt is same known made wired pushed = record {
  front = cc (drop_more list i one lt);
  ops_are = rw (made, same, known);
  streams_are = rw (pushed, wired, same, known);
}

module _ (folds : List TypedFold) (ops more : List PlanOp) (streams others : List StreamWires) (list : List TypedStream) (i : ℕ)
    (one : TypedStream) (next : IsNext folds ops more streams others list i one) where
  pub next_made : all_made folds more others (drop (i + 1) list) ≡ all_made folds ops streams (drop i list)
  next_made = rw (next.ops_are, next.streams_are, next.front)

  pub next_fault : are_deep more ≡ false → made_fault folds more others (drop (i + 1) list) ≡ made_fault folds ops streams (drop i list)
  next_fault shallow =
      let none = ap are_deep (sym next.ops_are) ∙ shallow in
      simp (next.ops_are, next.streams_are, none, next.front)
