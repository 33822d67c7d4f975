-- Each groupby of a valid query has a fold.
use Rattle.std.proofs.{Common.{◌≡◌, ℕ, ◌<◌, List, [], ◌∷◌, ◌++◌, Some, length}, lemmas.List.Elements.{All-nil, All-cons}}
use Rattle.std.specs.List.{All}
use Rattle.query_lang.specs.declared.{fold.TypedFold.TypedFold, typed.TypedOp.TypedOp}
use Rattle.query_lang.specs.declared.typed.TypedOp.TheVariants as op
use Rattle.query_lang.specs.{declared.typed.{TypedQuery.TypedQuery, TypedStream.TypedStream}, Streams.{Taking, takings}}
use Rattle.query_lang.specs.TypedQueries.{IsValidQuery, AreValidStreams, IsValidOp}
use Rattle.stage_plan.specs.Planned.{fold_at}
use Rattle.switch_core.proofs.SideBySide.{all_got, got_some}

abbrev HasFold : List TypedFold → Taking → Type 0
HasFold folds t = t.fold_number < length folds

folds_there : (names : ℕ) (folds : List TypedFold) (before streams : List TypedStream) → AreValidStreams names folds before streams
    → All (HasFold folds) (takings streams)
folds_there _ folds _ [] _ = All-nil (HasFold folds)
folds_there names folds before (one ∷ streams) valid = by_op one.op valid.0.operator
    (folds_there names folds (before ++ one ∷ []) streams valid.1)
  where
    by_op : (o : TypedOp) → IsValidOp folds before (length one.columns) o → All (HasFold folds) (takings streams)
        → All (HasFold folds) (takings (record one { op = o } ∷ streams))
    by_op (op.Filter _ _) v rest = rest
    by_op (op.Map _ _) v rest = rest
    by_op (op.Zip _ _ _) v rest = rest
    by_op (op.Group input keys f args) v rest = All-cons (HasFold folds)
        (record { input = input; keys = keys; fold_number = f; args = args }) (takings streams) v.1.is_fold rest

pub fold_there : (q : TypedQuery) (i : ℕ) → IsValidQuery q → i < length (takings q.streams) → (f : TypedFold) × (fold_at q i ≡ Some f)
fold_there q i valid within =
    let t = got_some (takings q.streams) i within in
    let has = all_got (HasFold q.folds) (takings q.streams) i t.0 (folds_there (length q.names) q.folds [] q.streams valid.streams) t.1 in
    let f = got_some q.folds t.0.fold_number has in
    (f.0, rw t.1 f.1)
