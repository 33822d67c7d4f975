-- The lines of a plan's text in order.
use Rattle.std.proofs.Common.{◌≡◌, ℕ, zero, suc, ◌+◌, List, [], ◌∷◌, ◌++◌, length, refl, sym, ap, ◌∙◌, arith, append_assoc, append-nil}
use Rattle.std.{proofs.lemmas.List.{length_push, length-map, map-append}, specs.Prelude.{map, flat_map, count_by, cond, ◌==◌, codes}}
use Rattle.stage_plan.specs.{declared.{group.GroupPlan.GroupPlan, op.PlanOp.PlanOp}, Registers.stages_of, Planned.{shape_of, plan_bound}}
use Rattle.stage_plan.specs.{Shape.{up_to, sizes_of, counted, line, stage_lines, group_line, group_shape, plan_text_of}, Sound.PlanParts}
use Rattle.stage_plan.proofs.{Depths.stages, PlanParts.sum_map}

up_to_long : (n : ℕ) → length (up_to n) ≡ n
up_to_long zero = refl
up_to_long (suc n) = length_push (up_to n) (suc n) ∙ (let e = up_to_long n in omega arith)

sizes_long : (n : ℕ) (depths : List ℕ) → length (sizes_of n depths) ≡ n
sizes_long n depths = simp (length-map, up_to_long)

lines_push : (n : ℕ) (xs : List ℕ) (x : ℕ) → stage_lines n (xs ++ x ∷ []) ≡ stage_lines n xs
    ++ line (counted (counted (codes "stage") (n + length xs)) x)
lines_push n [] x =
    let e : n ≡ n + 0 = omega arith in
    cc (append-nil (line (counted (counted (codes "stage") n) x)))
lines_push n (y ∷ xs) x =
    let e : suc n + length xs ≡ n + suc (length xs) = omega arith in
    cc (
      lines_push (suc n) xs x,
      append_assoc (line (counted (counted (codes "stage") n) y)) (stage_lines (suc n) xs)
          (line (counted (counted (codes "stage") (n + suc (length xs))) x)),
    )

-- the line of one more stage
pub stage_more : (ops : List PlanOp) (b size : ℕ) → size ≡ count_by (λ one. one.stage == (b + 1)) ops →
    stage_lines 1 (sizes_of b (stages ops)) ++ line (counted (counted (codes "stage") (b + 1)) size) ≡ stage_lines 1
    (sizes_of (b + 1) (stages ops))
stage_more ops b size is =
    let next : b + 1 ≡ suc b = omega arith in
    let place : b + 1 ≡ 1 + length (sizes_of b (stages ops)) = (let e = sizes_long b (stages ops) in omega arith) in
    let count : size ≡ count_by (λ depth. depth == suc b) (stages ops) = is ∙ ap (λ k. count_by (λ one. one.stage == k) ops) next
    ∙ sym (sum_map (λ depth. cond (depth == suc b) 1 0) (λ one. one.stage) ops) in
    cc (
      lines_push 1 (sizes_of b (stages ops)) (count_by (λ depth. depth == suc b) (stages ops)),
      map-append
          (λ stage. count_by (λ depth. depth == stage) (stages ops)) (up_to b) (suc b ∷ []),
    )

five : (t0 t1 t2 t3 t4 t5 a b c d e : List ℕ) → t0 ≡ [] → t1 ≡ t0 ++ a → t2 ≡ t1 ++ b → t3 ≡ t2 ++ c → t4 ≡ t3 ++ d → t5 ≡ t4 ++ e → t5 ≡ a
    ++ (b ++ (c ++ (d ++ e)))
five t0 t1 t2 t3 t4 t5 a b c d e e0 e1 e2 e3 e4 e5 =
    let whole : t5 ≡ ((((([] ++ a) ++ b) ++ c) ++ d) ++ e) = cc in
    whole ∙ simp (append_assoc)

-- all lines
pub text_is : (p : PlanParts) (ways s o r b : ℕ) (ops : List PlanOp) (groups : List GroupPlan) (t0 t1 t2 t3 t4 t5 : List ℕ) →
    s ≡ stages_of p.ops → o ≡ length p.ops → r ≡ stages_of p.ops → b ≡ plan_bound p ways → ops ≡ p.ops → groups ≡ p.groups →
    t0 ≡ [] → t1 ≡ t0 ++ line (counted (codes "stages") s) → t2 ≡ t1 ++ line (counted (codes "operations") o) →
    t3 ≡ t2 ++ stage_lines 1 (sizes_of r (stages ops)) → t4 ≡ t3 ++ flat_map group_line (map group_shape groups) → t5 ≡ t4
    ++ line (counted (codes "bound") b) → t5 ≡ plan_text_of (shape_of p) ways
text_is p ways s o r b ops _ t0 t1 t2 t3 t4 t5 es eo er eb eops egroups e0 e1 e2 e3 e4 e5 = five t0 t1 t2 t3 t4 t5 _ _ _ _ _ e0
    (e1 ∙ ap (λ n. t0 ++ line (counted (codes "stages") n)) (es ∙ sym (sizes_long _ (stages p.ops))))
    (e2 ∙ ap (λ n. t1 ++ line (counted (codes "operations") n)) eo)
    (e3 ∙ ap (λ n. t2 ++ stage_lines 1 (sizes_of n (stages ops))) er ∙ ap (λ l. t2 ++ stage_lines 1 (sizes_of (stages_of p.ops) (stages l)))
    eops) (e4 ∙ ap (λ l. t3 ++ flat_map group_line (map group_shape l)) egroups) (e5 ∙ ap (λ n. t4 ++ line (counted (codes "bound") n)) eb)
