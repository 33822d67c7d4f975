-- A query is too deep exactly where an operation that is made for it is, and else the stages are its depths.
use Rattle.std.proofs.Common.{◌≡◌, ℕ, zero, suc, ◌+◌, ◌<◌, ◌≤◌, min, Bool, true, false, cond, List, [], ◌∷◌, ◌++◌, length, Some, None, refl}
use Rattle.std.proofs.{Common.{sym, ap, subst, ◌∙◌, inl, inr, arith}, lemmas.{Bool.{cases_lt, Decides.nat_tests}, List.length_push}}
use Rattle.std.{proofs.lemmas.List.Folds.list_any-append, specs.{Prelude.{nat_lt, replicate, ◌||◌}, List.list_any}}
use Rattle.marple_base.specs.declared.field.TheConstants.{FIELDS}
use Rattle.query_lang.specs.declared.fault.{FaultKind.TheVariants.OverLimit, Limit.TheVariants.Stages, QueryFault.QueryFault}
use Rattle.query_lang.specs.declared.{fold.TypedFold.TypedFold, typed.{TypedQuery.TypedQuery, TypedStream.TypedStream}}
use Rattle.query_lang.specs.declared.fault.TheConstants.{MAX_STAGES}
use Rattle.stage_plan.specs.declared.{op.{Operand.{Operand, TheVariants.Register}, PlanOp.PlanOp}, wires.StreamWires.StreamWires}
use Rattle.stage_plan.specs.Depths.{StreamDepths, packet_depths, depths_at, depths_made, query_depths, is_too_deep, first_too_deep}
use Rattle.stage_plan.specs.{Depths.stage_fault, Making.{wires_at, packet_wires, made_by, all_made, are_deep, made_fault}}
use Rattle.stage_plan.proofs.Depths.{AreAt, IsAt, number_at, AreMade, capped, stages, Added}
use Rattle.stage_plan.proofs.Deep.{WiresAt, Makes, AllAt, op_makes, depths_after, depths_are, all_more, AllMakes, all_make}

-- where an operation is too deep, some depth is
deep_stages : (ops : List PlanOp) → are_deep ops ≡ list_any (λ s. nat_lt MAX_STAGES s) (stages ops)
deep_stages [] = refl
deep_stages (one ∷ ops) = cc (deep_stages ops)

deep_one : (d : ℕ) → nat_lt MAX_STAGES (min (MAX_STAGES + 1) d) ≡ nat_lt MAX_STAGES d
deep_one d = elim (cases_lt MAX_STAGES d) [
  | inl lt ↦
      let a : nat_lt MAX_STAGES (min (MAX_STAGES + 1) d) ≡ true =
      (let m : MAX_STAGES < min (MAX_STAGES + 1) d = omega arith in grind (arith, nat_tests)) in
      let b : nat_lt MAX_STAGES d ≡ true = grind (arith, nat_tests) in
      a ∙ sym b
  | inr le ↦
      let a : nat_lt MAX_STAGES (min (MAX_STAGES + 1) d) ≡ false = (grind (arith, nat_tests)) in
      let b : nat_lt MAX_STAGES d ≡ false = grind (arith, nat_tests) in
      a ∙ sym b
]

deep_capped : (depths : List ℕ) → list_any (λ s. nat_lt MAX_STAGES s) (capped depths) ≡ is_too_deep depths
deep_capped [] = refl
deep_capped (d ∷ depths) = cc (deep_one d, deep_capped depths)

added_deep : (ops more : List PlanOp) (depths : List ℕ) → Added ops more depths → are_deep ops ≡ false → are_deep more ≡ is_too_deep depths
added_deep ops more depths a none =
    cc (deep_stages more, list_any-append (λ s. nat_lt MAX_STAGES s) (stages ops) (capped depths), deep_stages ops, deep_capped depths)

pub faults_are : (folds : List TypedFold) (ops : List PlanOp) (streams : List StreamWires) (depths : List StreamDepths)
    (list : List TypedStream) → AreMade ops → length streams ≡ length depths → AllAt ops streams depths →
    are_deep ops ≡ false → made_fault folds ops streams list ≡ first_too_deep list (depths_after folds depths list)
faults_are folds ops streams depths [] made long at none = refl
faults_are folds ops streams depths (one ∷ list) made long at none =
    let d : StreamDepths = depths_made folds depths one.op in
    let more : List PlanOp = (made_by folds streams one.op ops).ops in
    let wires : StreamWires = (made_by folds streams one.op ops).wires in
    let m : Makes ops more wires d = op_makes folds ops streams depths one.op made at in
    go (are_deep more) refl (added_deep ops more d.operations m.added none)
    (λ none. faults_are folds more (streams ++ wires ∷ []) (depths ++ d ∷ []) list m.added.made
    (length_push streams wires ∙ ap (λ n. n + 1) long ∙ sym (length_push depths d))
    (all_more ops more streams depths wires d long m.added.extends at m.wires_are) none)
  where
    go : (b : Bool) → are_deep (made_by folds streams one.op ops).ops ≡ b
        → are_deep (made_by folds streams one.op ops).ops ≡ is_too_deep (depths_made folds depths one.op).operations →
        (are_deep (made_by folds streams one.op ops).ops ≡ false → made_fault folds (made_by folds streams one.op ops).ops
        (streams ++ (made_by folds streams one.op ops).wires ∷ []) list ≡ first_too_deep list
        (depths_after folds (depths ++ depths_made folds depths one.op ∷ []) list)) →
        made_fault folds ops streams (one ∷ list) ≡ first_too_deep (one ∷ list) (depths_after folds depths (one ∷ list))
    go true is same rest = ap (λ b. cond b (Some (record { kind = OverLimit Stages; span = one.name.span }))
        (made_fault folds (made_by folds streams one.op ops).ops (streams ++ (made_by folds streams one.op ops).wires ∷ []) list)) is
        ∙ ap (λ b. cond b (Some (record { kind = OverLimit Stages; span = one.name.span }))
        (first_too_deep list (depths_after folds (depths ++ depths_made folds depths one.op ∷ []) list))) (sym is ∙ same)
    go false is same rest = ap (λ b. cond b (Some (record { kind = OverLimit Stages; span = one.name.span }))
        (made_fault folds (made_by folds streams one.op ops).ops (streams ++ (made_by folds streams one.op ops).wires ∷ []) list)) is
        ∙ rest is ∙ ap (λ b. cond b (Some (record { kind = OverLimit Stages; span = one.name.span }))
        (first_too_deep list (depths_after folds (depths ++ depths_made folds depths one.op ∷ []) list))) (sym is ∙ same)

no_deep : (folds : List TypedFold) (ops : List PlanOp) (streams : List StreamWires) (list : List TypedStream) → are_deep ops ≡ false
    → made_fault folds ops streams list ≡ None → are_deep (all_made folds ops streams list).ops ≡ false
no_deep _ _ _ [] none e = none
no_deep folds ops streams (one ∷ list) _ e = go _ refl
    (no_deep folds (made_by folds streams one.op ops).ops (streams ++ (made_by folds streams one.op ops).wires ∷ []) list)
  where
    go : (b : Bool) → are_deep (made_by folds streams one.op ops).ops ≡ b →
        (are_deep (made_by folds streams one.op ops).ops ≡ false → made_fault folds (made_by folds streams one.op ops).ops
        (streams ++ (made_by folds streams one.op ops).wires ∷ []) list ≡ None
        → are_deep (all_made folds ops streams (one ∷ list)).ops ≡ false) → are_deep (all_made folds ops streams (one ∷ list)).ops ≡ false
    go true is _ =
        let fault : QueryFault = record { kind = OverLimit Stages; span = one.name.span } in cc
    go false is rest = rest is (sym (ap (λ b. cond b (Some (record { kind = OverLimit Stages; span = one.name.span }))
        (made_fault folds (made_by folds streams one.op ops).ops (streams ++ (made_by folds streams one.op ops).wires ∷ []) list)) is) ∙ e)

field_at : (k : ℕ) → k < FIELDS → IsAt [] (Register k) 0
field_at k lt =
    let early : nat_lt k FIELDS ≡ true = grind (arith, nat_tests) in
    record {
      within = omega arith;
      stage = rw early;
    }

-- the registers of fields, which are all there before any operation
abbrev fields_from : ℕ → ℕ → List Operand
fields_from zero k = []
fields_from (suc n) k = Register k ∷ fields_from n (suc k)

fields_at : (n k : ℕ) → k + n ≤ FIELDS → AreAt [] (fields_from n k) (replicate n 0)
fields_at zero k few = tt
fields_at (suc n) k few = (field_at k (omega arith), fields_at n (suc k) (omega arith))

-- the packets' operands
pub packets_at : (j : ℕ) → WiresAt [] (wires_at (packet_wires ∷ []) j) (depths_at (packet_depths ∷ []) j)
packets_at zero = record { present = number_at [] 1; columns = fields_at FIELDS 0 (omega arith) }
packets_at (suc j) = record { present = number_at [] 0; columns = tt }

pub made_none : AreMade []
made_none = record { each = λ i one found. cc }

capped_none : (depths : List ℕ) → list_any (λ s. nat_lt MAX_STAGES s) (capped depths) ≡ false → capped depths ≡ depths
capped_none [] e = refl
capped_none (d ∷ depths) e = go _ refl (capped_none depths)
  where
    go : (b : Bool) → nat_lt MAX_STAGES (min (MAX_STAGES + 1) d) ≡ b → (list_any (λ s. nat_lt MAX_STAGES s) (capped depths) ≡ false
        → capped depths ≡ depths) → capped (d ∷ depths) ≡ d ∷ depths
    go true is _ =
        let f = sym (ap (λ b. b || list_any (λ s. nat_lt MAX_STAGES s) (capped depths)) is) ∙ e in cc
    go false is rest =
        let few : min (MAX_STAGES + 1) d ≤ MAX_STAGES = grind (arith, nat_tests) in
        let same : min (MAX_STAGES + 1) d ≡ d = omega arith in
        cc (rest (sym (ap (λ b. b || list_any (λ s. nat_lt MAX_STAGES s) (capped depths)) is) ∙ e))

-- the operations that are made for a query
pub record QueryMade (q : TypedQuery) (ops : List PlanOp) (streams : List StreamWires) : Type 0 where
  pub made : AreMade ops
  pub within : (j : ℕ) → (d : StreamDepths) × WiresAt ops (wires_at streams j) d
  pub stages_are : stages ops ≡ query_depths q
  pub none : are_deep ops ≡ false

pub query_fault : (q : TypedQuery) → made_fault q.folds [] (packet_wires ∷ []) q.streams ≡ stage_fault q
query_fault q = cc (faults_are q.folds [] (packet_wires ∷ []) (packet_depths ∷ []) q.streams made_none refl packets_at refl, depths_are q)

pub query_made : (q : TypedQuery) (ops : List PlanOp) (streams : List StreamWires)
    → ops ≡ (all_made q.folds [] (packet_wires ∷ []) q.streams).ops → streams ≡ (all_made q.folds [] (packet_wires ∷ []) q.streams).streams
    → made_fault q.folds [] (packet_wires ∷ []) q.streams ≡ None → QueryMade q ops streams
query_made q _ streams e f fits =
    rw e (subst (QueryMade q (all_made q.folds [] (packet_wires ∷ []) q.streams).ops) (sym f)
    (record {
      made = all.added.made;
      within = all.within;
      stages_are = capped_are ∙ capped_none (query_depths q)
          (ap (list_any (λ s. nat_lt MAX_STAGES s)) (sym capped_are)
          ∙ sym (deep_stages (all_made q.folds [] (packet_wires ∷ []) q.streams).ops) ∙
          shallow);
      none = shallow;
    }))
  where
    all : AllMakes q.folds [] (packet_wires ∷ []) (packet_depths ∷ []) q.streams
    all = all_make _ [] _ _ _ made_none refl packets_at

    capped_are : stages (all_made q.folds [] (packet_wires ∷ []) q.streams).ops ≡ capped (query_depths q)
    capped_are = simp (all.added.stages_are, depths_are)

    shallow : are_deep (all_made q.folds [] (packet_wires ∷ []) q.streams).ops ≡ false
    shallow = no_deep _ [] _ q.streams refl fits
