-- The stage of an operand is its depth, and each operation reads what is before it.
use Rattle.std.proofs.Common.{◌≡◌, ℕ, zero, suc, ◌+◌, ◌<◌, max, min, true, List, [], ◌∷◌, ◌++◌, length, Some, refl, sym, ap, subst}
use Rattle.std.proofs.{Common.{◌∙◌, inl, inr, arith, append_assoc, append-nil}, lemmas.Bool.Decides.nat_tests}
use Rattle.std.proofs.lemmas.{List.{length_push, map-append}, Option.slice_get_within}
use Rattle.std.specs.Prelude.{map, replicate, nat_lt, slice_get, slice_index}
use Rattle.marple_base.specs.declared.field.TheConstants.{FIELDS}
use Rattle.query_lang.specs.{Streams.values_at, declared.fault.TheConstants.MAX_STAGES}
use Rattle.stage_plan.specs.declared.op.Operand.{Operand, TheVariants.{Register, Number}}
use Rattle.stage_plan.specs.declared.op.Operation as operation
use Rattle.stage_plan.specs.{declared.op.PlanOp.PlanOp, Registers.operand_stage, Making.{stage_after, op_on, operand_at}, Sound.IsWithin}
use Rattle.stage_plan.proofs.{Lists.{push_cases, slice_get-last}, Runs.{register_cases, result_stage, stage_of_register, within_more}}
use Rattle.stage_plan.proofs.Extending.{Extends, same_ops, and_more, one_more}

-- an operand that is there keeps its stage while operations are added
pub same_stage : (ops more : List PlanOp) (o : Operand) → Extends ops more → IsWithin (FIELDS + length ops) o
    → operand_stage more o ≡ operand_stage ops o
same_stage ops more (Number n) e w = refl
same_stage ops more (Register r) e w =
    elim (register_cases ops r w) [
      | inl field ↦
          let early : nat_lt r FIELDS ≡ true = grind (arith, nat_tests) in
          simp early
      | inr of ↦ cc (stage_of_register more of.number of.one (e.keeps of.number of.one of.found), result_stage of)
    ]

-- an operand that is there, whose stage is this depth, and one more than the most for all above
pub record IsAt (ops : List PlanOp) (o : Operand) (depth : ℕ) : Type 0 where
  pub within : IsWithin (FIELDS + length ops) o
  pub stage : operand_stage ops o ≡ min (MAX_STAGES + 1) depth

pub is_more : (ops more : List PlanOp) (o : Operand) (depth : ℕ) → Extends ops more → IsAt ops o depth → IsAt more o depth
is_more ops more o _ e h = record {
  within = (within_more _ _ o (omega arith) h.within);
  stage = cc (same_stage ops more o e h.within);
}

pub number_at : (ops : List PlanOp) (n : ℕ) → IsAt ops (Number n) 0
number_at _ n = record { within = tt; stage = refl }

abbrev pub AreAt : List PlanOp → List Operand → List ℕ → Type 0
AreAt _ [] [] = Unit {0}
AreAt ops (o ∷ columns) (d ∷ depths) = IsAt ops o d × AreAt ops columns depths
AreAt _ _ _ = ⊥

pub are_more : (ops more : List PlanOp) (columns : List Operand) (depths : List ℕ) → Extends ops more → AreAt ops columns depths
    → AreAt more columns depths
are_more _ _ [] [] e h = tt
are_more ops more (o ∷ columns) (d ∷ depths) e h = (is_more _ _ o d e h.0, are_more ops more columns depths e h.1)
are_more _ _ [] (d ∷ _) e h = absurd h
are_more _ _ (o ∷ _) [] e h = absurd h

pub column_is : (ops : List PlanOp) (columns : List Operand) (depths : List ℕ) (slot : ℕ) → AreAt ops columns depths
    → IsAt ops (operand_at columns slot) (slice_index depths slot)
column_is ops [] [] _ h = number_at _ 0
column_is _ (o ∷ _) (d ∷ _) zero h = h.0
column_is ops (o ∷ columns) (d ∷ depths) (suc slot) h = column_is ops columns depths slot h.1
column_is _ [] (d ∷ _) _ h = absurd h
column_is _ (o ∷ _) [] _ h = absurd h

pub are_picked : (ops : List PlanOp) (columns : List Operand) (depths : List ℕ) (slots : List ℕ) → AreAt ops columns depths
    → AreAt ops (map (operand_at columns) slots) (values_at depths slots)
are_picked _ _ _ [] h = tt
are_picked ops columns depths (slot ∷ slots) h = (column_is _ _ _ _ h, are_picked ops columns depths slots h)

pub are_append : (ops : List PlanOp) (xs ys : List Operand) (ds es : List ℕ) → AreAt ops xs ds → AreAt ops ys es
    → AreAt ops (xs ++ ys) (ds ++ es)
are_append _ [] ys [] es h k = k
are_append ops (x ∷ xs) ys (d ∷ ds) es h k = (h.0, are_append ops xs ys ds es h.1 k)
are_append _ [] ys (d ∷ ds) es h k = absurd h
are_append _ (x ∷ xs) ys [] es h k = absurd h

pub are_numbers : (ops : List PlanOp) (initial : List ℕ) → AreAt ops (map Number initial) (replicate (length initial) 0)
are_numbers _ [] = tt
are_numbers ops (n ∷ initial) = (number_at _ n, are_numbers ops initial)

-- operation number i reads what is before it
pub record IsMade (ops : List PlanOp) (i : ℕ) (one : PlanOp) : Type 0 where
  pub left : IsWithin (FIELDS + i) one.left
  pub right : IsWithin (FIELDS + i) one.right
  pub stage : one.stage ≡ stage_after (operand_stage ops one.left) (operand_stage ops one.right)

pub record AreMade (ops : List PlanOp) : Type 0 where
  pub each : (i : ℕ) (one : PlanOp) → slice_get ops i ≡ Some one → IsMade ops i one

made_more : (ops : List PlanOp) (op : operation.Operation) (left right : Operand) → AreMade ops → IsWithin (FIELDS + length ops) left
    → IsWithin (FIELDS + length ops) right → AreMade (ops ++ op_on ops op left right ∷ [])
made_more ops op left right made l r = record {
  each = λ i one found. elim (push_cases ops new i one found) [
    | inl old ↦
        let h = made.each i one old in
        let lt : i < length ops = slice_get_within ops i one old in
        record {
          left = h.left;
          right = h.right;
          stage = h.stage ∙ ap (λ s. stage_after s (operand_stage ops one.right)) (sym
              (same_stage ops (ops ++ new ∷ []) one.left (one_more ops new)
              (within_more (FIELDS + i) (FIELDS + length ops) one.left (omega arith) h.left)))
              ∙ ap (λ s. stage_after (operand_stage (ops ++ new ∷ []) one.left) s)
              (sym (same_stage ops (ops ++ new ∷ []) one.right (one_more ops new)
              (within_more (FIELDS + i) (FIELDS + length ops) one.right (omega arith) h.right)));
        }
    | inr last ↦ subst (IsMade (ops ++ new ∷ []) i) last.1 (subst (λ k. IsMade (ops ++ new ∷ []) k new) (sym last.0) (record {
      left = l;
      right = r;
      stage = ap (λ s. stage_after s (operand_stage ops right)) (sym (same_stage _ _ _ (one_more _ _) l))
          ∙ ap (λ s. stage_after (operand_stage (ops ++ new ∷ []) left) s) (sym (same_stage _ _ _ (one_more _ _) r));
    }))
  ];
}
  where
    new : PlanOp
    new = op_on ops op left right

abbrev pub capped : List ℕ → List ℕ
capped depths = map (λ depth. min (MAX_STAGES + 1) depth) depths

abbrev pub stages : List PlanOp → List ℕ
stages ops = map (λ one. one.stage) ops

-- what operations were added, where their depths are these and an operand has this depth
pub record Added (ops more : List PlanOp) (depths : List ℕ) : Type 0 where
  pub extends : Extends ops more
  pub made : AreMade more
  pub stages_are : stages more ≡ stages ops ++ capped depths

pub added_none : (ops : List PlanOp) → AreMade ops → Added ops ops []
added_none ops made = record { extends = same_ops _; made = made; stages_are = simp append-nil }

pub added_then : (a b c : List PlanOp) (ds es : List ℕ) → Added a b ds → Added b c es → Added a c (ds ++ es)
added_then a b c ds es p q = record {
  extends = and_more a b c p.extends q.extends;
  made = q.made;
  stages_are = simp (q.stages_are, p.stages_are, append_assoc, map-append);
}

pub added_one : (ops : List PlanOp) (op : operation.Operation) (left right : Operand) (d e : ℕ) → AreMade ops → IsAt ops left d
    → IsAt ops right e → Added ops (ops ++ op_on ops op left right ∷ []) ((1 + max d e) ∷ [])
added_one ops op left right d e made l r =
    let stage : stage_after (operand_stage ops left) (operand_stage ops right) ≡ min (MAX_STAGES + 1) (1 + max d e) = (omega arith) in
    record {
      extends = one_more _ _;
      made = made_more _ op _ _ made l.within r.within;
      stages_are = simp (map-append, stage);
    }

pub last_at : (ops : List PlanOp) (op : operation.Operation) (left right : Operand) (d e : ℕ) → IsAt ops left d → IsAt ops right e →
    IsAt (ops ++ op_on ops op left right ∷ []) (Register (FIELDS + length ops)) (1 + max d e)
last_at ops op left right d e l r = record {
  within = (let n = length_push ops (op_on ops op left right) in omega arith);
  stage = stage_of_register (ops ++ op_on ops op left right ∷ []) (length ops) (op_on ops op left right)
      (slice_get-last ops (op_on ops op left right)) ∙ (let a = l.stage in let b = r.stage in omega arith);
}
