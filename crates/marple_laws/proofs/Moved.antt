-- It still holds where the operations are put into the order of their stages.
use Rattle.marple_laws.proofs.Words
use Words.{◌≡◌, ℕ, zero, suc, ◌-◌, ◌≤◌, Bool, true, false, List, [], ◌∷◌, Some, None, Option, refl, ap, sym, ◌∙◌, arith, if◌then◌else◌}
use Words.{TypedQuery, op_numbered, query_made, stages_of, op_at, ordered, query_ops, query_order, FieldSet, FIELDS, Op, Operation, Operand}
use Words.{Register, Number, Not, Two, PlanOp, moved, moved_op, query_registers, register_or_none, is_right_of, takes_right}
use Rattle.std.specs.Prelude.{map, nat_lt, slice_get}
use Rattle.query_lang.specs.declared.fold.Op.TheVariants as two
use Rattle.stage_plan.specs.declared.op.Operation as operation
use Rattle.marple_laws.proofs.{Items.mapped_at, Known.{IsGood, IsSingle, IsWritable, below_two}}

-- what is moved with the registers of operations

abbrev pub AreAfterFields : List ℕ → Type 0
AreAfterFields registers = (k r : ℕ) → slice_get registers k ≡ Some r → FIELDS ≤ r

pub moved_good : (reads : FieldSet) (registers : List ℕ) (o : Operand) → AreAfterFields registers → IsGood reads o
    → IsGood reads (moved registers o)
moved_good reads registers (Number n) beyond g = g
moved_good reads registers (Register r) beyond g = by _ refl
  where
    new : (o : Option ℕ) → slice_get registers (r - FIELDS) ≡ o → IsGood reads (register_or_none o)
    new None e = below_two 0 refl
    new (Some x) e = λ early. absurd (omega (arith, early, beyond _ x e))

    by : (b : Bool) → nat_lt r FIELDS ≡ b → IsGood reads (if b then Register r else register_or_none (slice_get registers (r - FIELDS)))
    by true e = g
    by false e = new _ refl

moved_right : (registers : List ℕ) (op : operation.Operation) (right : Operand) → is_right_of op right ≡ true
    → is_right_of op (moved registers right) ≡ true
moved_right registers op (Number n) e = e
moved_right registers Not (Register r) e = refl
moved_right registers (Two f) (Register r) e = by f e
  where
    by : (f : Op) → takes_right f (Register r) ≡ true → takes_right f (moved registers (Register r)) ≡ true
    by two.Div e = cc
    by two.Rem e = cc
    by two.Shl e = cc
    by two.Shr e = cc
    by two.Decay e = cc
    by _ e = refl

moved_single : (registers : List ℕ) (op : operation.Operation) (right : Operand) → IsSingle op right → IsSingle op (moved registers right)
moved_single registers Not right e = ap (moved _) e
moved_single registers (Two f) right e = tt

pub moved_writable : {reads : FieldSet} (registers : List ℕ) (one : PlanOp) → AreAfterFields registers → IsWritable reads one
    → IsWritable reads (moved_op registers one)
moved_writable {reads} registers one beyond w = record {
  left = moved_good reads registers one.left beyond w.left;
  right = moved_good reads registers one.right beyond w.right;
  constant = moved_right registers one.op one.right w.constant;
  single = moved_single registers one.op one.right w.single;
}

-- an operation of the plan was made for the query, and moved
pub op_from : (q : TypedQuery) (i : ℕ) (one : PlanOp) → slice_get (query_ops q) i ≡ Some one
    → (c : ℕ) × (made : PlanOp) × (slice_get (query_made q).ops c ≡ Some made) × (moved_op (query_registers q) made ≡ one)
op_from q i one e =
    let c = mapped_at (λ number. moved_op (query_registers q) (op_numbered (query_made q).ops number)) (query_order q) i one e in
    let o = ordered (query_made q).ops (stages_of (query_made q).ops) i c.0 c.1 in
    (c.0, o.one, o.found, ap (moved_op (query_registers q)) (sym (op_at (query_made q).ops c.0 _ o.found)) ∙ c.2)
