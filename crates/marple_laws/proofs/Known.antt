-- What holds of the operations of expressions: they read fields that the query names, numbers that fit a word, and constants where
-- they have to.
use Rattle.marple_laws.proofs.Words
use Words.{FIELDS, Field, FieldSet, FieldSource, HasField, IsConstant, IsValidTerm, List, Literal, Negation, None, Not, Number, Op, Operand}
use Words.{Operation, PlanOp, Read, Register, Some, TakesOperands, Term, Two, [], arith, inl, is_right_of, number_of, refl, source_at}
use Words.{subst, suc, sym, takes_right, term_slots, true, zero, ℕ, ◌++◌, ◌<◌, ◌^◌, ◌∷◌, ◌≡◌}
use Rattle.marple_laws.proofs.Items.{IsIn, in_left, in_right}
use Rattle.std.specs.Prelude.{map, slice_get}
use Rattle.query_lang.specs.declared.fold.Op.TheVariants as two
use Rattle.stage_plan.specs.declared.op.Operation as operation
use Rattle.stage_plan.specs.Making.{Compiled, compiled, operand_at, with_op}

-- an operand that is allowed: a field that is read, another register, or a number that fits a word
abbrev pub IsGood : FieldSet → Operand → Type 0
IsGood reads (Register r) = r < FIELDS → (f : Field) × (number_of f ≡ r) × HasField reads f
IsGood reads (Number n) = n < 2 ^ 64

-- `not` has the number 0 as its second operand
abbrev pub IsSingle : operation.Operation → Operand → Type 0
IsSingle Not right = right ≡ Number 0
IsSingle (Two f) right = Unit {0}

pub record IsWritable (reads : FieldSet) (one : PlanOp) : Type 0 where
  pub left : IsGood reads one.left
  pub right : IsGood reads one.right
  pub constant : is_right_of one.op one.right ≡ true
  pub single : IsSingle one.op one.right

abbrev pub AreWritable : FieldSet → List PlanOp → Type 0
AreWritable reads [] = Unit {0}
AreWritable reads (one ∷ ops) = IsWritable reads one × AreWritable reads ops

writable_push : {reads : FieldSet} (ops : List PlanOp) {one : PlanOp} → AreWritable reads ops → IsWritable reads one
    → AreWritable reads (ops ++ one ∷ [])
writable_push [] a b = (b, tt)
writable_push (x ∷ ops) a b = (a.0, writable_push ops a.1 b)

pub writable_at : {reads : FieldSet} (ops : List PlanOp) (i : ℕ) {one : PlanOp} → AreWritable reads ops → slice_get ops i ≡ Some one
    → IsWritable reads one
writable_at [] i a e = cc
writable_at {reads} (x ∷ ops) zero {one} a e = let same : x ≡ one = cc in subst (IsWritable reads) same a.0
writable_at (x ∷ ops) (suc i) a e = writable_at ops i a.1 e

-- a column and where it comes from
abbrev pub IsFrom : FieldSet → FieldSource → Operand → Type 0
IsFrom reads (Some f) o = o ≡ Register (number_of f)
IsFrom reads None o = IsGood reads o

abbrev pub AreFrom : FieldSet → List FieldSource → List Operand → Type 0
AreFrom reads [] [] = Unit {0}
AreFrom reads (s ∷ sources) (o ∷ columns) = IsFrom reads s o × AreFrom reads sources columns
AreFrom reads _ _ = ⊥

-- the fields in these slots are read
abbrev pub AreRead : FieldSet → List FieldSource → List ℕ → Type 0
AreRead reads sources [] = Unit {0}
AreRead reads sources (slot ∷ slots) = ((f : Field) → source_at sources slot ≡ Some f → HasField reads f) × AreRead reads sources slots

pub read_left : (reads : FieldSet) (sources : List FieldSource) (xs ys : List ℕ) → AreRead reads sources (xs ++ ys)
    → AreRead reads sources xs
read_left reads sources [] ys h = tt
read_left reads sources (x ∷ xs) ys h = (h.0, read_left reads sources xs ys h.1)

pub read_right : (reads : FieldSet) (sources : List FieldSource) (xs ys : List ℕ) → AreRead reads sources (xs ++ ys)
    → AreRead reads sources ys
read_right reads sources [] ys h = h
read_right reads sources (x ∷ xs) ys h = read_right reads sources xs ys h.1

pub below_two : (n : ℕ) → n ≡ 0 → n < 2 ^ 64
below_two n e = omega arith

pub from_at : (reads : FieldSet) (sources : List FieldSource) (columns : List Operand) (slot : ℕ) → AreFrom reads sources columns
    → IsFrom reads (source_at sources slot) (operand_at columns slot)
from_at reads [] [] slot h = below_two 0 refl
from_at reads (s ∷ sources) (o ∷ columns) zero h = h.0
from_at reads (s ∷ sources) (o ∷ columns) (suc slot) h = from_at reads sources columns slot h.1
from_at reads _ _ _ h = absurd h

-- a column whose field is read
good_from : (reads : FieldSet) (s : FieldSource) (o : Operand) → IsFrom reads s o → ((f : Field) → s ≡ Some f → HasField reads f)
    → IsGood reads o
good_from reads None o h named = h
good_from reads (Some f) o h named = subst (IsGood reads) (sym h) (λ _. (f, refl, named f refl))

pub column_good : (reads : FieldSet) (sources : List FieldSource) (columns : List Operand) (slot : ℕ) → AreFrom reads sources columns
    → ((f : Field) → source_at sources slot ≡ Some f → HasField reads f) → IsGood reads (operand_at columns slot)
column_good reads sources columns slot h named = good_from _ _ _ (from_at _ _ _ _ h) named

abbrev pub AllGood : FieldSet → List Operand → Type 0
AllGood reads [] = Unit {0}
AllGood reads (o ∷ columns) = IsGood reads o × AllGood reads columns

pub columns_good : (reads : FieldSet) (sources : List FieldSource) (columns : List Operand) (slots : List ℕ) → AreFrom reads sources columns
    → AreRead reads sources slots → AllGood reads (map (operand_at columns) slots)
columns_good reads sources columns [] h named = tt
columns_good reads sources columns (slot ∷ slots) h named = (
  column_good reads sources columns slot h named.0,
  columns_good reads sources columns slots h named.1,
)

pub good_append : (reads : FieldSet) (xs ys : List Operand) → AllGood reads xs → AllGood reads ys → AllGood reads (xs ++ ys)
good_append reads [] ys a b = b
good_append reads (x ∷ xs) ys a b = (a.0, good_append reads xs ys a.1 b)

pub good_at : (reads : FieldSet) (columns : List Operand) (slot : ℕ) → AllGood reads columns → IsGood reads (operand_at columns slot)
good_at reads [] slot h = below_two 0 refl
good_at reads (o ∷ columns) zero h = h.0
good_at reads (o ∷ columns) (suc slot) h = good_at reads columns slot h.1

-- the operations so far, and an operand
pub record AreCompiled (reads : FieldSet) (c : Compiled) : Type 0 where
  pub written : AreWritable reads c.ops
  pub value : IsGood reads c.value

pub with_one : {reads : FieldSet} (op : operation.Operation) (ops : List PlanOp) (left right : Operand) → AreWritable reads ops
    → IsGood reads left → IsGood reads right → is_right_of op right ≡ true → IsSingle op right
    → AreCompiled reads (with_op op ops left right)
with_one op ops left right w l r c s = record {
  written = writable_push _ w (record { left = l; right = r; constant = c; single = s });
  value = λ early. absurd (omega arith);
}

-- an operator that takes what isn't a constant
others : (op : Op) (a b : Term) (value : Operand) → TakesOperands op a b → (IsConstant (λ n. 0 < n) b → ⊥)
    → (IsConstant (λ n. n < 64) b → ⊥) → takes_right op value ≡ true
others two.Div a b value t p q = absurd (p t.1)
others two.Rem a b value t p q = absurd (p t.1)
others two.Shl a b value t p q = absurd (q t.1)
others two.Shr a b value t p q = absurd (q t.1)
others two.Decay a b value t p q = absurd (q t.1)
others _ a b value t p q = refl

-- the right operand of an operator is compiled to a number where it has to be one
right_is : (op : Op) (columns : List Operand) (a b : Term) (ops : List PlanOp) → TakesOperands op a b
    → takes_right op (compiled columns b ops).value ≡ true
right_is op columns a (Literal n) ops t = by _ t
  where
    by : (op : Op) → TakesOperands op a (Literal n) → takes_right op (Number n) ≡ true
    by two.Div t = let h = t.1 in grind arith
    by two.Rem t = let h = t.1 in grind arith
    by two.Shl t = let h = t.1 in grind arith
    by two.Shr t = let h = t.1 in grind arith
    by two.Decay t = let h = t.1 in grind arith
    by _ t = refl
right_is op columns a (Read s) ops t = others _ a _ _ t (λ h. h) (λ h. h)
right_is op columns a b ops t = others _ a b _ t (λ h. h) (λ h. h)

-- an expression over columns whose slots are good
pub compiled_good : {reads : FieldSet} (columns : List Operand) (slots : ℕ) (e : Term) (ops : List PlanOp)
    → ((s : ℕ) → IsIn s (term_slots e) → IsGood reads (operand_at columns s)) → IsValidTerm slots e → AreWritable reads ops
    → AreCompiled reads (compiled columns e ops)
compiled_good columns slots (Literal n) ops good v w = record { written = w; value = v }
compiled_good columns slots (Read s) ops good v w = record { written = w; value = good s (inl refl) }
compiled_good columns slots (Negation e) ops good v w =
    let c = compiled_good columns slots e ops good v.0 w in
    with_one Not (compiled columns e ops).ops (compiled columns e ops).value (Number 0) c.written c.value (below_two 0 refl) refl refl
compiled_good columns slots (Operation op a b) ops good v w =
    let c = compiled_good columns slots a ops (λ s h. good s (in_left s (term_slots a) (term_slots b) h)) v.0 w in
    let d = compiled_good columns slots b (compiled columns a ops).ops (λ s h. good s (in_right s (term_slots a) (term_slots b) h))
    v.1 c.written in
    with_one (Two op) (compiled columns b (compiled columns a ops).ops).ops (compiled columns a ops).value
    (compiled columns b (compiled columns a ops).ops).value d.written c.value d.value
    (right_is op columns a b (compiled columns a ops).ops v.2) tt
