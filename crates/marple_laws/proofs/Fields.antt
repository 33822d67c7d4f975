-- The fields of a set in their order, and which registers the lines of a plan know.
use Rattle.marple_laws.proofs.Words
use Words.{◌≡◌, ℕ, suc, ◌+◌, ◌^◌, ◌<◌, ◌≤◌, Bool, true, false, cond, List, [], ◌∷◌, length, refl, sym, ap, subst, ◌∙◌, inl, inr, arith}
use Words.{Contains, All, codes, cases_lt, All-tail, Field, Switch, Some, FieldSet, number_of, field_name, all_fields, has_field, FIELDS}
use Words.{Operand, Register, Number, PlanOp, IsWithin, and_parts, nat_tests, Made, word_named, nothing, AreFrom, IsKnown, fields_of}
use Words.{reads_line, line}
use Rattle.std.specs.Prelude.{map, filter, nat_le, slice_get, ◌&&◌}
use Rattle.plan_file.specs.declared.line_word.LineWord.TheVariants as lead
use Rattle.marple_laws.proofs.{GroupLines.{IsReadable, AreReadable}, Items.{IsIn, in_at}, Known.{IsGood, AllGood}, OpLines.{Fits, with_ops}}
use Rattle.marple_laws.proofs.{Tokens.{is_token, AreTokens}, Written.{IsWritten, line_written}}

pub in_filter : (test : Field → Bool) (f : Field) (fields : List Field) → test f ≡ true → IsIn f fields → IsIn f (filter test fields)
in_filter test f [] e h = absurd h
in_filter test f (g ∷ fields) e (inl same) =
    let passes : test g ≡ true = ap test (sym same) ∙ e in
    subst (λ b. IsIn f (cond b (g ∷ filter test fields) (filter test fields))) (sym passes) (inl same)
in_filter test f (g ∷ fields) e (inr h) = by _ (in_filter test f fields e h)
  where
    by : (b : Bool) → IsIn f (filter test fields) → IsIn f (cond b (g ∷ filter test fields) (filter test fields))
    by true rest = inr rest
    by false rest = rest

-- the test holds for a field that is left
pub out_of_filter : (test : Field → Bool) (f : Field) (fields : List Field) → IsIn f (filter test fields) → test f ≡ true
out_of_filter test f [] h = absurd h
out_of_filter test f (g ∷ fields) h = by _ refl h (out_of_filter test f fields)
  where
    by : (b : Bool) → test g ≡ b → IsIn f (cond b (g ∷ filter test fields) (filter test fields))
        → (IsIn f (filter test fields) → test f ≡ true) → test f ≡ true
    by true e (inl same) rest = ap test same ∙ e
    by true e (inr k) rest = rest k
    by false e k rest = rest k

pub all_in : (f : Field) → IsIn f all_fields
all_in f = in_at all_fields (number_of f) f (at f)
  where
    at : (f : Field) → slice_get all_fields (number_of f) ≡ Some f
    at Switch = refl
    at _ = refl

number_there : (f : Field) (fields : List Field) → IsIn f fields → Contains (map number_of fields) (number_of f)
number_there f [] h = absurd h
number_there f (g ∷ fields) (inl e) = (0, omega arith, ap number_of (sym e))
number_there f (g ∷ fields) (inr h) = let c = number_there f fields h in (suc c.0, omega (arith, c.1), c.2)

-- the fields of a set are in order

from_less : (fields : List Field) {m n : ℕ} → m ≤ n → AreFrom n fields → AreFrom m fields
from_less [] le h = tt
from_less (f ∷ fields) le h = (omega arith, h.1)

from_filter : (test : Field → Bool) (fields : List Field) (least : ℕ) → AreFrom least fields → AreFrom least (filter test fields)
from_filter test [] least h = tt
from_filter test (f ∷ fields) least h = by _ (from_filter test fields (number_of f + 1) h.1)
  where
    by : (b : Bool) → AreFrom (number_of f + 1) (filter test fields) → AreFrom least (cond b (f ∷ filter test fields) (filter test fields))
    by true rest = (h.0, rest)
    by false rest = from_less _ (omega (arith, h.0)) rest

abbrev are_ordered : ℕ → List Field → Bool
are_ordered least [] = true
are_ordered least (f ∷ fields) = nat_le least (number_of f) && are_ordered (number_of f + 1) fields

ordered : (least : ℕ) (fields : List Field) → are_ordered least fields ≡ true → AreFrom least fields
ordered least [] e = tt
ordered least (f ∷ fields) e =
    let both = and_parts (nat_le least (number_of f)) (are_ordered (number_of f + 1) fields) e in
    let first : nat_le least (number_of f) ≡ true = both.0 in
    (grind (arith, nat_tests), ordered (number_of f + 1) fields both.1)

all_ordered : AreFrom 0 all_fields
all_ordered = ordered 0 all_fields refl

token_field : (f : Field) → is_token (field_name f) ≡ true
token_field Switch = refl
token_field _ = refl

tokens_fields : (fields : List Field) → AreTokens (map field_name fields)
tokens_fields [] = tt
tokens_fields (f ∷ fields) = (token_field f, tokens_fields fields)

-- the first line

plan_lead : word_named (codes "marple-plan") ≡ lead.Plan
unfolding word_named
plan_lead = refl

abbrev pub begun : Made
begun = record nothing { begun = true }

pub first_written : IsWritten (line (codes "marple-plan") (codes "1" ∷ [])) nothing begun
first_written = line_written _ refl (refl, tt) plan_lead (λ cut. record { first = refl; words = cut; made = refl })

-- the line of fields

reads_lead : word_named (codes "reads") ≡ lead.Reads
unfolding word_named
reads_lead = refl

pub reads_written : (reads : FieldSet) → IsWritten (reads_line reads) begun (with_ops (fields_of reads) [])
reads_written reads =
    line_written _ refl
    (tokens_fields (fields_of reads)) reads_lead
    (λ cut. record {
      begun = refl;
      second = refl;
      fields = fields_of reads;
      valid = record { words = cut; order = from_filter (has_field reads) all_fields 0 all_ordered };
      made = refl;
    })

-- an operand that is allowed is known after the operations before it
pub operand_known : (reads : FieldSet) (ops : List PlanOp) (o : Operand) → IsGood reads o → IsWithin (FIELDS + length ops) o
    → IsKnown (fields_of reads) ops o
operand_known reads ops (Number n) good inside = tt
operand_known reads ops (Register r) good inside = elim (cases_lt r _) [
  | inl early ↦ (let g = good early in inl (subst (Contains (map number_of (fields_of reads))) g.1
      (number_there g.0 (fields_of reads) (in_filter (has_field reads) g.0 all_fields g.2 (all_in g.0)))))
  | inr late ↦ inr (late, inside)
]

pub operand_fits : (reads : FieldSet) {n : ℕ} (o : Operand) → IsGood reads o → IsWithin n o → n < 2 ^ 64 → Fits o
operand_fits reads (Number m) good inside small = good
operand_fits reads (Register r) good inside small = omega arith

pub operand_readable : (reads : FieldSet) {ops : List PlanOp} {o : Operand} → IsGood reads o → IsWithin (FIELDS + length ops) o
    → length ops ≤ 32768 → IsReadable (fields_of reads) ops o
operand_readable reads {o} good inside few = record {
  known = operand_known _ _ o good inside;
  fits = operand_fits _ o good inside (omega arith);
}

pub operands_readable : (reads : FieldSet) (ops : List PlanOp) (operands : List Operand) → AllGood reads operands
    → All (IsWithin (FIELDS + length ops)) operands → length ops ≤ 32768 → AreReadable (fields_of reads) ops operands
operands_readable reads ops [] good inside few = tt
operands_readable reads ops (o ∷ operands) good inside few = (
  operand_readable reads good.0 (inside 0 o (omega arith)) few,
  operands_readable reads ops operands good.1 (All-tail (IsWithin (FIELDS + length ops)) o operands inside) few,
)
