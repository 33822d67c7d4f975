-- What holds of all operations of a query, stream by stream.
use Rattle.marple_laws.proofs.Words
use Words.{◌≡◌, ℕ, zero, suc, ◌+◌, ◌^◌, ◌<◌, ◌≤◌, List, [], ◌∷◌, ◌++◌, length, Some, None, Option, refl, sym, ap, subst, ◌∙◌, inl, inr}
use Words.{arith, append-nil, append_assoc, IfSome, All, flat_map, filter_map, fold, cons_option, cases_lt, cases_eq, length_push, All-tail}
use Words.{Field, FieldSet, HasField, field_set, TypedExpr, TypedFold, TypedOp, TypedStream, Term, term_of, IsValidTerm, IsValidFold}
use Words.{IsValidEmit, AreValidStreams, IsValidOp, IsValidWord, Operand, Number, PlanOp, FieldSource, source_at, sources_at}
use Words.{packet_sources, sources_made, term_slots, named_fields, named_slots, named_input, AllWords}
use Rattle.marple_laws.proofs.{Items.{IsIn, in_left, in_right}, Listed.in_set, Known.{IsGood, AreWritable, AreFrom, AreRead, read_left}}
use Rattle.marple_laws.proofs.Known.{read_right, below_two, from_at, column_good, AllGood, columns_good, good_append, good_at, with_one}
use Rattle.marple_laws.proofs.Known.{compiled_good}
use Rattle.std.specs.Prelude.{map, slice_get}
use Rattle.query_lang.specs.declared.typed.TypedOp.TheVariants.{Filter, Map, Zip, Group}
use Rattle.stage_plan.specs.Making.{Made, AllMade, compiled, compiled_all, operand_at, wires_at, packet_wires, made_join, conditioned}
use Rattle.stage_plan.{specs.Making.{made_emit, made_group, made_by, all_made}, proofs.StreamRows.{at_earlier, at_last, at_past}}

-- the type of a value
abbrev type_of : {A : Type 0} → A → Type 0
type_of {A = A} x = A

-- the places of a stream's columns while operations are made
abbrev pub Wires : Type 0
Wires = type_of packet_wires

-- a stream, where its columns come from these fields or were made
pub record IsStream (reads : FieldSet) (sources : List FieldSource) (wires : Wires) : Type 0 where
  pub present : IsGood reads wires.present
  pub columns : AreFrom reads sources wires.columns

record IsMadeGood (reads : FieldSet) (sources : List FieldSource) (m : Made) : Type 0 where
  written : AreWritable reads m.ops
  stream : IsStream reads sources m.wires

joined_good : {reads : FieldSet} {sources : List FieldSource} (ops : List PlanOp) (present condition : Operand) {columns : List Operand}
    → AreWritable reads ops → IsGood reads present → IsGood reads condition → AreFrom reads sources columns
    → IsMadeGood reads sources (made_join ops present condition columns)
joined_good ops present condition {columns} w p c from =
    let one = with_one _ _ _ _ w p c refl tt in
    record { written = one.written; stream = record { present = one.value; columns = from } }

slot_good : (reads : FieldSet) (sources : List FieldSource) (columns : List Operand) (slots : List ℕ) → AreFrom reads sources columns
    → AreRead reads sources slots → (s : ℕ) → IsIn s slots → IsGood reads (operand_at columns s)
slot_good reads sources columns (slot ∷ slots) from named s (inl e) = subst (λ n. IsGood reads (operand_at columns n)) (sym e)
    (column_good reads sources columns slot from named.0)
slot_good reads sources columns (slot ∷ slots) from named s (inr h) = slot_good reads sources columns slots from named.1 s h
slot_good reads sources columns [] from named s h = absurd h

conditioned_good : {reads : FieldSet} {sources : List FieldSource} (over : List Operand) (slots : ℕ) (e : Term) (ops : List PlanOp)
    (present : Operand) {columns : List Operand} → ((s : ℕ) → IsIn s (term_slots e) → IsGood reads (operand_at over s))
    → IsValidTerm slots e → AreWritable reads ops → IsGood reads present → AreFrom reads sources columns
    → IsMadeGood reads sources (conditioned over e ops present columns)
conditioned_good over slots e ops present good v w p from =
    let c = compiled_good _ _ e _ good v w in
    joined_good _ _ _ c.written p c.value from

from_append : (reads : FieldSet) (ss ts : List FieldSource) (os ps : List Operand) → AreFrom reads ss os → AreFrom reads ts ps
    → AreFrom reads (ss ++ ts) (os ++ ps)
from_append reads [] ts [] ps a b = b
from_append reads (s ∷ ss) ts (o ∷ os) ps a b = (a.0, from_append reads ss ts os ps a.1 b)
from_append reads _ ts _ ps a b = absurd a

from_picked : (reads : FieldSet) (sources : List FieldSource) (columns : List Operand) (slots : List ℕ) → AreFrom reads sources columns
    → AreFrom reads (map (source_at sources) slots) (map (operand_at columns) slots)
from_picked reads sources columns [] h = tt
from_picked reads sources columns (slot ∷ slots) h = (from_at reads sources columns slot h, from_picked reads sources columns slots h)

record AreMapped (reads : FieldSet) (sources : List FieldSource) (ops : List PlanOp) (values : List Operand) : Type 0 where
  written : AreWritable reads ops
  are : AreFrom reads sources values

mapped_good : {reads : FieldSet} (sources : List FieldSource) (columns : List Operand) (slots : ℕ) (values : List TypedExpr)
    (ss : List FieldSource) (found : List Operand) (ops : List PlanOp) → AreFrom reads sources columns → AreFrom reads ss found
    → All (IsValidWord slots) values → AreRead reads sources (flat_map (λ e. term_slots (term_of e)) values) → AreWritable reads ops
    → AreMapped reads (ss ++ map (λ _. None) values) (compiled_all columns found (map term_of values) ops).ops
    (compiled_all columns found (map term_of values) ops).values
mapped_good {reads} sources columns slots [] ss found ops from made v named w =
    record { written = w; are = subst (λ l. AreFrom reads l found) (sym (append-nil ss)) made }
mapped_good {reads} sources columns slots (e ∷ values) ss found ops from made v named w =
    let one = compiled_good columns slots (term_of e) ops
    (slot_good reads sources columns (term_slots (term_of e)) from (read_left reads sources (term_slots (term_of e))
    (flat_map (λ e. term_slots (term_of e)) values) named))
    (v 0 e (omega arith)).0.0 w in
    let value : Operand = (compiled columns (term_of e) ops).value in
    let rest = mapped_good sources columns slots values (ss ++ None ∷ []) (found ++ value ∷ []) (compiled columns (term_of e) ops).ops
    from
    (from_append reads ss (None ∷ []) found (value ∷ []) made (one.value, tt)) (All-tail (IsValidWord slots) e values v)
    (read_right reads sources (term_slots (term_of e)) (flat_map (λ e. term_slots (term_of e)) values) named) one.written in
    record {
      written = rest.written;
      are = subst (λ l. AreFrom reads l (compiled_all columns found (map term_of (e ∷ values)) ops).values)
          (append_assoc ss (None ∷ []) (map (λ _. None) values)) rest.are;
    }

numbers_good : (reads : FieldSet) (numbers : List ℕ) → AllWords numbers → AllGood reads (map Number numbers)
numbers_good reads [] h = tt
numbers_good reads (n ∷ numbers) h = (h.0, numbers_good reads numbers h.1)

emitted_good : {reads : FieldSet} {sources : List FieldSource} (o : Option TypedExpr) (states args : ℕ) (over : List Operand)
    (input : Wires) (keys : List Operand) (ops : List PlanOp) → IfSome o (λ e. IsValidEmit states args (term_of e)) → AllGood reads over
    → IsGood reads input.present → AreFrom reads sources keys → AreWritable reads ops
    → IsMadeGood reads sources (made_emit o over input keys ops)
emitted_good None states args over input keys ops v good p from w =
    record { written = w; stream = record { present = below_two 0 refl; columns = from } }
emitted_good (Some e) states args over input keys ops v good p from w =
    conditioned_good _ _ _ _ _ (λ s h. good_at _ _ s good) v.slots w p
    from

-- a fold within the limits, whose initial numbers fit words
abbrev pub AreFit : List TypedFold → Type 0
AreFit folds = (i : ℕ) (f : TypedFold) → slice_get folds i ≡ Some f → IsValidFold f × AllWords f.initial

grouped_good : {reads : FieldSet} {sources : List FieldSource} (o : Option TypedFold) {input : Wires} (keys args : List ℕ)
    (ops : List PlanOp) → ((f : TypedFold) → o ≡ Some f → IsValidFold f × AllWords f.initial) → IsStream reads sources input
    → AreRead reads sources (keys ++ args) → AreWritable reads ops → IsMadeGood reads (map (source_at sources) keys)
    (made_group o input keys args ops)
grouped_good None keys args ops fit s named w =
    record { written = w; stream = record { present = below_two 0 refl; columns = from_picked _ _ _ _ s.columns } }
grouped_good (Some f) keys args ops fit s named w =
    let v = fit f refl in
    emitted_good _ _ _ _ _
    _ _ v.0.emits
    (good_append _ _ _ (numbers_good _ _ v.1)
    (columns_good _ _ _ _ s.columns (read_right _ _ _ _ named)))
    s.present (from_picked _ _ _ _ s.columns) w

abbrev pub AreStreams : FieldSet → List (List FieldSource) → List Wires → Type 0
AreStreams reads sources streams = (j : ℕ) → IsStream reads (sources_at sources j) (wires_at streams j)

made_good : {reads : FieldSet} (folds : List TypedFold) (before : List TypedStream) (width : ℕ) (sources : List (List FieldSource))
    (streams : List Wires) (op : TypedOp) (ops : List PlanOp) → AreFit folds → IsValidOp folds before width op
    → AreStreams reads sources streams → AreRead reads (sources_at sources (named_input op)) (named_slots op) → AreWritable reads ops
    → IsMadeGood reads (sources_made sources op) (made_by folds streams op ops)
made_good folds before width sources streams (Filter input condition) ops fit v all named w =
    let s = all _ in
    conditioned_good _ _ _ _
    _
    (slot_good _ _ _ _ s.columns named) v.1.0.0 w
    s.present s.columns
made_good folds before width sources streams (Map input values) ops fit v all named w =
    let s = all _ in
    let m = mapped_good _ _ _ _
    _ _ _ s.columns s.columns v.1.0 named w in
    record { written = m.written; stream = record { present = s.present; columns = m.are } }
made_good folds before width sources streams (Zip left right slots) ops fit v all named w =
    joined_good _ _ _ w (all left).present (all right).present
    (from_append _ _ _ _
    _
    (all left).columns (from_picked _ _ _ _ (all right).columns))
made_good folds before width sources streams (Group input keys f args) ops fit v all named w =
    grouped_good _ _ _ _ (λ one e. fit f one e)
    (all input) named w

input_before : (folds : List TypedFold) (before : List TypedStream) (width : ℕ) (op : TypedOp) → IsValidOp folds before width op
    → named_input op ≤ length before
input_before folds before width (Filter input condition) v = v.0
input_before folds before width _ v = v.0

-- one more stream
more_streams : {reads : FieldSet} (sources : List (List FieldSource)) (streams : List Wires) {made : List FieldSource} {wires : Wires}
    → length streams ≡ length sources → AreStreams reads sources streams → IsStream reads made wires
    → AreStreams reads (sources ++ made ∷ []) (streams ++ wires ∷ [])
more_streams {reads} sources streams {made} {wires} long all new j = elim (cases_lt j (length streams)) [
  | inl lt ↦ place (wires_at streams j) (sources_at sources j) (at_earlier streams wires no_wires j lt)
      (at_earlier sources made [] j (omega (arith, lt, long))) (all j)
  | inr le ↦ elim (cases_eq j (length streams)) [
    | inl here ↦ place wires made (at_last streams wires no_wires j here) (at_last sources made [] j (here ∙ long)) new
    | inr past ↦
        place no_wires [] (at_past (streams ++ wires ∷ []) no_wires j (let l = length_push streams wires in omega arith))
        (at_past (sources ++ made ∷ []) [] j (let l = length_push sources made in omega arith))
        (record { present = below_two 0 refl; columns = tt })
  ]
]
  where
    no_wires : Wires
    no_wires = wires_at [] 0

    place : (w : Wires) (s : List FieldSource) → wires_at (streams ++ wires ∷ []) j ≡ w → sources_at (sources ++ made ∷ []) j ≡ s
        → IsStream reads s w → IsStream reads (sources_at (sources ++ made ∷ []) j) (wires_at (streams ++ wires ∷ []) j)
    place w s p q h = subst (IsStream reads (sources_at (sources ++ made ∷ []) j)) (sym p) (subst (λ x. IsStream reads x w) (sym q) h)

-- where the columns of streams after others come from
abbrev pub sources_after : List (List FieldSource) → List TypedStream → List (List FieldSource)
sources_after sources list = fold (λ streams one. streams ++ sources_made streams one.op ∷ []) sources list

kept_sources : (list : List TypedStream) (sources : List (List FieldSource)) (j : ℕ) → j < length sources
    → sources_at (sources_after sources list) j ≡ sources_at sources j
kept_sources [] sources j lt = refl
kept_sources (one ∷ list) sources j lt =
    kept_sources list (sources ++ sources_made sources one.op ∷ []) j (omega (arith, lt, length_push sources (sources_made sources one.op)))
    ∙ at_earlier sources (sources_made sources one.op) [] j lt

-- the fields that streams name are read
abbrev pub AreNamed : FieldSet → List (List FieldSource) → List TypedStream → Type 0
AreNamed reads sources [] = Unit {0}
AreNamed reads sources (one ∷ list) = AreRead reads (sources_at sources (named_input one.op)) (named_slots one.op)
    × AreNamed reads sources list

-- what all streams make
pub record AllAreGood (reads : FieldSet) (sources : List (List FieldSource)) (made : AllMade) : Type 0 where
  pub written : AreWritable reads made.ops
  pub streams : AreStreams reads sources made.streams

pub all_good : {reads : FieldSet} (folds : List TypedFold) (names : ℕ) (before list : List TypedStream) (ops : List PlanOp)
    (streams : List Wires) (sources : List (List FieldSource)) → AreFit folds → AreValidStreams names folds before list
    → length sources ≡ length before + 1 → length streams ≡ length sources → AreStreams reads sources streams
    → AreNamed reads (sources_after sources list) list → AreWritable reads ops
    → AllAreGood reads (sources_after sources list) (all_made folds ops streams list)
all_good folds names before [] ops streams sources fit v few long all named w = record { written = w; streams = all }
all_good {reads} folds names before (one ∷ list) ops streams sources fit v few long all named w =
    let made : List FieldSource = sources_made sources one.op in
    let within : named_input one.op < length sources = omega (
      arith,
      few,
      input_before folds before (length one.columns) one.op v.0.operator,
    ) in
    let kept = kept_sources (one ∷ list) sources (named_input one.op) within in
    let m = made_good folds before (length one.columns) sources streams one.op ops fit v.0.operator all
    (subst (λ l. AreRead reads l (named_slots one.op)) kept named.0) w in
    all_good folds names (before ++ one ∷ []) list (made_by folds streams one.op ops).ops
    (streams ++ (made_by folds streams one.op ops).wires ∷ []) (sources ++ made ∷ []) fit v.1
    (length_push sources made ∙ ap (λ n. n + 1) few ∙ sym (ap (λ n. n + 1) (length_push before one)))
    (length_push streams (made_by folds streams one.op ops).wires ∙ ap (λ n. n + 1) long ∙ sym (length_push sources made))
    (more_streams sources streams long all m.stream) named.1 m.written

-- what the fields of these streams are, where their set is known
read_from : (reads : FieldSet) (sources : List FieldSource) (slots : List ℕ)
    → ((f : Field) → IsIn f (filter_map (source_at sources) slots) → HasField reads f) → AreRead reads sources slots
read_from reads sources [] h = tt
read_from reads sources (slot ∷ slots) h = (
  λ f e. h f (subst (λ o. IsIn f (cons_option o (filter_map (source_at sources) slots))) (sym e) (inl refl)),
  read_from reads sources slots (λ f i. h f (later f (source_at sources slot) i)),
)
  where
    later : (f : Field) (o : FieldSource) → IsIn f (filter_map (source_at sources) slots)
        → IsIn f (cons_option o (filter_map (source_at sources) slots))
    later f None i = i
    later f (Some g) i = inr i

pub named_from : (reads : FieldSet) (sources : List (List FieldSource)) (list : List TypedStream)
    → ((f : Field) → IsIn f (flat_map (λ one. named_fields sources one.op) list) → HasField reads f) → AreNamed reads sources list
named_from reads sources [] h = tt
named_from reads sources (one ∷ list) h = (
  read_from reads (sources_at sources (named_input one.op)) (named_slots one.op)
      (λ f i. h f (in_left f (named_fields sources one.op) (flat_map (λ one. named_fields sources one.op) list) i)),
  named_from reads sources list (λ f i. h f (in_right f (named_fields sources one.op) (flat_map (λ one. named_fields sources one.op) list)
      i)),
)

packets_good : {reads : FieldSet} → AreStreams reads (packet_sources ∷ []) (packet_wires ∷ [])
packets_good zero = record {
  present = below_two' 1 (omega arith);
  columns = (refl, (refl, (refl, (refl, (refl, (refl, (refl, (refl, (refl, (refl, (refl, (refl, (refl, (refl, tt))))))))))))));
}
  where
    below_two' : (n : ℕ) → n < 2 → n < 2 ^ 64
    below_two' n h = omega arith
packets_good (suc j) = record { present = below_two 0 refl; columns = tt }

-- All that is made of a query's streams.
pub query_good : (folds : List TypedFold) (names : ℕ) (list : List TypedStream) → AreFit folds → AreValidStreams names folds [] list →
    AllAreGood (field_set (flat_map (λ one. named_fields (sources_after (packet_sources ∷ []) list) one.op) list))
    (sources_after (packet_sources ∷ []) list) (all_made folds [] (packet_wires ∷ []) list)
query_good folds names list fit v =
    let reads = field_set (flat_map (λ one. named_fields (sources_after (packet_sources ∷ []) list) one.op) list) in
    all_good _ _ _ _ _ _ _ fit v refl refl (packets_good)
    (named_from _ _ _ (λ f i. in_set
    _ f i)) tt
