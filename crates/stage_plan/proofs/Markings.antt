-- Marking the fields that are named gives the set of them.
use Rattle.std.proofs.{Common.{◌≡◌, ℕ, List, [], ◌∷◌, ◌++◌, Some, None, refl, sym, ◌∙◌}, lemmas.List.Sums.fold-append}
use Rattle.std.specs.{Prelude.{fold, flat_map, filter_map}, List.cons_option}
use Rattle.marple_base.specs.{declared.field.FieldSet.FieldSet, Field.{no_fields, with_field, field_set}}
use Rattle.query_lang.specs.declared.{fold.TypedExpr.TypedExpr, typed.TypedOp.{TypedOp, TheVariants.{Filter, Map, Zip, Group}}}
use Rattle.query_lang.specs.declared.typed.{TypedQuery.TypedQuery, TypedStream.TypedStream}
use Rattle.query_lang.specs.Terms.{Term, Literal, Read, Negation, Operation, term_of}
use Rattle.stage_plan.specs.Fields.{FieldSource, source_at, sources_at, term_slots, named_fields, all_sources, read_fields}
use Rattle.stage_plan.specs.Marking.{marked, marked_slots, marked_term, marked_op}

-- one column after another
filtered : (source : ℕ → FieldSource) (fields : FieldSet) (slots : List ℕ) → fold (λ b slot. marked b (source slot)) fields slots ≡ fold
    with_field fields (filter_map source slots)
filtered _ _ [] = refl
filtered source fields (slot ∷ slots) = filtered source (marked fields (source slot)) slots ∙ go _
  where
    go : (o : FieldSource) → fold with_field (marked fields o) (filter_map source slots) ≡ fold with_field fields
        (cons_option o (filter_map source slots))
    go None = refl
    go (Some f) = refl

slots_are : (columns : List FieldSource) (fields : FieldSet) (slots : List ℕ)
    → marked_slots columns fields slots ≡ fold with_field fields (filter_map (source_at columns) slots)
slots_are columns fields slots = filtered (source_at columns) fields slots

term_marks : (columns : List FieldSource) (fields : FieldSet) (e : Term) → marked_term columns fields e ≡ marked_slots columns fields
    (term_slots e)
term_marks _ _ (Literal n) = refl
term_marks _ _ (Read s) = refl
term_marks columns fields (Negation e) = term_marks columns fields e
term_marks columns fields (Operation op a b) =
    cc (
      term_marks columns (marked_term columns fields a) b,
      term_marks columns fields a,
      fold-append
          (λ c slot. marked c (source_at columns slot)) fields (term_slots a) (term_slots b),
    )

terms_mark : (columns : List FieldSource) (fields : FieldSet) (values : List TypedExpr) →
    fold (λ b e. marked_term columns b (term_of e)) fields values ≡ marked_slots columns fields
    (flat_map (λ e. term_slots (term_of e)) values)
terms_mark _ _ [] = refl
terms_mark columns fields (e ∷ values) =
    cc (
      terms_mark columns (marked_term columns fields (term_of e)) values,
      term_marks columns fields (term_of e),
      fold-append
          (λ c slot. marked c (source_at columns slot)) fields (term_slots (term_of e)) (flat_map (λ e. term_slots (term_of e)) values),
    )

op_marks : (streams : List (List FieldSource)) (fields : FieldSet) (op : TypedOp)
    → marked_op streams fields op ≡ fold with_field fields (named_fields streams op)
op_marks streams fields (Filter input condition) = simp (term_marks, slots_are)
op_marks streams fields (Map input values) = simp (terms_mark, slots_are)
op_marks _ _ (Zip _ _ _) = refl
op_marks streams fields (Group input keys f args) =
    sym (fold-append (λ c slot. marked c (source_at (sources_at streams input) slot)) fields keys args)
    ∙ slots_are (sources_at streams input) fields (keys ++ args)

all_mark : (streams : List (List FieldSource)) (fields : FieldSet) (list : List TypedStream) →
    fold (λ b one. marked_op streams b one.op) fields list ≡ fold with_field fields (flat_map (λ one. named_fields streams one.op) list)
all_mark _ _ [] = refl
all_mark streams fields (one ∷ list) =
    cc (
      all_mark streams (marked_op streams fields one.op) list,
      op_marks streams fields one.op,
      fold-append with_field fields
          (named_fields streams one.op) (flat_map (λ one. named_fields streams one.op) list),
    )

-- all that a query names is the set that it reads
pub query_marks : (q : TypedQuery) → fold (λ b one. marked_op (all_sources q) b one.op) no_fields q.streams ≡ field_set (read_fields q)
query_marks q = all_mark (all_sources q) no_fields q.streams

pub reads_are : (q : TypedQuery) (columns : List (List FieldSource)) (streams : List TypedStream) (fields : FieldSet)
    → columns ≡ all_sources q → streams ≡ q.streams →
    fields ≡ fold (λ b one. marked_op columns b one.op) no_fields streams → fields ≡ field_set (read_fields q)
reads_are q _ streams _ same list is = simp (is, same, list, query_marks)
