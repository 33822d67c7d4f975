-- The text of a query's plan is valid, and makes the query's plan.
use Rattle.marple_laws.proofs.Words
use Words.{◌≡◌, ℕ, suc, ◌+◌, ◌^◌, ◌<◌, ◌≤◌, true, List, [], ◌∷◌, ◌++◌, length, Some, None, Option, refl, sym, ap, subst, ◌∙◌, arith}
use Words.{append_assoc, append-nil, All, flat_map, codes, decimal, range_with_len, All-tail, Field, TypedFold, PrintOf, TypedQuery}
use Words.{takings, IsValidQuery, IsQueryTable, MAX_GROUPBYS, GroupWiring, PlanOp, reads_of, IsPlanOf, GroupShape, query_groups, PlanParts}
use Words.{IsSoundPlan, Folded, Made, lines, bytes_after_lines, nothing, word_named, Make, Says, query_ops, fields_of, group_text}
use Words.{print_line, compiled_text, folded_with, folded_of, group_made, printed_group, made_of, AreNew, HasPlanText}
use Rattle.std.specs.Prelude.{slice_get}
use Rattle.query_lang.specs.declared.typed.PrintOf.TheVariants as printed
use Rattle.plan_file.specs.declared.line_word.LineWord.TheVariants as lead
use Rattle.marple_laws.proofs.{Allowed.{op_ok, shapes_long, group_ok}, Fields.{begun, first_written, reads_written}, GroupLines.outside}
use Rattle.marple_laws.proofs.{Groups.{HasGroup, groups_written}, Numbers.{number_decimal, token_decimal}, OpLines.{with_ops, ops_written}}
use Rattle.marple_laws.proofs.{Tokens.{lines_of, nothing_after}, Written.{IsWritten, nothing_written, written_then, line_written}}

-- as many groups are made as there are groupbys
groups_long : {fields : List Field} {ops : List PlanOp} (shapes : List GroupShape) {wirings : List GroupWiring}
    {folds : ℕ → Option TypedFold} → ((i : ℕ) (shape : GroupShape) → slice_get shapes i ≡ Some shape
    → HasGroup fields ops shape wirings folds i) → (rest : List GroupShape) (i : ℕ)
    → ((k : ℕ) → slice_get shapes (i + k) ≡ slice_get rest k) → length
    (flat_map (λ i. folded_of (slice_get shapes i) (slice_get wirings i) (folds i)) (range_with_len i (length rest))) ≡ length rest
groups_long shapes each [] i are = refl
groups_long shapes {wirings} {folds} each (shape ∷ rest) i are =
    let here : slice_get shapes i ≡ Some shape = (let z : i ≡ i + 0 = omega arith in ap (slice_get shapes) z ∙ are 0) in
    let h = each i shape here in
    let made_is : folded_of (slice_get shapes i) (slice_get wirings i) (folds i) ≡ folded_with shape h.wiring h.fold ∷ [] =
    (λ k. folded_of (here k) (h.wired k) (h.folds_are k)) in
    let more = groups_long shapes each rest (i + 1)
    (λ k. (let z : i + 1 + k ≡ i + suc k = omega arith in ap (slice_get shapes) z ∙ are _)) in
    ap (λ l. length (l ++ flat_map (λ i. folded_of (slice_get shapes i) (slice_get wirings i) (folds i))
    (range_with_len (i + 1) (length rest)))) made_is ∙ ap suc more

-- the prints

print_lead : word_named (codes "print") ≡ lead.Print
unfolding word_named
print_lead = refl

-- what is made after all groups
abbrev printing : List Field → List PlanOp → List Folded → List ℕ → Made
printing fields ops groups prints = record {
  begun = true;
  reads = Some fields;
  ops = ops;
  groups = groups;
  current = None;
  prints = prints;
}

-- each printed groupby exists
abbrev AreThere : ℕ → List PrintOf → Type 0
AreThere groups [] = Unit {0}
AreThere groups (printed.Group i ∷ prints) = (i < groups) × AreThere groups prints
AreThere groups (printed.Final i ∷ prints) = AreThere groups prints

prints_written : {fields : List Field} {ops : List PlanOp} {groups : List Folded} → length groups ≤ MAX_GROUPBYS
    → (prints : List PrintOf) {before : List ℕ} → AreThere (length groups) prints → AreNew before (flat_map printed_group prints)
    → IsWritten (flat_map print_line prints) (printing fields ops groups before)
    (printing fields ops groups (before ++ flat_map printed_group prints))
prints_written {fields} {ops} {groups} few [] {before} there new = nothing_written (ap (printing fields ops groups) (append-nil before))
prints_written few (printed.Final i ∷ prints) there new = prints_written few prints there new
prints_written {fields} {ops} {groups} few (printed.Group i ∷ prints) {before} there new =
    written_then _
    (line_written (decimal i ∷ []) refl (token_decimal small, tt) print_lead
    (λ cut. record {
      current = refl;
      group = i;
      valid = record { token = decimal i; words = cut; reads = number_decimal small };
      there = there.0;
      new = new.0;
      made = refl;
    }))
    (subst (λ l. IsWritten (flat_map print_line prints) (printing fields ops groups (before ++ i ∷ [])) (printing fields ops groups l))
    (append_assoc before (i ∷ []) (flat_map printed_group prints))
    (prints_written few prints there.1 new.1))
  where
    small : i < 2 ^ 64
    small = omega (arith, there.0, few)

tables_there : (q : TypedQuery) (prints : List PrintOf) → All (IsQueryTable q) prints → AreThere (length (takings q.streams)) prints
tables_there q [] h = tt
tables_there q (printed.Group i ∷ prints) h = (
  h 0 (printed.Group i) (omega arith),
  tables_there q prints (All-tail (IsQueryTable q) (printed.Group i) prints h),
)
tables_there q (printed.Final i ∷ prints) h = tables_there q prints (All-tail (IsQueryTable q) (printed.Final i) prints h)

module _ (q : TypedQuery) (p : PlanParts) (valid : IsValidQuery q) (text : HasPlanText q) (plan : IsPlanOf q p) (sound : IsSoundPlan p)
  where
    abbrev fields : List Field
    fields = fields_of (reads_of q)

    abbrev groups : List Folded
    groups = flat_map (group_made q) (range_with_len 0 (length (takings q.streams)))

    long : length groups ≡ length (takings q.streams)
    long =
        ap (λ n. length (flat_map (group_made q) (range_with_len 0 n))) (sym (shapes_long q p valid text plan sound))
        ∙ groups_long _ (group_ok q p valid text plan sound)
        _ 0 (λ k. (let z : 0 + k ≡ k = omega arith in ap (slice_get _) z))
        ∙ shapes_long q p valid text plan sound

    groups_here : IsWritten (flat_map (group_text q) (range_with_len 0 (length (takings q.streams)))) (outside fields (query_ops q) [])
        (outside fields (query_ops q) groups)
    groups_here =
        subst (λ n. IsWritten (flat_map (group_text q) (range_with_len 0 n)) (outside fields (query_ops q) [])
        (outside fields (query_ops q) (flat_map (group_made q) (range_with_len 0 n)))) (shapes_long q p valid text plan sound)
        (groups_written (query_groups q)
        (omega (arith, shapes_long q p valid text plan sound, valid.most_groupbys)) (group_ok q p valid text plan sound)
        (query_groups q) (omega arith) refl (λ k. (let z : 0 + k ≡ k = omega arith in ap (slice_get (query_groups q)) z))
        text.names_differ)

    -- all lines of the text
    text_written : IsWritten (compiled_text q) nothing (made_of q)
    unfolding compiled_text
    text_written =
        written_then _ first_written
        (written_then _ (reads_written (reads_of q))
        (written_then _ (ops_written (op_ok q p valid text plan sound) (query_ops q) refl)
        (written_then _ groups_here
        (prints_written (omega (arith, long, valid.most_groupbys)) q.prints
        (subst (λ n. AreThere n q.prints) (sym long) (tables_there q q.prints valid.prints)) text.prints_differ))))

    pub text_says : Says (compiled_text q) (made_of q)
    text_says =
        let w = text_written in
        record {
          size = text.short;
          valid = subst (λ l. Make l nothing (made_of q)) (sym (ap lines w.text_is ∙ lines_of w.each)) w.make;
          ended = ap bytes_after_lines w.text_is ∙ nothing_after _ w.each;
          printed = text.printed;
        }
