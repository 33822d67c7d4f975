-- Whether a line is valid after the lines before it is decided.
use Rattle.marple_laws.proofs.Decisions.{Decided, both, by_both, contains, from_found, from_value, is_empty, is_false, is_none, is_true}
use Rattle.marple_laws.proofs.{Decisions.{less, neither, same_number, same_texts, some_same, two_same}, GroupDecisions.fold_line}
use Rattle.marple_laws.proofs.Words
use Words.{Group, IsFirst, IsFold, IsFoldLine, IsGroup, IsLineOf, IsOneNumber, IsOp, IsOpLine, IsPart, IsPrint, IsReads, IsValidAfter}
use Words.{LineWord, List, Made, None, Some, [], ap, codes, inr, length, number, refl, subst, sym, tokens, true, ℕ, ◌++◌, ◌<◌, ◌∙◌, ◌∷◌}
use Rattle.marple_laws.proofs.{GroupDecisions.{group_line, in_group}, PartDecisions.{one_number, op_line, reads_line}}
use Rattle.std.specs.Prelude.{Contains}
use Rattle.plan_file.specs.declared.line_word.LineWord.TheVariants as words
use Rattle.plan_file.specs.Groups.{IsGroupLine, IsInGroup}

first : (before : Made) (line : List ℕ) → Decided ((after : Made) × IsFirst before line after)
first before line =
    by_both (λ q. (record before { begun = true }, record { first = q.0; words = q.1; made = refl })) (λ p. (p.1.first, p.1.words))
    (both (is_false before.begun) (same_texts (tokens line) (codes "marple-plan" ∷ codes "1" ∷ [])))

reads : (before : Made) (line : List ℕ) → Decided ((after : Made) × IsReads before line after)
reads before line =
    by_both (λ q. (
      record before { reads = Some q.1.1.0 },
      record { begun = q.0; second = q.1.0; fields = q.1.1.0; valid = q.1.1.1; made = refl },
    ))
    (λ p. (p.1.begun, (p.1.second, (p.1.fields, p.1.valid))))
    (both (is_true before.begun) (both (is_none before.reads) (reads_line line)))

op : (before : Made) (line : List ℕ) → Decided ((after : Made) × IsOp before line after)
op before line = from_value before.reads (λ p. (p.1.fields, p.1.reads)) (λ fs is.
    by_both
    (λ q. (
      record before { ops = before.ops ++ q.1.1.0 ∷ [] },
      record { fields = fs; reads = is; groups = q.0; current = q.1.0; op = q.1.1.0; valid = q.1.1.1; made = refl },
    ))
    (λ p.
    let valid = subst (λ f. IsOpLine f before.ops line p.1.op) (some_same fs p.1.reads is) p.1.valid in
    (p.1.groups, (p.1.current, (p.1.op, valid))))
    (both (is_empty before.groups) (both (is_none before.current) (op_line fs before.ops line))))

group : (before : Made) (line : List ℕ) → Decided ((after : Made) × IsGroup before line after)
group before line = from_value before.reads (λ p. (p.1.fields, p.1.reads)) (λ fs is.
    by_both
    (λ q. (
      record before { current = Some q.1.1.0 },
      record { fields = fs; reads = is; current = q.0; prints = q.1.0; group = q.1.1.0; valid = q.1.1.1; made = refl },
    ))
    (λ p.
    let same = some_same fs p.1.reads is in
    (p.1.current, (p.1.prints, (p.1.group, subst (λ f. IsGroupLine f before.ops before.groups line p.1.group) same p.1.valid))))
    (both (is_none before.current) (both (is_empty before.prints) (group_line fs before.ops before.groups line))))

part : (word : LineWord) (before : Made) (line : List ℕ) → Decided ((after : Made) × IsPart word before line after)
part word before line =
    from_value _ (λ p. (p.1.fields, p.1.reads)) (λ fs is.
    from_value before.current (λ p. (p.1.group, p.1.current)) (λ g has.
    by_both
    (λ q. (
      record before { current = Some q.0 },
      record { fields = fs; reads = is; group = g; current = has; next = q.0; valid = q.1; made = refl },
    ))
    (λ p. (
      p.1.next,
      subst (λ f. IsInGroup word f before.ops g line p.1.next) (some_same fs p.1.reads is)
          (subst (λ x. IsInGroup word p.1.fields before.ops x line p.1.next) (some_same g p.1.current has) p.1.valid),
    ))
    (in_group _ _ _ g _)))

fold : (before : Made) (line : List ℕ) → Decided ((after : Made) × IsFold before line after)
fold before line = from_value _ (λ p. (p.1.group, p.1.current)) (λ g has.
    by_both
    (λ q. (
      record before { groups = before.groups ++ q.0 ∷ []; current = None },
      record { group = g; current = has; folded = q.0; valid = q.1; made = refl },
    ))
    (λ p. (p.1.folded, subst (λ x. IsFoldLine x line p.1.folded) (some_same g p.1.current has) p.1.valid))
    (fold_line g _))

print : (before : Made) (line : List ℕ) → Decided ((after : Made) × IsPrint before line after)
print before line = from_found (λ p. (p.1.group, p.1.valid)) (λ f. of_number f.0 f.1) (one_number (codes "print") _)
  where
    of_number : (n : ℕ) → IsOneNumber (codes "print") line n → Decided ((after : Made) × IsPrint before line after)
    of_number n valid =
        by_both
        (λ q. (
          record before { prints = before.prints ++ n ∷ [] },
          record { current = q.0; group = n; valid = valid; there = q.1.0; new = q.1.1; made = refl },
        ))
        (λ p.
        let token = (two_same p.1.valid.words valid.words).1 in
        let same = some_same n (ap number (sym token) ∙ p.1.valid.reads) valid.reads in (
          p.1.current,
          (subst (λ i. i < length before.groups) same p.1.there, λ there. p.1.new (subst (Contains before.prints) (sym same) there)),
        ))
        (both (is_none _) (both (less n (length before.groups)) (neither (contains same_number _))))

of_word : (word : LineWord) (before : Made) (line : List ℕ) → Decided ((after : Made) × IsLineOf word before line after)
of_word words.Plan before line = first _ _
of_word words.Reads before line = reads _ _
of_word words.Op before line = op _ _
of_word words.Group before line = group _ _
of_word words.Fold before line = fold _ _
of_word words.Print before line = print _ _
of_word words.Other before line = inr (λ p. p.1)
of_word word before line = part _ _ _

pub valid_after : (before : Made) (line : List ℕ) → Decided (IsValidAfter before line)
valid_after before line = of_word _ _ _
