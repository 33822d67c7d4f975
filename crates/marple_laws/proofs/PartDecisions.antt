-- The parts of lines, decided.
use Rattle.marple_laws.proofs.Words
use Words.{◌≡◌, ℕ, ◌+◌, ◌≤◌, List, [], ◌∷◌, length, map, refl, sym, ap, ap₂, ◌∙◌, subst, inl, inr, codes, Field, all_fields, field_name}
use Words.{number_of, FIELDS, Operand, Register, Number, PlanOp, is_name, number, tokens, IsNamedNumber, IsNamedOperand, IsOneNumber}
use Words.{IsOneOperand, AreFrom, IsAllowed, IsKnown, IsOpLine, IsReadsLine, IsStaged, operand}
use Rattle.std.specs.Prelude.{◌⊎◌}
use Rattle.marple_base.specs.declared.field.Field.TheVariants as fields
use Rattle.plan_file.proofs.ReadsFacts.{same_name}
use Rattle.marple_laws.proofs.Decisions.{Decided, both, by_both, contains, either, from_found, from_value, is_true, less, most, same_number}
use Rattle.marple_laws.proofs.Decisions.{same_text, some_same, three_same, three_tokens, two_same, two_tokens}

-- the line `reads`

abbrev Avoids : List ℕ → List Field → Type 0
Avoids t [] = Unit {0}
Avoids t (f ∷ fs) = (t ≡ field_name f → ⊥) × Avoids t fs

search_field : (t : List ℕ) (fs : List Field) → ((f : Field) × (t ≡ field_name f)) ⊎ Avoids t fs
search_field t [] = inr tt
search_field t (f ∷ fs) = by (same_text t (field_name f)) (search_field t fs)
  where
    by : Decided (t ≡ field_name f) → ((g : Field) × (t ≡ field_name g)) ⊎ Avoids t fs
        → ((g : Field) × (t ≡ field_name g)) ⊎ Avoids t (f ∷ fs)
    by (inl e) rest = inl (f, e)
    by (inr other) (inl found) = inl found
    by (inr other) (inr others) = inr (other, others)

no_field : {t : List ℕ} → Avoids t all_fields → (f : Field) → t ≡ field_name f → ⊥
no_field a fields.Switch = a.0
no_field a fields.Qid = a.1.0
no_field a fields.Uid = a.1.1.0
no_field a fields.SrcIp = a.1.1.1.0
no_field a fields.DstIp = a.1.1.1.1.0
no_field a fields.SrcPort = a.1.1.1.1.1.0
no_field a fields.DstPort = a.1.1.1.1.1.1.0
no_field a fields.Proto = a.1.1.1.1.1.1.1.0
no_field a fields.PktLen = a.1.1.1.1.1.1.1.1.0
no_field a fields.PayloadLen = a.1.1.1.1.1.1.1.1.1.0
no_field a fields.TcpSeq = a.1.1.1.1.1.1.1.1.1.1.0
no_field a fields.Tin = a.1.1.1.1.1.1.1.1.1.1.1.0
no_field a fields.Tout = a.1.1.1.1.1.1.1.1.1.1.1.1.0
no_field a fields.QSize = a.1.1.1.1.1.1.1.1.1.1.1.1.1.0

field_named : (t : List ℕ) → Decided ((f : Field) × (t ≡ field_name f))
field_named t = by (search_field t all_fields)
  where
    by : ((f : Field) × (t ≡ field_name f)) ⊎ Avoids t all_fields → Decided ((f : Field) × (t ≡ field_name f))
    by (inl found) = inl found
    by (inr others) = inr (λ p. no_field others _ p.1)

abbrev ReadsFrom : ℕ → List (List ℕ) → Type 0
ReadsFrom least ts = (fs : List Field) × (ts ≡ map field_name fs) × AreFrom least fs

reads_from : (least : ℕ) (ts : List (List ℕ)) → Decided (ReadsFrom least ts)
reads_from least [] = inl ([], refl, tt)
reads_from least (t ∷ ts) = by (λ k. reads_from k ts) (field_named t)
  where
    unnamed : (((f : Field) × (t ≡ field_name f)) → ⊥) → (fs : List Field) → t ∷ ts ≡ map field_name fs → ⊥
    unnamed none [] e = cc
    unnamed none (g ∷ gs) e = (let head : t ≡ field_name g = cc in none (g, head))

    back : (f : Field) → t ≡ field_name f → (fs : List Field) → t ∷ ts ≡ map field_name fs → AreFrom least fs → (least ≤ number_of f)
        × ReadsFrom (number_of f + 1) ts
    back f named [] e from = absurd (let no : t ∷ ts ≡ [] = e in cc)
    back f named (g ∷ gs) e from =
        let head : t ≡ field_name g = cc in
        let rest : ts ≡ map field_name gs = cc in
        let same : g ≡ f = same_name g f (sym head ∙ named) in
        (subst (λ x. least ≤ number_of x) same from.0, (gs, rest, subst (λ x. AreFrom (number_of x + 1) gs) same from.1))

    with_field : (f : Field) → t ≡ field_name f → Decided ((least ≤ number_of f) × ReadsFrom (number_of f + 1) ts)
        → Decided (ReadsFrom least (t ∷ ts))
    with_field f named (inl p) = inl (f ∷ p.1.0, ap₂ (λ x xs. x ∷ xs) named p.1.1, (p.0, p.1.2))
    with_field f named (inr none) = inr (λ p. none (back f named p.0 p.1 p.2))

    by : ((k : ℕ) → Decided (ReadsFrom k ts)) → Decided ((f : Field) × (t ≡ field_name f)) → Decided (ReadsFrom least (t ∷ ts))
    by rest (inl (f, named)) = with_field f named (both (most least (number_of f)) (rest (number_of f + 1)))
    by rest (inr none) = inr (λ p. unnamed none p.0 p.1)

pub reads_line : (line : List ℕ) → Decided ((fs : List Field) × IsReadsLine line fs)
reads_line line = by (tokens line) refl
  where
    by : (ts : List (List ℕ)) → tokens line ≡ ts → Decided ((fs : List Field) × IsReadsLine line fs)
    by [] e = inr (λ p. (let w = p.1.words in cc))
    by (t ∷ ts) e =
        by_both
        (λ p. (p.1.0, record { words = e ∙ ap₂ (λ x xs. x ∷ xs) p.0 p.1.1; order = p.1.2 }))
        (λ p.
        let words : t ∷ ts ≡ codes "reads" ∷ map field_name p.0 = sym e ∙ p.1.words in
        let first : t ≡ codes "reads" = cc in
        let rest : ts ≡ map field_name p.0 = cc in
        (first, (p.0, rest, p.1.order)))
        (both (same_text t (codes "reads")) (reads_from 0 _))

-- operands and the lines `op`

pub known : (fs : List Field) (ops : List PlanOp) (o : Operand) → Decided (IsKnown fs ops o)
known fs ops (Register r) = either (contains same_number _) (both (most _ r) (less r (FIELDS + length ops)))
known fs ops (Number n) = inl _

staged : (ops : List PlanOp) (op : PlanOp) → Decided (IsStaged ops op)
staged ops op =
    by_both
    (λ p. record { room = p.0.0; least = p.0.1; most = p.1.0.0; order = p.1.0.1; stage = p.1.1.0; constant = p.1.1.1 })
    (λ s. ((s.room, s.least), ((s.most, s.order), (s.stage, s.constant))))
    (both (both (less (length ops) 32768) (most 1 _))
    (both (both (most _ _) (most _ _))
    (both (same_number _ _) (is_true _))))

allowed : (fs : List Field) (ops : List PlanOp) (op : PlanOp) → Decided (IsAllowed fs ops op)
allowed fs ops op =
    by_both (λ p. record { left = p.0.0; right = p.0.1; staged = p.1 }) (λ a. ((a.left, a.right), a.staged))
    (both (both (known _ ops op.left) (known _ ops op.right)) (staged _ _))

pub op_line : (fs : List Field) (ops : List PlanOp) (line : List ℕ) → Decided ((op : PlanOp) × IsOpLine fs ops line op)
op_line fs ops line = from_value _ (λ p. (p.0, p.1.words)) (λ op e.
    by_both (λ a. (op, record { words = e; allowed = a }))
    (λ p. subst (IsAllowed fs ops) (some_same op p.1.words e) p.1.allowed) (allowed _ _ op))

-- lines of a word, a name and an operand or a number

pub named_operand : {fs : List Field} {ops : List PlanOp} (word line : List ℕ)
    → Decided ((name : List ℕ) × (v : Operand) × IsNamedOperand fs ops word line name v)
named_operand {fs} {ops} word line =
    from_found (λ p. (word, p.0, p.2.token, p.2.words)) (λ f. of_tokens f.0 f.1 f.2 f.3) (three_tokens (tokens line))
  where
    of_tokens : (a n t : List ℕ) → tokens line ≡ a ∷ n ∷ t ∷ []
        → Decided ((name : List ℕ) × (v : Operand) × IsNamedOperand fs ops word line name v)
    of_tokens a n t e = from_value _ (λ p. (p.1, ap operand (three_same e p.2.words).2 ∙ p.2.reads)) (λ v r.
        by_both
        (λ q. (n, v, record { token = t; words = e ∙ ap (λ w. w ∷ n ∷ t ∷ []) q.0; named = q.1.0; reads = r; known = q.1.1 }))
        (λ p.
        let same = three_same e p.2.words in
        let value = some_same v (ap operand same.2 ∙ p.2.reads) r in
        (same.0, (ap is_name same.1 ∙ p.2.named, subst (IsKnown fs ops) value p.2.known)))
        (both (same_text a _) (both (is_true (is_name n)) (known _ ops v))))

pub one_operand : (fs : List Field) (ops : List PlanOp) (word line : List ℕ) → Decided ((v : Operand) × IsOneOperand fs ops word line v)
one_operand fs ops word line =
    from_found (λ p. (word, p.1.token, p.1.words)) (λ f. of_tokens f.0 f.1 f.2) (two_tokens (tokens line))
  where
    of_tokens : (a t : List ℕ) → tokens line ≡ a ∷ t ∷ [] → Decided ((v : Operand) × IsOneOperand fs ops word line v)
    of_tokens a t e = from_value _ (λ p. (p.0, ap operand (two_same e p.1.words).1 ∙ p.1.reads)) (λ v r.
        by_both
        (λ q. (v, record { token = t; words = e ∙ ap (λ w. w ∷ t ∷ []) q.0; reads = r; known = q.1 }))
        (λ p.
        let same = two_same e p.1.words in
        (same.0, subst (IsKnown fs ops) (some_same v (ap operand same.1 ∙ p.1.reads) r) p.1.known))
        (both (same_text a _) (known _ ops v)))

pub named_number : (word line : List ℕ) → Decided ((name : List ℕ) × (v : ℕ) × IsNamedNumber word line name v)
named_number word line =
    from_found (λ p. (word, p.0, p.2.token, p.2.words)) (λ f. of_tokens f.0 f.1 f.2 f.3) (three_tokens (tokens line))
  where
    of_tokens : (a n t : List ℕ) → tokens line ≡ a ∷ n ∷ t ∷ [] → Decided ((name : List ℕ) × (v : ℕ) × IsNamedNumber word line name v)
    of_tokens a n t e = from_value _ (λ p. (p.1, ap number (three_same e p.2.words).2 ∙ p.2.reads)) (λ v r.
        by_both
        (λ q. (n, v, record { token = t; words = e ∙ ap (λ w. w ∷ n ∷ t ∷ []) q.0; named = q.1; reads = r }))
        (λ p. (let same = three_same e p.2.words in (same.0, ap is_name same.1 ∙ p.2.named)))
        (both (same_text a _) (is_true (is_name n))))

pub one_number : (word line : List ℕ) → Decided ((v : ℕ) × IsOneNumber word line v)
one_number word line = from_found (λ p. (word, p.1.token, p.1.words)) (λ f. of_tokens f.0 f.1 f.2) (two_tokens (tokens line))
  where
    of_tokens : (a t : List ℕ) → tokens line ≡ a ∷ t ∷ [] → Decided ((v : ℕ) × IsOneNumber word line v)
    of_tokens a t e = from_value _ (λ p. (p.0, ap number (two_same e p.1.words).1 ∙ p.1.reads)) (λ v r.
        by_both (λ q. (v, record { token = t; words = e ∙ ap (λ w. w ∷ t ∷ []) q; reads = r }))
        (λ p. (two_same e p.1.words).0)
        (same_text a _))
