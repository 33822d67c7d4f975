-- A line makes at most one thing of what was made before it.
use Rattle.std.{proofs.Common.{◌≡◌, ℕ, List, [], ◌∷◌, map, Some, refl, sym, ap, ◌∙◌, subst}, specs.Prelude.codes}
use Rattle.marple_base.specs.{declared.field.Field.Field, Field.field_name}
use Rattle.query_lang.specs.declared.typed.Class.{Class}
use Rattle.stage_plan.specs.declared.op.{Operand.Operand, PlanOp.PlanOp}
use Rattle.plan_file.specs.declared.line_word.LineWord.{LineWord}
use Rattle.plan_file.specs.declared.line_word.LineWord.TheVariants as words
use Rattle.plan_file.specs.{declared.made.{Group.Group, Folded.Folded, Made.Made}, Lexis.number, Lexemes.lexeme_of, LineWords.line_word}
use Rattle.plan_file.specs.{Operations.operand, Named.{IsNamedOperand, IsNamedNumber, IsOneOperand, IsOneNumber}}
use Rattle.plan_file.specs.{Groups.{IsGroupLine, IsInGroup, group_with}, FoldLines.IsFoldLine}
use Rattle.plan_file.{specs.Lines.{IsFirst, IsReads, IsOp, IsGroup, IsPart, IsFold, IsPrint, IsLine, IsLineOf}, proofs.ReadsFacts.same_name}
use Rattle.plan_file.proofs.SameFold.{words_once}

value_same : {A : Type 0} (x y : A) → Some x ≡ Some y → x ≡ y
value_same x y e = cc

second_same : (w a b : List ℕ) (xs ys : List (List ℕ)) → w ∷ a ∷ xs ≡ w ∷ b ∷ ys → a ≡ b
second_same w a b xs ys e = cc

third_same : (w n a m b : List ℕ) (xs ys : List (List ℕ)) → w ∷ n ∷ a ∷ xs ≡ w ∷ m ∷ b ∷ ys → a ≡ b
third_same w n a m b xs ys e = cc

fields_same : (a b : List Field) → map field_name a ≡ map field_name b → a ≡ b
fields_same [] [] e = refl
fields_same [] (g ∷ b) e = cc
fields_same (f ∷ a) [] e = cc
fields_same (f ∷ a) (g ∷ b) e =
    let head : field_name f ≡ field_name g = cc in
    let rest : map field_name a ≡ map field_name b = cc in
    let first : f ≡ g = same_name f g head in
    let more : a ≡ b = fields_same a b rest in
    cc

named_operand_once : (f g : List Field) (o : List PlanOp) (w line n m : List ℕ) (u v : Operand) → IsNamedOperand f o w line n u
    → IsNamedOperand g o w line m v → (n ≡ m) × (u ≡ v)
named_operand_once f g o w line n m u v p q =
    let both : w ∷ n ∷ p.token ∷ [] ≡ w ∷ m ∷ q.token ∷ [] = sym p.words ∙ q.words in
    let same : p.token ≡ q.token = third_same w n p.token m q.token [] [] both in
    (second_same w n m (p.token ∷ []) (q.token ∷ []) both, value_same u v (sym p.reads ∙ ap operand same ∙ q.reads))

one_operand_once : (f g : List Field) (o : List PlanOp) (w line : List ℕ) (u v : Operand) → IsOneOperand f o w line u
    → IsOneOperand g o w line v → u ≡ v
one_operand_once f g o w line u v p q =
    let same : p.token ≡ q.token = second_same w p.token q.token [] [] (sym p.words ∙ q.words) in
    value_same u v (sym p.reads ∙ ap operand same ∙ q.reads)

named_number_once : (w line n m : List ℕ) (u v : ℕ) → IsNamedNumber w line n u → IsNamedNumber w line m v → (n ≡ m) × (u ≡ v)
named_number_once w line n m u v p q =
    let both : w ∷ n ∷ p.token ∷ [] ≡ w ∷ m ∷ q.token ∷ [] = sym p.words ∙ q.words in
    let same : p.token ≡ q.token = third_same w n p.token m q.token [] [] both in
    (second_same w n m (p.token ∷ []) (q.token ∷ []) both, value_same u v (sym p.reads ∙ ap number same ∙ q.reads))

one_number_once : (w line : List ℕ) (u v : ℕ) → IsOneNumber w line u → IsOneNumber w line v → u ≡ v
one_number_once w line u v p q =
    let same : p.token ≡ q.token = second_same w p.token q.token [] [] (sym p.words ∙ q.words) in
    value_same u v (sym p.reads ∙ ap number same ∙ q.reads)

first_once : (x : Made) (l : List ℕ) (a b : Made) → IsFirst x l a → IsFirst x l b → a ≡ b
first_once x l a b p q = p.made ∙ sym q.made

reads_once : (x : Made) (l : List ℕ) (a b : Made) → IsReads x l a → IsReads x l b → a ≡ b
reads_once x l a b p q =
    let words : codes "reads" ∷ map field_name p.fields ≡ codes "reads" ∷ map field_name q.fields = sym p.valid.words ∙ q.valid.words in
    let names : map field_name p.fields ≡ map field_name q.fields = cc in
    let same : p.fields ≡ q.fields = fields_same p.fields q.fields names in
    p.made ∙ rw same (sym q.made)

op_once : (x : Made) (l : List ℕ) (a b : Made) → IsOp x l a → IsOp x l b → a ≡ b
op_once x l a b p q =
    let same : p.op ≡ q.op = value_same p.op q.op (sym p.valid.words ∙ q.valid.words) in
    p.made ∙ rw same (sym q.made)

begun_once : (f g : List Field) (o : List PlanOp) (gs : List Folded) (l : List ℕ) (a b : Group) → IsGroupLine f o gs l a
    → IsGroupLine g o gs l b → a ≡ b
begun_once f g o gs l a b p q =
    let same = named_operand_once f g o (codes "group") l a.name b.name a.present b.present p.valid q.valid in
    p.made ∙ ap (λ n. group_with n a.present) same.0 ∙ ap (λ v. group_with b.name v) same.1 ∙ sym q.made

group_once : (x : Made) (l : List ℕ) (a b : Made) → IsGroup x l a → IsGroup x l b → a ≡ b
group_once x l a b p q =
    let same : p.group ≡ q.group = begun_once p.fields q.fields x.ops x.groups l p.group q.group p.valid q.valid in
    p.made ∙ rw same (sym q.made)

in_group_once : (word : LineWord) (f g : List Field) (o : List PlanOp) (x : Group) (l : List ℕ) (a b : Group) → IsInGroup word f o x l a
    → IsInGroup word g o x l b → a ≡ b
in_group_once words.Key f g o x l a b p q =
    let same = named_operand_once f g o (codes "key") l p.name q.name p.value q.value p.valid q.valid in
    p.made ∙ rw (same.0, same.1) (sym q.made)
in_group_once words.Arg f g o x l a b p q =
    let same = one_operand_once f g o (codes "arg") l p.value q.value p.valid q.valid in
    p.made ∙ rw same (sym q.made)
in_group_once words.State f g o x l a b p q =
    let same = named_number_once (codes "state") l p.name q.name p.value q.value p.valid q.valid in
    p.made ∙ rw (same.0, same.1) (sym q.made)
in_group_once words.Body f g o x l a b p q =
    let both : codes "body" ∷ p.valid.rest ≡ codes "body" ∷ q.valid.rest = sym p.valid.begins ∙ q.valid.begins in
    let rest : p.valid.rest ≡ q.valid.rest = cc in
    let same : p.words ≡ q.words = p.valid.are ∙ ap (map lexeme_of) rest ∙ sym q.valid.are in
    p.made ∙ rw same (sym q.made)
in_group_once _ f g o x l a b p q = absurd p

part_once : (word : LineWord) (x : Made) (l : List ℕ) (a b : Made) → IsPart word x l a → IsPart word x l b → a ≡ b
part_once word x l a b p q =
    let group : p.group ≡ q.group = value_same p.group q.group (sym p.current ∙ q.current) in
    let valid : IsInGroup word p.fields x.ops q.group l p.next = subst (λ g. IsInGroup word p.fields x.ops g l p.next) group p.valid in
    let same : p.next ≡ q.next = in_group_once word p.fields q.fields x.ops q.group l p.next q.next valid q.valid in
    p.made ∙ rw same (sym q.made)

folded_once : (g : Group) (l : List ℕ) (a b : Folded) → IsFoldLine g l a → IsFoldLine g l b → a ≡ b
folded_once g l a b p q =
    let same = words_once l a.class b.class a.depth b.depth a.nodes b.nodes a.statements b.statements p.valid q.valid in
    let group : a.group ≡ b.group = p.made ∙ sym q.made in
    let class : a.class ≡ b.class = same.0 in
    let depth : a.depth ≡ b.depth = same.1 in
    let nodes : a.nodes ≡ b.nodes = same.2 in
    let statements : a.statements ≡ b.statements = same.3 in
    let make : Group → Class → ℕ → ℕ → ℕ → Folded = λ x k d n s. record { group = x; class = k; depth = d; nodes = n; statements = s } in
    ap (λ x. make x a.class a.depth a.nodes a.statements) group ∙ ap (λ k. make b.group k a.depth a.nodes a.statements) class
    ∙ ap (λ d. make b.group b.class d a.nodes a.statements) depth ∙ ap (λ n. make b.group b.class b.depth n a.statements) nodes
    ∙ ap (λ s. make b.group b.class b.depth b.nodes s) statements

fold_once : (x : Made) (l : List ℕ) (a b : Made) → IsFold x l a → IsFold x l b → a ≡ b
fold_once x l a b p q =
    let group : p.group ≡ q.group = value_same p.group q.group (sym p.current ∙ q.current) in
    let valid : IsFoldLine q.group l p.folded = subst (λ g. IsFoldLine g l p.folded) group p.valid in
    let same : p.folded ≡ q.folded = folded_once q.group l p.folded q.folded valid q.valid in
    p.made ∙ rw same (sym q.made)

print_once : (x : Made) (l : List ℕ) (a b : Made) → IsPrint x l a → IsPrint x l b → a ≡ b
print_once x l a b p q =
    let same : p.group ≡ q.group = one_number_once (codes "print") l p.group q.group p.valid q.valid in
    p.made ∙ rw same (sym q.made)

of_once : (word : LineWord) (x : Made) (l : List ℕ) (a b : Made) → IsLineOf word x l a → IsLineOf word x l b → a ≡ b
of_once words.Plan x l a b p q = first_once x l a b p q
of_once words.Reads x l a b p q = reads_once x l a b p q
of_once words.Op x l a b p q = op_once x l a b p q
of_once words.Group x l a b p q = group_once x l a b p q
of_once words.Key x l a b p q = part_once words.Key x l a b p q
of_once words.Arg x l a b p q = part_once words.Arg x l a b p q
of_once words.State x l a b p q = part_once words.State x l a b p q
of_once words.Body x l a b p q = part_once words.Body x l a b p q
of_once words.Fold x l a b p q = fold_once x l a b p q
of_once words.Print x l a b p q = print_once x l a b p q
of_once words.Other x l a b p q = absurd p

pub makes_one : (x : Made) (l : List ℕ) (a b : Made) → IsLine x l a → IsLine x l b → a ≡ b
makes_one x l a b p q = of_once (line_word l) x l a b p q
