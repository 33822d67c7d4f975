-- The fields of a line `reads`, taken in their order.
use Rattle.std.proofs.Common.{◌≡◌, ℕ, zero, suc, ◌+◌, ◌<◌, ◌≤◌, Bool, true, false, List, [], ◌∷◌, ◌++◌, map, refl, sym, ap, ◌∙◌}
use Rattle.std.proofs.Common.{get_or, length, subst}
use Rattle.std.proofs.{Common.{arith, rules, append_assoc}, lemmas.{List.Splits.length-slice_split, Bool.Decides.nat_tests}}
use Rattle.std.specs.{Prelude.{codes, nat_eq, if◌then◌else◌}, Str.bytes_eq}
use Rattle.marple_base.specs.declared.field.Field.{Field, TheVariants.{Switch, Qid, Uid, SrcIp, DstIp, SrcPort, DstPort, Proto, PktLen}}
use Rattle.marple_base.specs.declared.field.Field.TheVariants.{PayloadLen, TcpSeq, Tin, Tout, QSize}
use Rattle.marple_base.specs.Field.{all_fields, number_of, field_name}
use Rattle.marple_base.specs.declared.field.TheConstants.{FIELDS}
use Rattle.plan_file.{specs.{Lexis.{is_space, tokens}, Operations.{AreFrom, IsReadsLine}}, proofs.OperandFacts.number_below}

-- a field by its number, and by its name
abbrev numbered : ℕ → Field
numbered n = if nat_eq n 0 then Switch else if nat_eq n 1 then Qid else if nat_eq n 2 then Uid else if nat_eq n 3 then SrcIp else
    if nat_eq n 4 then DstIp else if nat_eq n 5 then SrcPort else if nat_eq n 6 then DstPort else if nat_eq n 7 then Proto else
    if nat_eq n 8 then PktLen else if nat_eq n 9 then PayloadLen else if nat_eq n 10 then TcpSeq else if nat_eq n 11 then Tin else
    if nat_eq n 12 then Tout else QSize

numbered_is : (f : Field) → numbered (number_of f) ≡ f
numbered_is Switch = refl
numbered_is _ = refl

abbrev named : List ℕ → Field
named text = if bytes_eq text (codes "switch") then Switch else if bytes_eq text (codes "qid") then Qid else
    if bytes_eq text (codes "uid") then Uid else if bytes_eq text (codes "srcip") then SrcIp else
    if bytes_eq text (codes "dstip") then DstIp else if bytes_eq text (codes "srcport") then SrcPort else
    if bytes_eq text (codes "dstport") then DstPort else if bytes_eq text (codes "proto") then Proto else
    if bytes_eq text (codes "pkt_len") then PktLen else if bytes_eq text (codes "payload_len") then PayloadLen else
    if bytes_eq text (codes "tcpseq") then TcpSeq else if bytes_eq text (codes "tin") then Tin else
    if bytes_eq text (codes "tout") then Tout else QSize

named_is : (f : Field) → named (field_name f) ≡ f
named_is Switch = refl
named_is _ = refl

same_number : (f g : Field) → number_of f ≡ number_of g → f ≡ g
same_number f g e = sym (numbered_is f) ∙ ap numbered e ∙ numbered_is g

pub same_name : (f g : Field) → field_name f ≡ field_name g → f ≡ g
same_name f g e = sym (named_is f) ∙ ap named e ∙ named_is g

-- fields whose numbers count up from this one
abbrev AreCounted : ℕ → List Field → Type 0
AreCounted n [] = Unit {0}
AreCounted n (f ∷ rest) = (number_of f ≡ n) × AreCounted (n + 1) rest

counted_at : (fields : List Field) (n i : ℕ) → AreCounted n fields → i < length fields → number_of (get_or fields i Switch) ≡ n + i
counted_at [] n i h lt = absurd (omega (arith, lt))
counted_at (f ∷ rest) n zero h lt = omega (arith, h.0)
counted_at (f ∷ rest) n (suc i) h lt = omega (arith, counted_at rest (n + 1) i h.1 (omega (arith, lt)))

-- the fields stand in the order of their numbers
pub number_at : (i : ℕ) → i < FIELDS → number_of (get_or all_fields i Switch) ≡ i
number_at i lt = omega (arith, counted_at all_fields 0 i (search rules) lt)

-- fields in their order, from one number on and below another
abbrev pub AreIn : ℕ → ℕ → List Field → Type 0
AreIn least most [] = least ≤ most
AreIn least most (f ∷ rest) = (least ≤ number_of f) × AreIn (number_of f + 1) most rest

in_more : (fields : List Field) (least most : ℕ) → AreIn least most fields → AreIn least (most + 1) fields
in_more [] least most h = omega (arith, h)
in_more (f ∷ rest) least most h = (h.0, in_more rest (number_of f + 1) most h.1)

in_with : (fields : List Field) (least most : ℕ) (f : Field) → AreIn least most fields → number_of f ≡ most
    → AreIn least (most + 1) (fields ++ f ∷ [])
in_with [] least most f h e = (omega (arith, h, e), omega (arith, e))
in_with (g ∷ rest) least most f h e = (h.0, in_with rest (number_of g + 1) most f h.1 e)

in_from : (fields : List Field) (least most : ℕ) → AreIn least most fields → AreFrom least fields
in_from [] least most h = tt
in_from (f ∷ rest) least most h = (h.0, in_from rest (number_of f + 1) most h.1)

-- What the fields below a number leave of a line: the fields found, and the tokens left.
pub record IsPassed (line : List ℕ) (found : List Field) (i : ℕ) (left : List (List ℕ)) : Type 0 where
  pub words : tokens line ≡ codes "reads" ∷ (map field_name found ++ left)
  pub order : AreIn 0 i found
  pub all : (fields : List Field) → IsReadsLine line fields → (more : List Field) × (fields ≡ found ++ more) × AreFrom i more
      × (map field_name more ≡ left)

tail_is : (a b : List ℕ) (xs ys : List (List ℕ)) → a ∷ xs ≡ b ∷ ys → xs ≡ ys
tail_is a b xs ys e = cc

head_is : (a b : List ℕ) (xs ys : List (List ℕ)) → a ∷ xs ≡ b ∷ ys → a ≡ b
head_is a b xs ys e = cc

skipped : (f : Field) (t : List ℕ) (ts : List (List ℕ)) (i : ℕ) → number_of f ≡ i → (t ≡ field_name f → ⊥)
    → (more : List Field) → AreFrom i more → map field_name more ≡ t ∷ ts → AreFrom (i + 1) more
skipped f t ts i e other [] order words = cc
skipped f t ts i e other (g ∷ rest) order words = by (nat_eq (number_of g) i) refl
  where
    by : (b : Bool) → nat_eq (number_of g) i ≡ b → AreFrom (i + 1) (g ∷ rest)
    by true b =
        let number : number_of g ≡ number_of f = grind (arith, nat_tests, e) in
        let same : g ≡ f = same_number g f number in
        absurd (other (sym (head_is (field_name g) t (map field_name rest) ts words) ∙ ap field_name same))
    by false b = (grind (arith, nat_tests, order.0), order.1)

none_more : (more : List Field) (i : ℕ) → map field_name more ≡ [] → AreFrom (i + 1) more
none_more [] i e = tt
none_more (f ∷ rest) i e = cc

-- no token is left
pub passed_end : (line : List ℕ) (found : List Field) (i : ℕ) → IsPassed line found i [] → IsPassed line found (i + 1) []
passed_end line found i p = record {
  words = p.words;
  order = in_more found 0 i p.order;
  all = λ fields valid. let a = p.all fields valid in (a.0, a.1, none_more a.0 i a.3, a.3);
}

-- the field isn't named
pub passed_other : (line : List ℕ) (found : List Field) (i : ℕ) (f : Field) (t : List ℕ) (ts : List (List ℕ))
    → IsPassed line found i (t ∷ ts) → number_of f ≡ i → (t ≡ field_name f → ⊥) → IsPassed line found (i + 1) (t ∷ ts)
passed_other line found i f t ts p e other = record {
  words = p.words;
  order = in_more found 0 i p.order;
  all = λ fields valid. let a = p.all fields valid in (a.0, a.1, skipped f t ts i e other a.0 a.2 a.3, a.3);
}

taken : (f : Field) (t : List ℕ) (ts : List (List ℕ)) (i : ℕ) (found fields : List Field) → number_of f ≡ i → t ≡ field_name f
    → (more : List Field) → fields ≡ found ++ more → AreFrom i more → map field_name more ≡ t ∷ ts
    → (rest : List Field) × (fields ≡ (found ++ f ∷ []) ++ rest) × AreFrom (i + 1) rest × (map field_name rest ≡ ts)
taken f t ts i found fields e name [] is order words = cc
taken f t ts i found fields e name (g ∷ rest) is order words =
    let same : g ≡ f = same_name g f (head_is (field_name g) t (map field_name rest) ts words ∙ name) in (
      rest,
      is ∙ ap (λ h. found ++ h ∷ rest) same ∙ sym (append_assoc found (f ∷ []) rest),
      subst (λ n. AreFrom (n + 1) rest) (ap number_of same ∙ e) order.1,
      tail_is (field_name g) t (map field_name rest) ts words,
    )

map_with : (found : List Field) (f : Field) (ts : List (List ℕ)) → map field_name found ++ field_name f
    ∷ ts ≡ map field_name (found ++ f ∷ []) ++ ts
map_with [] f ts = refl
map_with (g ∷ found) f ts = ap (λ rest. field_name g ∷ rest) (map_with found f ts)

-- the field is named
pub passed_with : (line : List ℕ) (found : List Field) (i : ℕ) (f : Field) (t : List ℕ) (ts : List (List ℕ))
    → IsPassed line found i (t ∷ ts) → number_of f ≡ i → t ≡ field_name f → IsPassed line (found ++ f ∷ []) (i + 1) ts
passed_with line found i f t ts p e name = record {
  words = p.words ∙ ap (λ h. codes "reads" ∷ (map field_name found ++ h ∷ ts)) name
      ∙ ap (λ rest. codes "reads" ∷ rest) (map_with found f ts);
  order = in_with found 0 i f p.order e;
  all = λ fields valid. let a = p.all fields valid in taken f t ts i found fields e name a.0 a.1 a.2 a.3;
}

nil_end : (xs : List (List ℕ)) → xs ++ [] ≡ xs
nil_end [] = refl
nil_end (x ∷ xs) = ap (λ rest. x ∷ rest) (nil_end xs)

pub passed_all : (line : List ℕ) (found : List Field) (i : ℕ) → IsPassed line found i [] → IsReadsLine line found
passed_all line found i p = record {
  words = p.words ∙ ap (λ rest. codes "reads" ∷ rest) (nil_end (map field_name found));
  order = in_from found 0 i p.order;
}

past_all : (more : List Field) (i : ℕ) (t : List ℕ) (ts : List (List ℕ)) → FIELDS ≤ i → AreFrom i more → map field_name more ≡ t ∷ ts → ⊥
past_all [] i t ts past order words = cc
past_all (f ∷ rest) i t ts past order words = omega (arith, number_below f, order.0, past)

-- a token is left after all fields
pub passed_none : (line : List ℕ) (found : List Field) (i : ℕ) (t : List ℕ) (ts : List (List ℕ)) → FIELDS ≤ i
    → IsPassed line found i (t ∷ ts) → (fields : List Field) → IsReadsLine line fields → ⊥
passed_none line found i t ts past p fields valid =
    let a = p.all fields valid in
    past_all a.0 i t ts past a.2 a.3

-- what an iteration over one field does, in each of its three ways
pub step_with : (line : List ℕ) (found new : List Field) (i : ℕ) (f : Field) (t : List ℕ) (left ts : List (List ℕ))
    → IsPassed line found i left → left ≡ t ∷ ts → number_of f ≡ i → t ≡ field_name f → new ≡ found ++ f ∷ [] → IsPassed line new (i + 1) ts
step_with line found new i f t left ts p is e name new_is =
    subst (λ xs. IsPassed line xs (i + 1) ts) (sym new_is) (passed_with line found i f t ts (subst (λ xs. IsPassed line found i xs) is p) e
    name)

pub step_other : (line : List ℕ) (found : List Field) (i : ℕ) (f : Field) (t : List ℕ) (left ts : List (List ℕ))
    → IsPassed line found i left → left ≡ t ∷ ts → number_of f ≡ i → (t ≡ field_name f → ⊥) → IsPassed line found (i + 1) left
step_other line found i f t left ts p is e other =
    subst (λ xs. IsPassed line found (i + 1) xs) (sym is) (passed_other line found i f t ts (subst (λ xs. IsPassed line found i xs) is p) e
    other)

pub step_end : (line : List ℕ) (found : List Field) (i : ℕ) (left : List (List ℕ)) → IsPassed line found i left → left ≡ []
    → IsPassed line found (i + 1) left
step_end line found i left p is = subst (λ xs. IsPassed line found (i + 1) xs) (sym is)
    (passed_end line found i (subst (λ xs. IsPassed line found i xs) is p))

-- tokens are left after all fields
pub left_over : (line text : List ℕ) (found : List Field) (i : ℕ) → FIELDS ≤ i → IsPassed line found i (tokens text) → (fields : List Field)
    → IsReadsLine line fields → ⊥
left_over line text found i past p = by (tokens text) refl p
  where
    by : (ts : List (List ℕ)) → tokens text ≡ ts → IsPassed line found i ts → (fields : List Field) → IsReadsLine line fields → ⊥
    by [] e q = absurd (omega (arith, ap length e, length-slice_split is_space text))
    by (t ∷ ts) e q = passed_none line found i t ts past q

-- equal texts
pub text_same : (a b : List ℕ) → bytes_eq a b ≡ true → a ≡ b
text_same [] [] e = refl
text_same [] (y ∷ b) e = cc
text_same (x ∷ a) [] e = cc
text_same (x ∷ a) (y ∷ b) e = by (nat_eq x y) refl e (text_same a b)
  where
    by : (t : Bool) → nat_eq x y ≡ t → bytes_eq (x ∷ a) (y ∷ b) ≡ true → (bytes_eq a b ≡ true → a ≡ b) → x ∷ a ≡ y ∷ b
    by true t f more =
        let same : x ≡ y = grind (arith, nat_tests) in
        let tail : a ≡ b = more (rw t at f) in
        cc
    by false t f more = cc (rw t at f)

text_itself : (a : List ℕ) → bytes_eq a a ≡ true
text_itself [] = refl
text_itself (x ∷ a) =
    let same : nat_eq x x ≡ true = grind (arith, nat_tests) in
    rw same (text_itself a)

pub text_other : (a b : List ℕ) → bytes_eq a b ≡ false → a ≡ b → ⊥
text_other a b e same =
    let yes : bytes_eq a b ≡ true = rw same (text_itself b) in
    cc
