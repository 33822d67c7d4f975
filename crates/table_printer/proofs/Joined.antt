-- How a line goes on, part by part.
use Rattle.std.proofs.Common.{◌≡◌, ℕ, length, ◌==◌, sym, ap, ◌∙◌, List, [], ◌∷◌, ◌++◌, Bool, true, false, refl, append_assoc, append-nil}
use Rattle.std.proofs.{Common.{inl, inr, arith}, lemmas.{Bool.Decides.eqb_tells, List.Concat.flat_map-append}}
use Rattle.table_printer.specs.{TableText.{cells_continued, cells_joined}, Parts.parts_from}

no_parts : (begins : Bool) → parts_from begins [] ≡ []
no_parts true = refl
no_parts false = refl

-- one part, and then the others
part_first : (begins : Bool) (part : List ℕ) (rest : List (List ℕ)) → parts_from begins (part ∷ rest) ≡ parts_from begins (part ∷ [])
    ++ parts_from false rest
part_first true part rest = rw append-nil refl
part_first false part rest = ap (λ p. p ++ cells_continued rest) (sym (append-nil (44 ∷ part)))

-- A part is written: what is still to be written after it makes the whole.
pub written : (whole before after : List ℕ) (begins : Bool) (part : List ℕ) (left rest : List (List ℕ))
    → left ≡ part ∷ rest → before ++ parts_from begins left ≡ whole → after ≡ before ++ parts_from begins (part ∷ []) → after
    ++ parts_from false rest ≡ whole
written whole before after begins part left rest split so_far wrote =
    let first = part_first begins part rest in
    rw (wrote, append_assoc) (rw (split, first) at so_far)

-- Nothing is left to be written.
pub all_written : (whole before : List ℕ) (begins : Bool) (left : List (List ℕ)) → left ≡ [] → before ++ parts_from begins left ≡ whole
    → before ≡ whole
all_written whole before begins left none so_far = rw (none, no_parts begins, append-nil) at so_far

continued_append : (a b : List (List ℕ)) → cells_continued (a ++ b) ≡ cells_continued a ++ cells_continued b
continued_append a b = flat_map-append (λ part. 44 ∷ part) a b

abbrev is_none : List (List ℕ) → Bool
is_none [] = true
is_none (part ∷ parts) = false

no_length : (parts : List (List ℕ)) → (length parts == 0) ≡ is_none parts
no_length [] = refl
no_length (part ∷ parts) = elim (eqb_tells (length (part ∷ parts)) 0) [
  | inl same ↦ absurd (grind (arith, same.1))
  | inr differs ↦ differs.0
]

three : (keys middle others : List (List ℕ)) (part : List ℕ)
    → cells_joined ((keys ++ (part ∷ middle)) ++ others) ≡ (cells_joined keys ++ parts_from (is_none keys) (part ∷ middle))
    ++ cells_continued others
three [] middle others part = ap (λ rest. part ++ rest) (continued_append middle others)
    ∙ sym (append_assoc part (cells_continued middle) (cells_continued others))
three (key ∷ keys) middle others part =
    ap (λ rest. key ++ rest) (continued_append (keys ++ (part ∷ middle)) others
    ∙ ap (λ rest. rest ++ cells_continued others) (continued_append keys (part ∷ middle)))
    ∙ sym (append_assoc key (cells_continued keys ++ cells_continued (part ∷ middle)) (cells_continued others))
    ∙ ap (λ rest. rest ++ cells_continued others) (sym (append_assoc key (cells_continued keys) (cells_continued (part ∷ middle))))

-- keys, then a middle that begins the line where there is no key, and then the other parts
pub joined_three : (keys middle others : List (List ℕ)) (part : List ℕ) (begins : Bool) → begins ≡ (length keys == 0)
    → cells_joined ((keys ++ (part ∷ middle)) ++ others) ≡ (cells_joined keys ++ parts_from begins (part ∷ middle))
    ++ cells_continued others
joined_three keys middle others part begins empty =
    rw (empty, no_length) (three keys middle others part)
