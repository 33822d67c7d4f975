-- The line of the names of fields.
use Rattle.std.proofs.Common.{◌≡◌, ℕ, ◌+◌, ◌<◌, ◌≤◌, List, [], ◌∷◌, ◌++◌, length, get_or, drop, map, refl, sym, ap, ◌∙◌, append_assoc}
use Rattle.std.proofs.Common.{append-nil, arith}
use Rattle.marple_base.specs.{Field.field_name, declared.field.Field.{Field, TheVariants.Switch}}
use Rattle.queue_sim.{specs.TraceText.{continued, joined, line}, proofs.TextFacts.{texts_end, texts_from}}

-- the first name, before the others
pub names_start : (fields : List Field) → 0 < length fields
    → field_name (get_or fields 0 Switch) ++ continued (drop 1 (map field_name fields)) ≡ joined (map field_name fields)
names_start [] some = absurd (omega arith)
names_start (f ∷ fields) some = refl

-- one name more
pub names_more : (fields : List Field) (text : List ℕ) (i : ℕ) → i < length fields
    → text ++ continued (drop i (map field_name fields)) ≡ joined (map field_name fields)
    → ((text ++ 44 ∷ []) ++ field_name (get_or fields i Switch)) ++ continued (drop (i + 1) (map field_name fields)) ≡ joined
    (map field_name fields)
names_more fields text i within so_far =
    let name = field_name (get_or fields i Switch) in
    let rest = continued (drop (i + 1) (map field_name fields)) in
    append_assoc (text ++ 44 ∷ []) name rest ∙ append_assoc text (44 ∷ []) (name ++ rest)
    ∙ ap (λ parts. text ++ continued parts) (sym (texts_from field_name fields i within)) ∙ so_far

-- all of them, and the line is whole
pub names_end : (fields : List Field) (text : List ℕ) (i : ℕ) → length fields ≤ i
    → text ++ continued (drop i (map field_name fields)) ≡ joined (map field_name fields) → text ++ 10 ∷ [] ≡ line (map field_name fields)
names_end fields text i all so_far =
    ap (λ t. t ++ 10 ∷ [])
    (sym (append-nil text) ∙ ap (λ parts. text ++ continued parts) (sym (texts_end field_name fields i all)) ∙ so_far)
