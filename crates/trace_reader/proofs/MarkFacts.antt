-- The byte order mark at the start of a text, and the places between two records.
use Rattle.std.proofs.Common.{◌≡◌, ℕ, ◌+◌, ◌-◌, ◌<◌, ◌≤◌, true, false, List, [], ◌∷◌, length, get_or, drop, refl, sym, ap, subst, ◌∙◌, inl}
use Rattle.std.{proofs.{Common.{inr, arith}, lemmas.{Bool.Decides.eqb_tells, List.drop_more}}, specs.Prelude.{◌==◌}}
use Rattle.csv.specs.Reading.{is_bom, strip_bom}
use Rattle.csv.specs.declared.parser.State.TheVariants as st
use Rattle.trace_reader.{specs.{Plain.ends_line, Reading.{records, records_after}}, proofs.PlainFacts.skip_line_end}

pub mark_goes : (text : List ℕ) → 3 ≤ length text → is_bom (get_or text 0 0) (get_or text 1 0) (get_or text 2 0) ≡ true
    → drop 3 text ≡ strip_bom text
unfolding strip_bom
mark_goes [] long is = absurd (omega arith)
mark_goes (a ∷ []) long is = absurd (omega arith)
mark_goes (a ∷ b ∷ []) long is = absurd (omega arith)
mark_goes (a ∷ b ∷ c ∷ _) _ is = rw is

pub no_mark : (text : List ℕ) → 3 ≤ length text → is_bom (get_or text 0 0) (get_or text 1 0) (get_or text 2 0) ≡ false
    → text ≡ strip_bom text
unfolding strip_bom
no_mark [] long is = absurd (omega arith)
no_mark (a ∷ []) long is = absurd (omega arith)
no_mark (a ∷ b ∷ []) long is = absurd (omega arith)
no_mark (a ∷ b ∷ c ∷ _) _ is = rw is

pub short_stays : (text : List ℕ) → length text < 3 → text ≡ strip_bom text
unfolding strip_bom
short_stays [] _ = refl
short_stays (a ∷ []) _ = refl
short_stays (a ∷ b ∷ []) _ = refl
short_stays (a ∷ b ∷ c ∷ rest) short = absurd (omega arith)

-- no mark begins with another byte
pub first_plain : (a : ℕ) (rest : List ℕ) → (a == 239) ≡ false → strip_bom (a ∷ rest) ≡ a ∷ rest
unfolding strip_bom
first_plain a [] e = refl
first_plain a (b ∷ []) e = refl
first_plain a (b ∷ c ∷ _) e = rw e

line_end_plain : (c : ℕ) → ends_line c ≡ true → (c == 239) ≡ false
line_end_plain c ends =
    elim (eqb_tells c 239) [
      | inl same ↦ let there = subst (λ n. ends_line n ≡ true) same.1 ends in absurd (cc there)
      | inr differs ↦ differs.0
    ]

-- the records from the end of the line before on are those from the place on
pub after_line : (text : List ℕ) (at : ℕ) → 0 < at → at ≤ length text → ends_line (get_or text (at - 1) 0) ≡ true
    → records (drop (at - 1) text) ≡ records_after st.StartRecord (drop at text)
after_line text at some within ends =
    let here : at - 1 < length text = omega arith in
    let next : at - 1 + 1 ≡ at = omega arith in
    let first = drop_more text (at - 1) 0 here in
    let plain =
    ap strip_bom first ∙ first_plain (get_or text (at - 1) 0) (drop (at - 1 + 1) text) (line_end_plain (get_or text (at - 1) 0) ends)
    ∙ sym first in
    rw (plain, skip_line_end text (at - 1) here ends, next)
