-- The records of a text that is cut between two of them.
use Rattle.std.{proofs.Common.{◌≡◌, ℕ, Bool, true, false, cond, List, [], ◌∷◌, ◌++◌, refl, sym, ap, ◌∙◌}, specs.Prelude.{◌==◌}}
use Rattle.csv.specs.Machine.{after_end, ends_at_end, ends_with, field_after, fields_after, in_field, is_end, start_field, start_record}
use Rattle.csv.specs.{Reading.default_config, declared.parser.Action.Action}
use Rattle.csv.specs.declared.parser.Action.TheVariants as act
use Rattle.csv.specs.declared.parser.State.{State}
use Rattle.csv.specs.declared.parser.State.TheVariants as st
use Rattle.csv.specs.declared.parser.Terminator.TheVariants as term
use Rattle.trace_reader.proofs.RowFacts.{does, from_between, rows_are, rows_from}
use Rattle.trace_pieces.specs.Machine.{EndsBetween, rows, state_over}

-- ---- which steps lead between two records

-- no comment
abbrev pub IsPlain : State → Type 0
IsPlain st.InComment = ⊥
IsPlain s = Unit {0}

-- a step from a state leads to a plain state; where it ends no record and leads between two, it does so from between two, and does nothing
abbrev pub Leads : State → State × Action → Type 0
Leads s x = IsPlain x.0 × (is_end x.1 ≡ false → ends_at_end x.0 ≡ false → (x.1 ≡ act.Skip) × (ends_at_end s ≡ false))

leads_if : (s : State) (b : Bool) (x y : State × Action) → Leads s x → Leads s y → Leads s (cond b x y)
leads_if s true x y p q = p
leads_if s false x y p q = q

end_plain : (s : State) (c : ℕ) → Leads s (after_end term.CRLF c, act.EndRecord)
end_plain s c = (by (c == 13), λ e _. absurd (cc e))
  where
    by : (b : Bool) → IsPlain (cond b st.AfterCr st.StartRecord)
    by true = tt
    by false = tt

leads_in_field : (s : State) (c : ℕ) → Leads s (in_field default_config c)
leads_in_field s c =
    leads_if s (c == 44) _ _ (tt, λ _ e. absurd (cc e))
    (leads_if s (ends_with term.CRLF c) _ _ (end_plain s c) (tt, λ _ e. absurd (cc e)))

leads_start_field : (s : State) (c : ℕ) → Leads s (start_field default_config c)
leads_start_field s c = leads_if s (c == 34) _ _ (tt, λ _ e. absurd (cc e)) (leads_in_field s c)

leads_start_record : (s : State) (c : ℕ) → ends_at_end s ≡ false → Leads s (start_record default_config c)
leads_start_record s c between = leads_if s (ends_with term.CRLF c) _ _ (tt, λ _ _. (refl, between)) (leads_start_field s c)

pub leads : (s : State) (c : ℕ) → IsPlain s → Leads s (does s c)
leads st.StartRecord c plain = leads_start_record st.StartRecord c refl
leads st.StartField c plain = leads_start_field st.StartField c
leads st.InField c plain = leads_in_field st.InField c
leads st.InQuoted c plain = leads_if st.InQuoted (c == 34) _ _ (tt, λ _ e. absurd (cc e)) (tt, λ _ e. absurd (cc e))
leads st.InEscape c plain = (tt, λ _ e. absurd (cc e))
leads st.AfterQuote c plain = leads_if st.AfterQuote (c == 34) _ _ (tt, λ _ e. absurd (cc e)) (leads_in_field st.AfterQuote c)
leads st.InComment c plain = absurd plain
leads st.AfterCr c plain = leads_if st.AfterCr (c == 10) _ _ (tt, λ _ _. (refl, refl)) (leads_start_record st.AfterCr c refl)

-- between two records no field is at hand
pub record IsTidy (s : State) (f : List (List ℕ)) (p : List ℕ) : Type 0 where
  pub plain : IsPlain s
  pub none : ends_at_end s ≡ false → (f ≡ []) × (p ≡ [])

pub tidy_start : IsTidy st.StartRecord [] []
tidy_start = record { plain = tt; none = λ _. (refl, refl) }

pub tidy_end : (s : State) (c : ℕ) → IsPlain s → IsTidy (does s c).0 [] []
tidy_end s c plain = record { plain = (leads s c plain).0; none = λ _. (refl, refl) }

pub tidy_step : (s : State) (f : List (List ℕ)) (p : List ℕ) (c : ℕ) → IsTidy s f p → is_end (does s c).1 ≡ false
    → IsTidy (does s c).0 (fields_after (does s c).1 f p) (field_after (does s c).1 c p)
tidy_step s f p c tidy goes =
    let l = leads s c tidy.plain in record {
      plain = l.0;
      none = λ between.
          let skip = l.1 goes between in
          let none = tidy.none skip.1 in (
            ap (λ a. fields_after a f p) skip.0 ∙ none.0,
            ap (λ a. field_after a c p) skip.0 ∙ none.1,
          );
    }

-- ---- cuts

none_at : (s : State) (f : List (List ℕ)) (p : List ℕ) → ends_at_end s ≡ false → rows_from s f p [] ≡ []
unfolding rows_from
none_at s f p e = rw e refl

cut_rows : (s : State) (f : List (List ℕ)) (p a b : List ℕ) → IsTidy s f p → ends_at_end (state_over s a) ≡ false
    → rows_from s f p (a ++ b) ≡ rows_from s f p a ++ rows_from st.StartRecord [] [] b
unfolding rows_from
cut_rows s f p [] b tidy between =
    let none = tidy.none between in
    ap (λ f. rows_from s f p b) none.0 ∙ ap (λ p. rows_from s [] p b) none.1 ∙ from_between s b between
    ∙ ap (λ r. r ++ rows_from st.StartRecord [] [] b) (sym (none_at s f p between))
cut_rows s f p (c ∷ a) b tidy between =
    by (is_end (does s c).1) refl (cut_rows (does s c).0 [] [] a b (tidy_end s c tidy.plain) between)
    (λ goes. cut_rows (does s c).0 (fields_after (does s c).1 f p) (field_after (does s c).1 c p) a b (tidy_step s f p c tidy goes) between)
  where
    by : (e : Bool) → is_end (does s c).1 ≡ e
        → rows_from (does s c).0 [] [] (a ++ b) ≡ rows_from (does s c).0 [] [] a ++ rows_from st.StartRecord [] [] b
        → (is_end (does s c).1 ≡ false → rows_from (does s c).0 (fields_after (does s c).1 f p) (field_after (does s c).1 c p) (a ++ b)
        ≡ rows_from (does s c).0 (fields_after (does s c).1 f p) (field_after (does s c).1 c p) a ++ rows_from st.StartRecord [] [] b)
        → cond e (fields_after (does s c).1 f p ∷ rows_from (does s c).0 [] [] (a ++ b))
        (rows_from (does s c).0 (fields_after (does s c).1 f p) (field_after (does s c).1 c p) (a ++ b))
        ≡ cond e (fields_after (does s c).1 f p ∷ rows_from (does s c).0 [] [] a)
        (rows_from (does s c).0 (fields_after (does s c).1 f p) (field_after (does s c).1 c p) a)
        ++ rows_from st.StartRecord [] [] b
    by true e ended goes = ap (λ later. fields_after (does s c).1 f p ∷ later) ended
    by false e ended goes = goes e

-- The records of a text that is cut between two of them are those of both parts.
pub rows_cut : (a b : List ℕ) → EndsBetween a → rows (a ++ b) ≡ rows a ++ rows b
rows_cut a b between =
    rows_are (a ++ b) ∙ cut_rows st.StartRecord [] [] a b tidy_start between
    ∙ ap (λ r. r ++ rows_from st.StartRecord [] [] b) (sym (rows_are a)) ∙ ap (λ r. rows a ++ r) (sym (rows_are b))
