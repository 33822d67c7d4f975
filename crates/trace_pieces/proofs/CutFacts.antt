-- Where a text can be cut.
use Rattle.std.proofs.Common.{◌≡◌, ℕ, suc, zero, ◌+◌, ◌<◌, Bool, true, false, cond, List, [], ◌∷◌, ◌++◌, length, get_or, take, Option, None}
use Rattle.std.proofs.{Common.{Some, refl, ap, inl, inr, ◌∙◌, arith}, lemmas.{Bool.Decides.eqb_tells, List.take_more}}
use Rattle.std.specs.Prelude.{◌==◌, is_some}
use Rattle.memchr.specs.Find.{IsFirstByte, IsLastByte, is_byte}
use Rattle.csv.specs.{Machine.{after_end, ends_at_end, ends_with, in_field, start_field}, Reading.default_config}
use Rattle.csv.specs.declared.parser.{Action.Action, State.State}
use Rattle.csv.specs.declared.parser.State.TheVariants as st
use Rattle.csv.specs.declared.parser.Terminator.TheVariants as term
use Rattle.trace_pieces.specs.Machine.{IsCut, next_state, state_over}
use Rattle.trace_reader.proofs.RowFacts.{does}

over_push : (s : State) (text : List ℕ) (c : ℕ) → state_over s (text ++ c ∷ []) ≡ next_state (state_over s text) c
over_push s [] c = refl
over_push s (b ∷ text) c = over_push (next_state s b) text c

-- the state after one byte more
pub over_more : (s : State) (text : List ℕ) (n : ℕ) → n < length text → state_over s (take (n + 1) text) ≡ next_state
    (state_over s (take n text)) (get_or text n 0)
over_more s text n within = ap (state_over s) (take_more text n 0 within) ∙ over_push s (take n text) (get_or text n 0)

-- ---- texts without quotes

abbrev pub IsUnquoted : State → Type 0
IsUnquoted st.StartRecord = Unit {0}
IsUnquoted st.StartField = Unit {0}
IsUnquoted st.InField = Unit {0}
IsUnquoted st.AfterCr = Unit {0}
IsUnquoted s = ⊥

unquoted_if : (b : Bool) (x y : State × Action) → IsUnquoted x.0 → IsUnquoted y.0 → IsUnquoted (cond b x y).0
unquoted_if true x y p q = p
unquoted_if false x y p q = q

unquoted_end : (c : ℕ) → IsUnquoted (after_end term.CRLF c)
unquoted_end c = by (c == 13)
  where
    by : (b : Bool) → IsUnquoted (cond b st.AfterCr st.StartRecord)
    by true = tt
    by false = tt

unquoted_in_field : (c : ℕ) → IsUnquoted (in_field default_config c).0
unquoted_in_field c = unquoted_if (c == 44) _ _ tt (unquoted_if (ends_with term.CRLF c) _ _ (unquoted_end c) tt)

unquoted_start_field : (c : ℕ) → (c == 34) ≡ false → IsUnquoted (start_field default_config c).0
unquoted_start_field c e = rw e (unquoted_in_field c)

unquoted_start : (c : ℕ) → (c == 34) ≡ false → IsUnquoted (does st.StartRecord c).0
unquoted_start c e = unquoted_if (ends_with term.CRLF c) _ _ tt (unquoted_start_field c e)

unquoted_step : (s : State) (c : ℕ) → IsUnquoted s → (c == 34) ≡ false → IsUnquoted (next_state s c)
unquoted_step st.StartRecord c u e = unquoted_start c e
unquoted_step st.StartField c u e = unquoted_start_field c e
unquoted_step st.InField c u e = unquoted_in_field c
unquoted_step st.AfterCr c u e = unquoted_if (c == 10) _ _ tt (unquoted_start c e)
unquoted_step st.InQuoted c u e = absurd u
unquoted_step st.AfterQuote c u e = absurd u
unquoted_step st.InEscape c u e = absurd u
unquoted_step st.InComment c u e = absurd u

-- after a line feed it is between two records
fed : (s : State) → IsUnquoted s → ends_at_end (next_state s 10) ≡ false
fed st.StartRecord u = refl
fed st.StartField u = refl
fed st.InField u = refl
fed st.AfterCr u = refl
fed st.InQuoted u = absurd u
fed st.AfterQuote u = absurd u
fed st.InEscape u = absurd u
fed st.InComment u = absurd u

abbrev pub HasNoQuote : List ℕ → Type 0
HasNoQuote text = (k : ℕ) → k < length text → (get_or text k 0 == 34) ≡ true → ⊥

not_true : (b : Bool) → (b ≡ true → ⊥) → b ≡ false
not_true true never = absurd (never refl)
not_true false never = refl

unquoted_over : (s : State) (text : List ℕ) (n : ℕ) → HasNoQuote text → IsUnquoted s → IsUnquoted (state_over s (take n text))
unquoted_over s text zero none u = u
unquoted_over s [] (suc n) none u = u
unquoted_over s (c ∷ text) (suc n) none u =
    unquoted_over (next_state s c) text n (λ k within is. none (suc k) (omega arith) is)
    (unquoted_step s c u (not_true (c == 34) (none zero (omega arith))))

-- a text without quotes is cut after the end of a line
pub cut_after : (text : List ℕ) (n : ℕ) → HasNoQuote text → n < length text → get_or text n 0 ≡ 10 → IsCut text (n + 1)
cut_after text n none within feed = record {
  within = omega arith;
  between =
      ap ends_at_end (over_more st.StartRecord text n within ∙ ap (next_state (state_over st.StartRecord (take n text))) feed)
      ∙ fed (state_over st.StartRecord (take n text)) (unquoted_over st.StartRecord text n none tt);
}

pub cut_none : (text : List ℕ) → IsCut text 0
cut_none text = record { within = omega arith; between = refl }

-- what a search for a quote says
pub no_quote : (text : List ℕ) (found : Option ℕ) → is_some found ≡ false → IsFirstByte (is_byte 34) text found → HasNoQuote text
no_quote text None none first = λ k within is. first k (omega arith) within is
no_quote text (Some at) none first = absurd (cc none)

is_ten : (n : ℕ) → (n == 10) ≡ true → n ≡ 10
is_ten n e = elim (eqb_tells n 10) [
  | inl same ↦ same.1
  | inr differs ↦ absurd (cc (differs.0, e))
]

-- what a search for the end of a line says
pub cut_found : (text : List ℕ) (at : ℕ) → HasNoQuote text → IsLastByte (is_byte 10) text (Some at) → IsCut text (at + 1)
cut_found text at none last = cut_after text at none last.0.high (is_ten (get_or text at 0) last.1)
