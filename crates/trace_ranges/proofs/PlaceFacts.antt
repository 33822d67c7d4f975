-- The places of a reader of CSV.
use Rattle.std.proofs.Common.{◌≡◌, ◌↔◌, ℕ, zero, suc, ◌+◌, ◌<◌, ◌==◌, Bool, true, false, cond, not, List, [], ◌∷◌, ◌++◌, length, get_or}
use Rattle.std.proofs.{Common.{take, drop, refl, sym, ap, ◌∙◌, inl, inr, arith, Some}, lemmas.Bool.Decides.eqb_tells}
use Rattle.std.proofs.lemmas.List.{take-append-drop, take_more}
use Rattle.memchr.specs.Find.{IsLastByte, is_byte}
use Rattle.csv.specs.{Machine.{after_end, ends_at_end, ends_with, in_field, start_field, start_record}, Reading.default_config}
use Rattle.csv.specs.declared.parser.{Action.Action, State.State}
use Rattle.csv.specs.declared.parser.State.TheVariants as st
use Rattle.csv.specs.declared.parser.Terminator.TheVariants as term
use Rattle.trace_pieces.{proofs.CutFacts.HasNoQuote, specs.{Machine.{next_state, state_of}, declared.scan.Place.Place}}
use Rattle.trace_pieces.specs.declared.scan.Place.TheVariants as place
use Rattle.trace_ranges.specs.Spots.{is_between, is_quoted, place_after, place_of, place_over}

-- ---- places and states

of_state : (at : Place) → place_of (state_of at) ≡ at
of_state place.Between = refl
of_state place.AfterReturn = refl
of_state place.FieldStart = refl
of_state place.InField = refl
of_state place.InQuotes = refl
of_state place.AfterQuote = refl

-- a place whose state is known
pub place_known : (at : Place) (s : State) → state_of at ≡ s → at ≡ place_of s
place_known at s e = sym (of_state at) ∙ ap place_of e

pub between_known : (found : Bool) (at : Place) → (found ≡ true) ↔ (ends_at_end (state_of at) ≡ false) → found ≡ is_between at
between_known found at tells = by found (ends_at_end (state_of at)) tells
  where
    by : (b e : Bool) → (b ≡ true) ↔ (e ≡ false) → b ≡ not e
    by true e tells = sym (ap not (tells.0 refl))
    by false true tells = refl
    by false false tells = tells.1 refl

-- states that are places
abbrev IsPlace : State → Type 0
IsPlace st.InEscape = ⊥
IsPlace st.InComment = ⊥
IsPlace s = Unit {0}

place_is : (s : State) → IsPlace s → state_of (place_of s) ≡ s
place_is st.StartRecord e = refl
place_is st.AfterCr e = refl
place_is st.StartField e = refl
place_is st.InField e = refl
place_is st.InQuoted e = refl
place_is st.AfterQuote e = refl
place_is st.InEscape e = absurd e
place_is st.InComment e = absurd e

if_place : (b : Bool) (x y : State × Action) → IsPlace x.0 → IsPlace y.0 → IsPlace (cond b x y).0
if_place true x y p q = p
if_place false x y p q = q

end_place : (c : ℕ) → IsPlace (after_end term.CRLF c)
end_place c = by (c == 13)
  where
    by : (b : Bool) → IsPlace (cond b st.AfterCr st.StartRecord)
    by true = tt
    by false = tt

in_field_place : (c : ℕ) → IsPlace (in_field default_config c).0
in_field_place c = if_place (c == 44) _ _ tt (if_place (ends_with term.CRLF c) _ _ (end_place c) tt)

start_field_place : (c : ℕ) → IsPlace (start_field default_config c).0
start_field_place c = if_place (c == 34) _ _ tt (in_field_place c)

start_record_place : (c : ℕ) → IsPlace (start_record default_config c).0
start_record_place c = if_place (ends_with term.CRLF c) _ _ tt (start_field_place c)

next_place : (at : Place) (c : ℕ) → IsPlace (next_state (state_of at) c)
next_place place.Between c = start_record_place c
next_place place.AfterReturn c = if_place (c == 10) _ _ tt (start_record_place c)
next_place place.FieldStart c = start_field_place c
next_place place.InField c = in_field_place c
next_place place.InQuotes c = if_place (c == 34) _ _ tt tt
next_place place.AfterQuote c = if_place (c == 34) _ _ tt (in_field_place c)

-- the state of the next place is the next state
pub state_after : (at : Place) (c : ℕ) → state_of (place_after at c) ≡ next_state (state_of at) c
state_after at c = place_is (next_state (state_of at) c) (next_place at c)

-- ---- bytes after bytes

pub over_push : (at : Place) (xs : List ℕ) (x : ℕ) → place_over at (xs ++ x ∷ []) ≡ place_after (place_over at xs) x
over_push at [] x = refl
over_push at (y ∷ xs) x = over_push (place_after at y) xs x

pub over_more : (at : Place) (bytes : List ℕ) (i : ℕ) → i < length bytes
    → place_over at (take (i + 1) bytes) ≡ place_after (place_over at (take i bytes)) (get_or bytes i 0)
over_more at bytes i within = ap (place_over at) (take_more bytes i 0 within) ∙ over_push at (take i bytes) (get_or bytes i 0)

over_append : (at : Place) (xs ys : List ℕ) → place_over at (xs ++ ys) ≡ place_over (place_over at xs) ys
over_append at [] ys = refl
over_append at (x ∷ xs) ys = over_append (place_after at x) xs ys

-- ---- texts without quotes

abbrev pub IsUnquoted : Place → Type 0
IsUnquoted place.InQuotes = ⊥
IsUnquoted place.AfterQuote = ⊥
IsUnquoted at = Unit {0}

pub unquoted_place : (at : Place) → is_quoted at ≡ false → IsUnquoted at
unquoted_place place.Between e = tt
unquoted_place place.AfterReturn e = tt
unquoted_place place.FieldStart e = tt
unquoted_place place.InField e = tt
unquoted_place place.InQuotes e = absurd (cc e)
unquoted_place place.AfterQuote e = absurd (cc e)

unquoted_if : (b : Bool) (x y : State × Action) → IsUnquoted (place_of x.0) → IsUnquoted (place_of y.0) → IsUnquoted (place_of (cond b x y).0)
unquoted_if true x y p q = p
unquoted_if false x y p q = q

unquoted_end : (c : ℕ) → IsUnquoted (place_of (after_end term.CRLF c))
unquoted_end c = by (c == 13)
  where
    by : (b : Bool) → IsUnquoted (place_of (cond b st.AfterCr st.StartRecord))
    by true = tt
    by false = tt

unquoted_in_field : (c : ℕ) → IsUnquoted (place_of (in_field default_config c).0)
unquoted_in_field c = unquoted_if (c == 44) _ _ tt (unquoted_if (ends_with term.CRLF c) _ _ (unquoted_end c) tt)

unquoted_start_field : (c : ℕ) → (c == 34) ≡ false → IsUnquoted (place_of (start_field default_config c).0)
unquoted_start_field c e = rw e (unquoted_in_field c)

unquoted_start : (c : ℕ) → (c == 34) ≡ false → IsUnquoted (place_of (start_record default_config c).0)
unquoted_start c e = unquoted_if (ends_with term.CRLF c) _ _ tt (unquoted_start_field c e)

unquoted_after : (at : Place) (c : ℕ) → IsUnquoted at → (c == 34) ≡ false → IsUnquoted (place_after at c)
unquoted_after place.Between c u e = unquoted_start c e
unquoted_after place.AfterReturn c u e = unquoted_if (c == 10) _ _ tt (unquoted_start c e)
unquoted_after place.FieldStart c u e = unquoted_start_field c e
unquoted_after place.InField c u e = unquoted_in_field c
unquoted_after place.InQuotes c u e = absurd u
unquoted_after place.AfterQuote c u e = absurd u

fed : (at : Place) → IsUnquoted at → place_after at 10 ≡ place.Between
fed place.Between u = refl
fed place.AfterReturn u = refl
fed place.FieldStart u = refl
fed place.InField u = refl
fed place.InQuotes u = absurd u
fed place.AfterQuote u = absurd u

not_true : (b : Bool) → (b ≡ true → ⊥) → b ≡ false
not_true true never = absurd (never refl)
not_true false never = refl

unquoted_over : (at : Place) (text : List ℕ) (n : ℕ) → HasNoQuote text → IsUnquoted at → IsUnquoted (place_over at (take n text))
unquoted_over at text zero none u = u
unquoted_over at [] (suc n) none u = u
unquoted_over at (c ∷ text) (suc n) none u =
    unquoted_over (place_after at c) text n (λ k within is. none (suc k) (omega arith) is)
    (unquoted_after at c u (not_true (c == 34) (none zero (omega arith))))

is_ten : (n : ℕ) → (n == 10) ≡ true → n ≡ 10
is_ten n e = elim (eqb_tells n 10) [
  | inl same ↦ same.1
  | inr differs ↦ absurd (cc (differs.0, e))
]

-- the last line feed of a text without quotes leads between two records
pub over_feed : (at : Place) (text : List ℕ) (n : ℕ) → HasNoQuote text → IsUnquoted at → IsLastByte (is_byte 10) text (Some n)
    → place_over place.Between (drop (n + 1) text) ≡ place_over at text
over_feed at text n none u last =
    let within : n < length text = last.0.high in
    let feed : get_or text n 0 ≡ 10 = is_ten (get_or text n 0) last.1 in
    let there : place_over at (take (n + 1) text) ≡ place.Between =
    over_more at text n within ∙ (ap (place_after (place_over at (take n text))) feed
    ∙ fed (place_over at (take n text)) (unquoted_over at text n none u)) in
    sym (ap (place_over at) (sym (take-append-drop (n + 1) text)) ∙ (over_append at (take (n + 1) text) (drop (n + 1) text)
    ∙ ap (λ p. place_over p (drop (n + 1) text)) there))
