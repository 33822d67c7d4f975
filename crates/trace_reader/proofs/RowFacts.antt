-- The records of a text, byte by byte.
use Rattle.std.proofs.Common.{◌≡◌, ℕ, suc, zero, ◌≤◌, Bool, true, false, cond, List, [], ◌∷◌, ◌++◌, length, Some, None, refl, ap, ◌∙◌}
use Rattle.std.{proofs.Common.{add-one, arith}, specs.Prelude.{◌||◌, ◌==◌}}
use Rattle.csv.specs.Machine.{ends_at_end, field_after, fields_after, is_end, next_record, start_field, step}
use Rattle.csv.specs.{Reading.{default_config, records_from, records_next}, declared.parser.Action.Action}
use Rattle.csv.specs.declared.parser.Action.TheVariants as act
use Rattle.csv.specs.declared.parser.State.{State}
use Rattle.csv.specs.declared.parser.State.TheVariants as st
use Rattle.trace_reader.specs.Reading.{records_after}

-- what a byte does
abbrev pub does : State → ℕ → State × Action
does s c = step default_config s c

-- all records of a text from a state on, with the fields and the field at hand
unfoldable pub rows_from : State → List (List ℕ) → List ℕ → List ℕ → List (List (List ℕ))
rows_from s f p [] = cond (ends_at_end s) ((f ++ (p ∷ [])) ∷ []) []
rows_from s f p (c ∷ rest) =
    cond (is_end (does s c).1) (fields_after (does s c).1 f p ∷ rows_from (does s c).0 [] [] rest)
    (rows_from (does s c).0 (fields_after (does s c).1 f p) (field_after (does s c).1 c p) rest)

-- the reader's next record, and those after it, are these
pub next_rows : (n : ℕ) (s : State) (f : List (List ℕ)) (p text : List ℕ) → length text ≤ n
    → records_next (records_from default_config n) (next_record default_config s f p text) ≡ rows_from s f p text
unfolding next_record records_from rows_from
next_rows n s f p [] _ = by (ends_at_end s) n
  where
    by : (b : Bool) (n : ℕ) → records_next (records_from default_config n) (cond b (Some (f ++ (p ∷ []), st.StartRecord, [])) None) ≡ cond b
        ((f ++ (p ∷ [])) ∷ []) []
    by true zero = refl
    by true (suc n) = refl
    by false n = refl
next_rows zero s f p (c ∷ rest) short = absurd (omega arith)
next_rows (suc m) s f p (c ∷ rest) short =
    by (is_end (does s c).1) (next_rows m (does s c).0 [] [] rest (omega arith))
    (next_rows (suc m) (does s c).0 (fields_after (does s c).1 f p) (field_after (does s c).1 c p) rest (omega arith))
  where
    by : (b : Bool) → records_from default_config (suc m) (does s c).0 rest ≡ rows_from (does s c).0 [] [] rest
        → records_next (records_from default_config (suc m)) (next_record default_config (does s c).0 (fields_after (does s c).1 f p)
        (field_after (does s c).1 c p) rest)
        ≡ rows_from (does s c).0 (fields_after (does s c).1 f p) (field_after (does s c).1 c p) rest
        → records_next (records_from default_config (suc m))
        (cond b (Some (fields_after (does s c).1 f p, (does s c).0, rest))
        (next_record default_config (does s c).0 (fields_after (does s c).1 f p) (field_after (does s c).1 c p) rest))
        ≡ cond b (fields_after (does s c).1 f p ∷ rows_from (does s c).0 [] [] rest)
        (rows_from (does s c).0 (fields_after (does s c).1 f p) (field_after (does s c).1 c p) rest)
    by true ended _ = rw ended
    by false _ goes = goes

pub rows_are : (text : List ℕ) → records_after st.StartRecord text ≡ rows_from st.StartRecord [] [] text
unfolding records_from
rows_are text =
    ap (λ n. records_from default_config n st.StartRecord text) (add-one (length text))
    ∙ next_rows (length text) st.StartRecord [] [] text (omega arith)

-- ---- one byte more

pub going : (s : State) (f : List (List ℕ)) (p : List ℕ) (c : ℕ) (more : List ℕ) → is_end (does s c).1 ≡ false
    → rows_from s f p (c ∷ more) ≡ rows_from (does s c).0 (fields_after (does s c).1 f p) (field_after (does s c).1 c p) more
unfolding rows_from
going s f p c _ e = rw e

pub ending : (s : State) (f : List (List ℕ)) (p : List ℕ) (c : ℕ) (more : List ℕ) → is_end (does s c).1 ≡ true
    → rows_from s f p (c ∷ more) ≡ fields_after (does s c).1 f p ∷ rows_from (does s c).0 [] [] more
unfolding rows_from
ending s f p c _ e = rw e

-- a byte that does the same in two states
pub same_step : (s t : State) (f : List (List ℕ)) (p : List ℕ) (c : ℕ) (more : List ℕ) → does s c ≡ does t c
    → rows_from s f p (c ∷ more) ≡ rows_from t f p (c ∷ more)
unfolding rows_from
same_step s t f p c _ e =
    rw e

-- ---- a carriage return before a record changes nothing

pub cr_same : (c : ℕ) → does st.AfterCr c ≡ does st.StartRecord c
cr_same c = by (c == 10) (c == 13) (start_field default_config c)
  where
    by : (a b : Bool) (rest : State × Action)
        → cond a (st.StartRecord, act.Skip) (cond (b || a) (st.StartRecord, act.Skip) rest) ≡ cond (b || a) (st.StartRecord, act.Skip) rest
    by true true _ = refl
    by true false _ = refl
    by false true _ = refl
    by false false _ = refl

after_cr : (text : List ℕ) → rows_from st.AfterCr [] [] text ≡ rows_from st.StartRecord [] [] text
unfolding rows_from
after_cr [] = refl
after_cr (c ∷ rest) = same_step st.AfterCr st.StartRecord [] [] c rest (cr_same c)

pub from_between : (s : State) (text : List ℕ) → ends_at_end s ≡ false → rows_from s [] [] text ≡ rows_from st.StartRecord [] [] text
from_between st.StartRecord _ e = refl
from_between st.AfterCr text e = after_cr text
from_between st.StartField text e = absurd (cc e)
from_between st.InField text e = absurd (cc e)
from_between st.InQuoted text e = absurd (cc e)
from_between st.AfterQuote text e = absurd (cc e)
from_between st.InEscape text e = absurd (cc e)
from_between st.InComment text e = absurd (cc e)
