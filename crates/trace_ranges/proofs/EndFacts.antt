-- What a range keeps ends between two records, or the next range keeps nothing.
use Rattle.std.proofs.Common.{◌≡◌, ◌⊎◌, ℕ, ◌-◌, ◌≤◌, Bool, true, false, cond, not, List, [], ◌∷◌, refl, sym, ap, ◌∙◌, subst, inl, inr}
use Rattle.std.proofs.Common.{arith}
use Rattle.csv.specs.{Machine.ends_at_end, declared.parser.State.State}
use Rattle.csv.specs.declared.parser.State.TheVariants as st
use Rattle.trace_reader.proofs.RowFacts.{cr_same}
use Rattle.trace_pieces.specs.{Machine.{next_state, state_of, state_over}, declared.scan.Place.Place}
use Rattle.trace_ranges.{specs.{Ranges.{begins, kept}, Spots.{is_between, place_after}}, proofs.PlaceFacts.state_after}
use Rattle.trace_ranges.proofs.{RangeFacts.{AreApart, apart_after}, WindowFacts.{begun, past_kept}}

-- the same state, or both between two records
abbrev AreLike : State → State → Type 0
AreLike s t = (s ≡ t) ⊎ ((ends_at_end s ≡ false) × (ends_at_end t ≡ false))

from_start : (s : State) (c : ℕ) → ends_at_end s ≡ false → next_state s c ≡ next_state st.StartRecord c
from_start st.StartRecord c e = refl
from_start st.AfterCr c e = ap (λ x. x.0) (cr_same c)
from_start st.StartField c e = absurd (cc e)
from_start st.InField c e = absurd (cc e)
from_start st.InQuoted c e = absurd (cc e)
from_start st.AfterQuote c e = absurd (cc e)
from_start st.InEscape c e = absurd (cc e)
from_start st.InComment c e = absurd (cc e)

like_next : (s t : State) (c : ℕ) → AreLike s t → next_state s c ≡ next_state t c
like_next s t c like = elim like [
  | inl same ↦ ap (λ x. next_state x c) same
  | inr both ↦ from_start s c both.0 ∙ sym (from_start t c both.1)
]

-- the state of a reader that reads only what a range keeps: that of the place, where bytes are kept
abbrev pub IsReader : Bool → State → Place → Type 0
IsReader true s at = AreLike s (state_of at)
IsReader false s at = ends_at_end s ≡ false

between_place : (at : Place) → is_between at ≡ true → ends_at_end (state_of at) ≡ false
between_place at e = by (ends_at_end (state_of at)) e
  where
    by : (b : Bool) → not b ≡ true → b ≡ false
    by false e = refl
    by true e = absurd (cc e)

-- the reader after a byte that is kept
kept_reader : (at : Place) (s : State) (c : ℕ) (b later : Bool) → AreLike s (state_of at) → is_between (place_after at c) ≡ b
    → IsReader (cond b later true) (next_state s c) (place_after at c)
kept_reader at s c true true like e = inl (like_next s (state_of at) c like ∙ sym (state_after at c))
kept_reader at s c true false like e =
    ap ends_at_end (like_next s (state_of at) c like ∙ sym (state_after at c)) ∙ between_place (place_after at c) e
kept_reader at s c false later like e = inl (like_next s (state_of at) c like ∙ sym (state_after at c))

-- and after one that isn't
passed_reader : (at : Place) (s : State) (c : ℕ) (b later : Bool) → ends_at_end s ≡ false → is_between (place_after at c) ≡ b
    → IsReader (cond b later false) s (place_after at c)
passed_reader at s c true true between e = inr (between, between_place (place_after at c) e)
passed_reader at s c true false between e = between
passed_reader at s c false later between e = between

abbrev EndsOrNone : List ℕ → Type 0
EndsOrNone bytes = (at : Place) (s : State) (first second : Bool) (from middle to : ℕ) → from ≤ middle → AreApart first second middle
    → IsReader first s at
    → (ends_at_end (state_over s (kept (begun at first from middle) bytes)) ≡ false) ⊎ (kept (begun at second middle to) bytes ≡ [])

pub ends_or_none : (bytes : List ℕ) → EndsOrNone bytes
unfolding kept
ends_or_none [] at s first second from middle to below apart reader = inr refl
ends_or_none (c ∷ rest) at s first true from middle to below apart reader =
    let none = past_kept (begun at first from middle) (c ∷ rest) (apart refl).0 (apart refl).1 in
    let between : ends_at_end s ≡ false = subst (λ b. IsReader b s at) (apart refl).0 reader in
    inl (ap (λ xs. ends_at_end (state_over s xs)) none ∙ between)
ends_or_none (c ∷ rest) at s true false from middle to below apart reader =
    let cut = is_between (place_after at c) in
    ends_or_none rest (place_after at c) (next_state s c) (cond cut (begins (from - 1) (middle - 1)) true)
    (cond cut (begins (middle - 1) (to - 1)) false) (from - 1) (middle - 1) (to - 1) (omega (arith, below))
    (apart_after cut true false from middle to below apart)
    (kept_reader at s c cut (begins (from - 1) (middle - 1)) reader refl)
ends_or_none (c ∷ rest) at s false false from middle to below apart reader =
    let cut = is_between (place_after at c) in
    ends_or_none rest (place_after at c) s (cond cut (begins (from - 1) (middle - 1)) false)
    (cond cut (begins (middle - 1) (to - 1)) false) (from - 1) (middle - 1) (to - 1) (omega (arith, below))
    (apart_after cut false false from middle to below apart)
    (passed_reader at s c cut (begins (from - 1) (middle - 1)) reader refl)

-- a reader at its beginning, where the header has ended
pub first_reader : (keeps : Bool) (at : Place) → is_between at ≡ true → IsReader keeps st.StartRecord at
first_reader true at e = inr (refl, between_place at e)
first_reader false at e = refl
