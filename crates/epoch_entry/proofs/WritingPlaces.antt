-- A word that is written at the next place of an ascending list of places.
use Rattle.std.proofs.Common.{◌≡◌, ◌≢◌, ℕ, ◌+◌, ◌<◌, List, length, slice_index, ◌∙◌, arith, below_more, get_or-set_other, get_or-set_same}
use Rattle.std.proofs.{Common.sym, Math.ListN.set}
use Rattle.epoch_entry.specs.Shape.{IsAscending}

pub next_written : (places state : List ℕ) (r w : ℕ) (f : ℕ → ℕ) → IsAscending places → r < length places
    → slice_index places r < length state → ((i : ℕ) → i < r → slice_index state (slice_index places i) ≡ f i) → w ≡ f r
    → (i : ℕ) → i < r + 1 → slice_index (set state (slice_index places r) w) (slice_index places i) ≡ f i
next_written places state r w f up within room before here = below_more _ _
    (λ i h. let lower = up i r h within in let ne : slice_index places i ≢ slice_index places r = omega arith in
    get_or-set_other state (slice_index places r) (slice_index places i) w 0 ne ∙ before i h)
    (get_or-set_same state (slice_index places r) w 0 room ∙ here)

pub others_stay : (places state first : List ℕ) (r w : ℕ)
    → ((v : ℕ) → ((i : ℕ) → i < r → slice_index places i ≢ v) → slice_index state v ≡ slice_index first v)
    → (v : ℕ) → ((i : ℕ) → i < r + 1 → slice_index places i ≢ v) → slice_index (set state
    (slice_index places r) w) v ≡ slice_index first v
others_stay places state first r w before v apart =
    let here = apart r (omega arith) in
    let ne : v ≢ slice_index places r = λ e. here (sym e) in
    get_or-set_other state (slice_index places r) v w 0 ne ∙ before v (λ i h. apart i (omega arith))

-- the next word is as at first
pub next_stays : (places state first : List ℕ) (r : ℕ) → IsAscending places → r < length places
    → ((v : ℕ) → ((i : ℕ) → i < r → slice_index places i ≢ v) → slice_index state v ≡ slice_index first v)
    → slice_index state (slice_index places r) ≡ slice_index first (slice_index places r)
next_stays places state first r up within kept = kept (slice_index places r) (λ i h.
    let lower = up i r h within in let ne : slice_index places i ≢ slice_index places r = omega arith in ne)
