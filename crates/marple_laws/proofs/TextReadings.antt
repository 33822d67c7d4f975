-- Every text is valid, or it is refused at some place.
use Rattle.marple_laws.proofs.Words
use Words.{◌≡◌, ℕ, suc, ◌<◌, ◌≤◌, List, [], ◌∷◌, length, take, Some, refl, inl, inr, arith, Checked, BadPlan, Made, bytes_after_lines}
use Words.{lines, start_of_line, IsLine, IsValidAfter, nothing, IsBadAt, Make, MAX_PLAN, EveryTextIsRead, IsReadingOf}
use Rattle.marple_laws.proofs.{Decisions.{Decided, is_empty, most}, LineDecisions.valid_after}
use Rattle.std.specs.Prelude.{◌⊎◌, Ok, Err, slice_get}

-- the first line that is not valid after those before it
record IsBadIn (ls : List (List ℕ)) (first : Made) (i : ℕ) : Type 0 where
  before : Made
  valid_before : Make (take i ls) first before
  line : List ℕ
  is : slice_get ls i ≡ Some line
  bad : IsValidAfter before line → ⊥

-- lines are all valid, or there is a first one that is not
abbrev Reached : List (List ℕ) → Made → Type 0
Reached ls first = ((after : Made) × Make ls first after) ⊎ ((i : ℕ) × IsBadIn ls first i)

reached : (ls : List (List ℕ)) {first : Made} → Reached ls first
reached [] {first} = inl (first, refl)
reached (line ∷ ls) {first} = by (λ next. reached ls) (valid_after first line)
  where
    beyond : (next : Made) → IsLine first line next → Reached ls next → Reached (line ∷ ls) first
    beyond next valid (inl (after, rest)) = inl (after, (next, valid, rest))
    beyond next valid (inr (i, b)) = inr (
      suc i,
      record {
        before = b.before;
        valid_before = (next, valid, b.valid_before);
        line = b.line;
        is = b.is;
        bad = b.bad;
      },
    )

    by : ((next : Made) → Reached ls next) → Decided (IsValidAfter first line) → Reached (line ∷ ls) first
    by rest (inl (next, valid)) = beyond _ valid (rest next)
    by rest (inr bad) = inr (0, record { before = first; valid_before = refl; line = line; is = refl; bad = bad })

some_items : {A : Type 0} (xs : List A) → (xs ≡ [] → ⊥) → 0 < length xs
some_items [] none = absurd (none refl)
some_items (x ∷ xs) none = omega arith

pub every_text : EveryTextIsRead
every_text text = by_size (most (length text) MAX_PLAN)
  where
    refuse : (place : ℕ) → IsBadAt text place → (found : Checked Made) × IsReadingOf text found
    refuse place bad = (Err (record { kind = BadPlan; span = record { start = place; end = place } }), (refl, bad, refl))

    ends : (plan : Made) → length text ≤ MAX_PLAN → Make (lines text) nothing plan → Decided (bytes_after_lines text ≡ [])
        → Decided (plan.prints ≡ []) → (found : Checked Made) × IsReadingOf text found
    ends plan size valid (inr more) printed = refuse (length text) (inr
        (size, inr (record { plan = plan; valid = valid; bad = inl (some_items (bytes_after_lines text) more) }, refl)))
    ends plan size valid (inl whole) (inl none) = refuse (length text)
        (inr (size, inr (record { plan = plan; valid = valid; bad = inr none }, refl)))
    ends plan size valid (inl whole) (inr some) = (
      Ok plan,
      record {
        size = size;
        valid = valid;
        ended = whole;
        printed = some_items plan.prints some;
      },
    )

    by_lines : length text ≤ MAX_PLAN → Reached (lines text) nothing → (found : Checked Made) × IsReadingOf text found
    by_lines size (inl (plan, valid)) = ends plan size valid (is_empty (bytes_after_lines text)) (is_empty plan.prints)
    by_lines size (inr (i, b)) =
        refuse (start_of_line text i)
        (inr (size, inl (i, record { before = b.before; valid_before = b.valid_before; line = b.line; is = b.is; bad = b.bad }, refl)))

    by_size : Decided (length text ≤ MAX_PLAN) → (found : Checked Made) × IsReadingOf text found
    by_size (inl size) = by_lines size (reached (lines text))
    by_size (inr long) = refuse MAX_PLAN (inl (omega arith, refl))
