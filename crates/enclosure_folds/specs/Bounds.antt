-- The bounds of a key, by the rows that a table has for it: one row for each of its epochs, with three states side by side.
use Rattle.std.specs.{Prelude.{◌≡◌, ℕ, Bool, true, List, [], ◌∷◌, map, flat_map, nat_eq}, Cmp.Lexicographic.pointwise}
use Rattle.epoch_model.specs.{Keys.ArgRow, declared.tables.Row.Row}
use Rattle.enclosure_folds.specs.States.{IsAtMost}
use Rattle.epoch_entry.specs.Triples.{first_third, second_third, last_third}

-- the last item, or this one if there is none
abbrev pub last_or : {A : Type 0} → A → List A → A
last_or d [] = d
last_or d (x ∷ xs) = last_or x xs

-- Of a key with one epoch both bounds are that epoch's first state. Of a key with more the low one is the second state of its last
-- epoch, and the high one the third. A state has n words.

abbrev pub low_bound : ℕ → List (List ℕ) → List ℕ
low_bound n [] = []
low_bound n (triple ∷ []) = first_third n triple
low_bound n (triple ∷ next ∷ more) = second_third n (last_or next more)

abbrev pub high_bound : ℕ → List (List ℕ) → List ℕ
high_bound n [] = []
high_bound n (triple ∷ []) = first_third n triple
high_bound n (triple ∷ next ∷ more) = last_third n (last_or next more)

-- whether bounds are marked exact: where they are equal in each word
abbrev pub is_exact : List ℕ → List ℕ → Bool
is_exact low high = pointwise nat_eq low high

-- a state lies between the bounds, word by word, and where these are marked exact both are that state
pub record Encloses (low high state : List ℕ) : Type 0 where
  pub above : IsAtMost low state
  pub below : IsAtMost state high
  pub exact : is_exact low high ≡ true → (low ≡ state) × (high ≡ state)

-- the words of table rows
abbrev pub row_words : List Row → List (List ℕ)
row_words rows = map (λ r. r.values) rows

-- the bounds that a key's table rows give enclose a state
abbrev pub RowsEnclose : ℕ → List Row → List ℕ → Type 0
RowsEnclose n rows state = Encloses (low_bound n (row_words rows)) (high_bound n (row_words rows)) state

-- the rows of all of a key's epochs
abbrev pub all_rows : List (List ArgRow) → List ArgRow
all_rows lists = flat_map (λ rows. rows) lists
