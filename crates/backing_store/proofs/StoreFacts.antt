-- The entries of the map, as a store's keys.
use Rattle.std.proofs.Common.{◌≡◌, ℕ, suc, zero, ◌<◌, Bool, true, false, List, [], ◌∷◌, ◌++◌, length, map, slice_get, length-append, Some}
use Rattle.std.proofs.{Common.{None, refl, sym, ap, ◌∙◌, ◌⊎◌, inl, inr, arith, eq-eqb}, lemmas.Bool.ne_eqb}
use Rattle.std.{proofs.lemmas.Option.{none-some, same_Some, slice_get_past}, specs.{Prelude.{◌==◌, ◌||◌}, Map.{lookup, values_of}}}
use Rattle.epoch_model.{specs.Keys.key_eq, proofs.KeyLists.key_eq-refl}
use Rattle.backing_store.specs.Store.{IsLastIn, counted, number_of, one_more, row_keys, with_epoch, StoredRow}
use Rattle.backing_store.specs.{declared.store.Merged.Merged, StoreView.{SoundFor, store_with, stored}}

-- the entries with another value at a place
abbrev pub set_value_at : List (List ℕ × Merged) → ℕ → Merged → List (List ℕ × Merged)
set_value_at [] at value = []
set_value_at (e ∷ es) zero value = (e.0, value) ∷ es
set_value_at (e ∷ es) (suc at) value = e ∷ set_value_at es at value

abbrev pub Entry : Type 0
Entry = List ℕ × Merged

-- the first entry of the key is at this place
abbrev pub FirstAt : List ℕ → List Entry → ℕ → Type 0
FirstAt key [] i = ⊥
FirstAt key (e ∷ es) zero = key_eq key e.0 ≡ true
FirstAt key (e ∷ es) (suc i) = (key_eq key e.0 ≡ false) × FirstAt key es i

pub number_at : (key : List ℕ) (es : List Entry) (i : ℕ) → FirstAt key es i → number_of (map stored es) key ≡ i
number_at key [] i first = absurd first
number_at key (e ∷ es) zero first = rw first refl
number_at key (e ∷ es) (suc i) first = rw (first.0, number_at key es i first.1) (omega arith)

pub with_epoch_at : (key : List ℕ) (es : List Entry) (i : ℕ) (was now : Merged) → FirstAt key es i → slice_get (values_of es) i ≡ Some was
    → now.epochs ≡ one_more was.epochs
    → with_epoch (map stored es) key ≡ map stored (set_value_at es i now)
with_epoch_at key [] i was now first at more = absurd first
with_epoch_at key (e ∷ es) zero was now first at more =
    let same : e.1 ≡ was = same_Some _ _ at in
    rw (first, more, ← same) refl
with_epoch_at key (e ∷ es) (suc i) was now first at more = rw first.0 (ap (λ rest. stored e ∷ rest)
    (with_epoch_at key es i was now first.1 at more))

-- where it doesn't
pub absent_number : (key : List ℕ) (es : List Entry) → lookup (λ k. key_eq key k) es ≡ None → number_of (map stored es) key ≡ length es
absent_number key [] none = refl
absent_number key (e ∷ es) none = by (key_eq key e.0) refl (absent_number key es)
  where
    by : (b : Bool) → key_eq key e.0 ≡ b → (lookup (λ k. key_eq key k) es ≡ None → number_of (map stored es) key ≡ length es)
        → number_of (map stored (e ∷ es)) key ≡ length (e ∷ es)
    by true p more = cc (rw p at none)
    by false p more = rw (p, more (rw p at none)) (omega arith)

pub absent_epoch : (key : List ℕ) (es : List Entry) → lookup (λ k. key_eq key k) es ≡ None
    → with_epoch (map stored es) key ≡ map stored es ++ record { key = key; epochs = 1 } ∷ []
absent_epoch key [] none = refl
absent_epoch key (e ∷ es) none = by (key_eq key e.0) refl (absent_epoch key es)
  where
    by : (b : Bool) → key_eq key e.0 ≡ b → (lookup (λ k. key_eq key k) es ≡ None → with_epoch (map stored es) key ≡ map stored es
        ++ record { key = key; epochs = 1 } ∷ [])
        → with_epoch (map stored (e ∷ es)) key ≡ map stored (e ∷ es) ++ record { key = key; epochs = 1 } ∷ []
    by true p more = cc (rw p at none)
    by false p more = rw p (ap (λ rest. stored e ∷ rest) (more (rw p at none)))

-- a new last row
pub last_push : (numbers : List ℕ) (n : ℕ) → IsLastIn (numbers ++ n ∷ []) n (length numbers)
last_push numbers n = record {
  here = get_pushed numbers n;
  last = λ later after e. none-some n (sym (slice_get_past (numbers ++ n ∷ []) later (omega (arith, length-append numbers (n ∷ [])))) ∙ e);
}
  where
    get_pushed : (xs : List ℕ) (n : ℕ) → slice_get (xs ++ n ∷ []) (length xs) ≡ Some n
    get_pushed [] n = refl
    get_pushed (x ∷ xs) n = get_pushed xs n

-- a new row of another key
pub last_other : (numbers : List ℕ) (n m place : ℕ) → IsLastIn numbers n place → (m ≡ n → ⊥) → IsLastIn (numbers ++ m ∷ []) n place
last_other numbers n m place was other = record {
  here = kept numbers m place n was.here;
  last = λ later after e. only numbers m later n e other (was.last later after);
}
  where
    kept : (xs : List ℕ) (m i n : ℕ) → slice_get xs i ≡ Some n → slice_get (xs ++ m ∷ []) i ≡ Some n
    kept [] m i n e = cc e
    kept (x ∷ xs) m zero n e = e
    kept (x ∷ xs) m (suc i) n e = kept xs m i n e

    only : (xs : List ℕ) (m i n : ℕ) → slice_get (xs ++ m ∷ []) i ≡ Some n → (m ≡ n → ⊥) → (slice_get xs i ≡ Some n → ⊥) → ⊥
    only [] m zero n e other not_here = other (same_Some _ _ e)
    only [] m (suc i) n e other not_here = none-some n e
    only (x ∷ xs) m zero n e other not_here = not_here e
    only (x ∷ xs) m (suc i) n e other not_here = only xs m i n e other not_here

value_set_cases : (es : List Entry) (at n : ℕ) (now m : Merged) → slice_get (values_of (set_value_at es at now)) n ≡ Some m
    → ((n ≡ at) × (m ≡ now)) ⊎ ((at ≡ n → ⊥) × (slice_get (values_of es) n ≡ Some m))
value_set_cases [] at n now m e = cc e
value_set_cases (x ∷ es) zero zero now m e = inl (refl, sym (same_Some _ _ e))
value_set_cases (x ∷ es) zero (suc n) now m e = inr ((λ q. absurd (omega (arith, q))), e)
value_set_cases (x ∷ es) (suc at) zero now m e = inr ((λ q. absurd (omega (arith, q))), e)
value_set_cases (x ∷ es) (suc at) (suc n) now m e = elim (value_set_cases es at n now m e) [
  | inl h ↦ inl (ap suc h.0, h.1)
  | inr h ↦ inr ((λ q. h.0 (omega (arith, q))), h.1)
]

value_push_cases : (es : List Entry) (k : List ℕ) (n : ℕ) (now m : Merged) → slice_get (values_of (es ++ (k, now) ∷ [])) n ≡ Some m
    → ((n ≡ length es) × (m ≡ now)) ⊎ ((length es ≡ n → ⊥) × (slice_get (values_of es) n ≡ Some m))
value_push_cases [] k zero now m e = inl (refl, sym (same_Some _ _ e))
value_push_cases [] k (suc n) now m e = cc e
value_push_cases (x ∷ es) k zero now m e = inr ((λ q. absurd (omega (arith, q))), e)
value_push_cases (x ∷ es) k (suc n) now m e = elim (value_push_cases es k n now m e) [
  | inl h ↦ inl (ap suc h.0, h.1)
  | inr h ↦ inr ((λ q. h.0 (omega (arith, q))), h.1)
]

pub sound_again : (es : List Entry) (rows : List StoredRow) (at : ℕ) (was now : Merged) → SoundFor es rows
    → slice_get (values_of es) at ≡ Some was → now.last ≡ was.last
    → SoundFor (set_value_at es at now) rows
sound_again es rows at was now sound here same number merged e = elim (value_set_cases es at number now merged e) [
  | inl h ↦ rw (h.1, same, h.0) (sound at was here)
  | inr h ↦ sound number merged h.1
]

-- with a new row
row_keys_push : (rows : List StoredRow) (row : StoredRow) → row_keys (rows ++ row ∷ []) ≡ row_keys rows ++ row.key ∷ []
row_keys_push [] row = refl
row_keys_push (r ∷ rows) row = ap (λ rest. r.key ∷ rest) (row_keys_push rows row)

length-row_keys : (rows : List StoredRow) → length (row_keys rows) ≡ length rows
length-row_keys [] = refl
length-row_keys (r ∷ rows) = ap suc (length-row_keys rows)

last_of_push : (rows : List StoredRow) (row : StoredRow) → IsLastIn (row_keys (rows ++ row ∷ [])) row.key (length rows)
last_of_push rows row = rw (row_keys_push rows row, ← length-row_keys rows) (last_push (row_keys rows) row.key)

pub sound_row : (es : List Entry) (rows : List StoredRow) (row : StoredRow) (now : Merged) → SoundFor es rows → now.last ≡ length rows
    → SoundFor (set_value_at es row.key now) (rows ++ row ∷ [])
sound_row es rows row now sound place number merged e = elim (value_set_cases es row.key number now merged e) [
  | inl h ↦ rw (h.1, place, h.0) (last_of_push rows row)
  | inr h ↦ rw (row_keys_push rows row) (last_other (row_keys rows) number row.key merged.last (sound number merged h.1) h.0)
]

pub sound_first : (es : List Entry) (rows : List StoredRow) (row : StoredRow) (k : List ℕ) (now : Merged) → SoundFor es rows
    → now.last ≡ length rows → row.key ≡ length es
    → SoundFor (es ++ (k, now) ∷ []) (rows ++ row ∷ [])
sound_first es rows row k now sound place key number merged e = elim (value_push_cases es k number now merged e) [
  | inl h ↦ rw (h.1, place, h.0, ← key) (last_of_push rows row)
  | inr h ↦ rw (row_keys_push rows row) (last_other (row_keys rows) number row.key merged.last (sound number merged h.1)
      (λ q. h.0 (sym key ∙ q)))
]

first_within : (key : List ℕ) (es : List Entry) (at : ℕ) → FirstAt key es at → at < length (map stored es)
first_within key [] at first = absurd first
first_within key (e ∷ es) zero first = omega arith
first_within key (e ∷ es) (suc at) first = omega (arith, first_within key es at first.1)

first_kept : (key : List ℕ) (es : List Entry) (at : ℕ) (now : Merged) → FirstAt key es at → FirstAt key (set_value_at es at now) at
first_kept key [] at now first = first
first_kept key (e ∷ es) zero now first = first
first_kept key (e ∷ es) (suc at) now first = (first.0, first_kept key es at now first.1)

-- the key's number after its epoch was counted
pub number_kept : (key : List ℕ) (es : List Entry) (at : ℕ) (now : Merged) → FirstAt key es at
    → number_of (map stored (set_value_at es at now)) key ≡ at
number_kept key es at now first = number_at key (set_value_at es at now) at (first_kept key es at now first)

value_now : (key : List ℕ) (es : List Entry) (at : ℕ) (now : Merged) → FirstAt key es at
    → slice_get (values_of (set_value_at es at now)) at ≡ Some now
value_now key [] at now first = absurd first
value_now key (e ∷ es) zero now first = refl
value_now key (e ∷ es) (suc at) now first = value_now key es at now first.1

-- the place that the key keeps is that of its last row
pub place_kept : (key : List ℕ) (es : List Entry) (rows : List StoredRow) (at : ℕ) (now : Merged) → FirstAt key es at
    → SoundFor (set_value_at es at now) rows
    → IsLastIn (row_keys rows) (number_of (map stored (set_value_at es at now)) key) now.last
place_kept key es rows at now first sound = rw (number_kept key es at now first) (sound at now (value_now key es at now first))

pub counted_again : (key initial : List ℕ) (es : List Entry) (rows : List StoredRow) (kw sw at : ℕ) (was now : Merged) → FirstAt key es at
    → slice_get (values_of es) at ≡ Some was
    → now.epochs ≡ one_more was.epochs → store_with (set_value_at es at now) rows kw sw ≡ counted (store_with es rows kw sw) key initial
    false
counted_again key initial es rows kw sw at was now first here more =
    let apart : (at == length (map stored es)) ≡ false = ne_eqb at (length (map stored es))
    (λ e. absurd (omega (arith, first_within key es at first, e))) in
    rw (with_epoch_at key es at was now first here more, number_at key es at first, apart) refl

pub counted_row : (key initial : List ℕ) (es : List Entry) (rows : List StoredRow) (kw sw at : ℕ) (was now : Merged) → FirstAt key es at
    → slice_get (values_of es) at ≡ Some was
    → now.epochs ≡ one_more was.epochs → store_with (set_value_at es at now) (rows ++ record { key = at; words = initial } ∷ []) kw sw
    ≡ counted (store_with es rows kw sw) key initial true
counted_row key initial es rows kw sw at was now first here more =
    rw (with_epoch_at key es at was now first here more, number_at key es at first) refl

pub or_true : (b : Bool) → (b || true) ≡ true
or_true true = refl
or_true false = refl

map-push : (es : List Entry) (e : Entry) → map stored (es ++ e ∷ []) ≡ map stored es ++ stored e ∷ []
map-push [] e = refl
map-push (x ∷ es) e = ap (λ rest. stored x ∷ rest) (map-push es e)

pub length-stored : (es : List Entry) → length (map stored es) ≡ length es
length-stored [] = refl
length-stored (e ∷ es) = ap suc (length-stored es)

pub counted_first : (key initial : List ℕ) (es : List Entry) (rows : List StoredRow) (kw sw : ℕ) (b : Bool) (k : List ℕ) (last : ℕ)
    → lookup (λ k. key_eq key k) es ≡ None → k ≡ key
    → store_with (es ++ (k, record { epochs = 1; last = last }) ∷ []) (rows ++ record { key = length es; words = initial } ∷ []) kw sw
    ≡ counted (store_with es rows kw sw) key initial b
counted_first key initial es rows kw sw b k last none same =
    let there : (length es == length (map stored es)) ≡ true = eq-eqb (length es) (length (map stored es)) (sym (length-stored es)) in
    rw (map-push es (k, record { epochs = 1; last = last }), same, absent_epoch key es none, absent_number key es none, there, or_true b)
    refl

number_pushed : (key : List ℕ) (es : List Entry) (k : List ℕ) (m : Merged) → lookup (λ k. key_eq key k) es ≡ None → k ≡ key
    → number_of (map stored (es ++ (k, m) ∷ [])) key ≡ length es
number_pushed key [] k m none same = rw (same, key_eq-refl key) refl
number_pushed key (e ∷ es) k m none same = by (key_eq key e.0) refl (number_pushed key es k m)
  where
    by : (b : Bool) → key_eq key e.0 ≡ b → (lookup (λ k. key_eq key k) es ≡ None → k ≡ key
        → number_of (map stored (es ++ (k, m) ∷ [])) key ≡ length es)
        → number_of (map stored ((e ∷ es) ++ (k, m) ∷ [])) key ≡ length (e ∷ es)
    by true p more = cc (rw p at none)
    by false p more = rw (p, more (rw p at none) same) (omega arith)

value_pushed : (es : List Entry) (k : List ℕ) (m : Merged) → slice_get (values_of (es ++ (k, m) ∷ [])) (length es) ≡ Some m
value_pushed [] k m = refl
value_pushed (e ∷ es) k m = value_pushed es k m

pub place_pushed : (key : List ℕ) (es : List Entry) (rows : List StoredRow) (k : List ℕ) (m : Merged) → lookup (λ k. key_eq key k) es ≡ None
    → k ≡ key
    → SoundFor (es ++ (k, m) ∷ []) rows → IsLastIn (row_keys rows) (number_of (map stored (es ++ (k, m) ∷ [])) key) m.last
place_pushed key es rows k m none same sound = rw (number_pushed key es k m none same) (sound (length es) m (value_pushed es k m))
