-- Where a text is among names, and one name more.
use Rattle.std.proofs.Common.{◌≡◌, ℕ, suc, ◌+◌, ◌<◌, ◌≤◌, inl, inr, Bool, true, false, cond, not, ◌||◌, List, [], ◌∷◌, ◌++◌, length, map}
use Rattle.std.proofs.Common.{get_or, take, ◌*◌, ◌%◌, ◌^◌, slice_get, Some, refl, sym, ap, ◌∙◌, arith, add-one, add_comm, Vec, Global, zero}
use Rattle.std.proofs.{lemmas.{Bool.{cases_lt, true≢false}, List.{get_or-map, length-append, map-append}}, Math.Seq.take-suc}
use Rattle.std.proofs.lemmas.{List.Sums.{fold-append, prefix_len-le-length}, Map.Keys.any_passes_from_place}
use Rattle.std.{proofs.lemmas.{Option.{same_Some, slice_get_within}, Slice.Eq.bytes_eq-Decides}, specs.List.list_any}
use Rattle.std.specs.{Int.RustNames.bit_xor, Str.bytes_eq}
use Rattle.query_lang.specs.Names.{AreNumbered, AreOnce, number_in, print_of, texts_of, with_name}

-- a new name has the next number
pub new_number : (names : List (List ℕ)) (text : List ℕ) → list_any (bytes_eq text) names ≡ false → number_in names text ≡ length names
new_number [] text h = refl
new_number (n ∷ names) text h = go (bytes_eq text n) (new_number names text) h
  where
    go : (b : Bool) → (list_any (bytes_eq text) names ≡ false → number_in names text ≡ length names)
        → (b || list_any (bytes_eq text) names) ≡ false
        → cond (not b) (1 + number_in names text) 0 ≡ suc (length names)
    go true ih h = cc h
    go false ih h = rw (ih h) (omega arith)

found_number : (names : List (List ℕ)) (text : List ℕ) → list_any (bytes_eq text) names ≡ true
    → slice_get names (number_in names text) ≡ Some text
found_number [] text h = cc h
found_number (n ∷ names) text h = go (bytes_eq text n) refl (found_number names text) h
  where
    go : (b : Bool) → bytes_eq text n ≡ b → (list_any (bytes_eq text) names ≡ true → slice_get names (number_in names text) ≡ Some text)
        → (b || list_any (bytes_eq text) names) ≡ true
        → slice_get (n ∷ names) (cond (not b) (1 + number_in names text) 0) ≡ Some text
    go true e ih h = ap (λ (x : List ℕ). Some x) (sym ((bytes_eq-Decides text n).0 e))
    go false e ih h = ap (slice_get (n ∷ names)) (add_comm 1 (number_in names text) ∙ add-one (number_in names text)) ∙ ih h

last_of : (names : List (List ℕ)) (text : List ℕ) → slice_get (names ++ text ∷ []) (length names) ≡ Some text
last_of [] text = refl
last_of (n ∷ names) text = last_of names text

-- a name's text is at its number
pub has_number : (names : List (List ℕ)) (text : List ℕ) → slice_get (with_name names text) (number_in names text) ≡ Some text
has_number names text = go (list_any (bytes_eq text) names) refl
  where
    go : (b : Bool) → list_any (bytes_eq text) names ≡ b → slice_get (cond b names (names ++ text ∷ [])) (number_in names text) ≡ Some text
    go true e = found_number names text e
    go false e = ap (slice_get (names ++ text ∷ [])) (new_number names text e) ∙ last_of names text

-- one name more at most
pub with_bounds : (names : List (List ℕ)) (text : List ℕ) → (length names ≤ length (with_name names text))
    × (length (with_name names text) ≤ length names + 1)
with_bounds names text = go (list_any (bytes_eq text) names)
  where
    go : (b : Bool) → (length names ≤ length (cond b names (names ++ text ∷ [])))
        × (length (cond b names (names ++ text ∷ [])) ≤ length names + 1)
    go true = (omega arith, omega arith)
    go false = let more = length-append names (text ∷ []) in (omega (arith, more), omega (arith, more))

-- whether a text is among the names, by its number
pub is_there : (names : List (List ℕ)) (text : List ℕ) → number_in names text < length names → list_any (bytes_eq text) names ≡ true
is_there names text low = go (list_any (bytes_eq text) names) refl
  where
    go : (b : Bool) → list_any (bytes_eq text) names ≡ b → b ≡ true
    go true e = refl
    go false e = absurd (omega (arith, low, new_number names text e))

pub is_new : (names : List (List ℕ)) (text : List ℕ) → length names ≤ number_in names text → list_any (bytes_eq text) names ≡ false
is_new names text high = go (list_any (bytes_eq text) names) refl
  where
    go : (b : Bool) → list_any (bytes_eq text) names ≡ b → b ≡ false
    go true e = absurd (omega (arith, high, slice_get_within names (number_in names text) text (found_number names text e)))
    go false e = refl

-- what is at a number when there is one name more
get_more : (names : List (List ℕ)) (new : List ℕ) (at : ℕ) (text : List ℕ) → slice_get (names ++ new ∷ []) at ≡ Some text
    → at < length names → slice_get names at ≡ Some text
get_more [] new at text is low = absurd (omega (arith, low))
get_more (name ∷ names) new zero text is low = is
get_more (name ∷ names) new (suc at) text is low = get_more names new at text is (omega (arith, low))

get_last : (names : List (List ℕ)) (new : List ℕ) (at : ℕ) (text : List ℕ) → slice_get (names ++ new ∷ []) at ≡ Some text
    → length names ≤ at → (at ≡ length names) × (new ≡ text)
get_last [] new zero text is high = (refl, same_Some _ _ is)
get_last [] new (suc at) text is high = cc is
get_last (name ∷ names) new zero text is high = absurd (omega (arith, high))
get_last (name ∷ names) new (suc at) text is high =
    let rest = get_last names new at text is (omega (arith, high)) in (ap suc rest.0, rest.1)

-- a new name can't be among the others
apart : (names : List (List ℕ)) (new : List ℕ) (at : ℕ) → list_any (bytes_eq new) names ≡ false → slice_get names at ≡ Some new → ⊥
apart names new at none here =
    true≢false (sym (any_passes_from_place (bytes_eq new) names at new here ((bytes_eq-Decides new new).1 refl)) ∙ none)

once_more : (names : List (List ℕ)) (new : List ℕ) → AreOnce names → list_any (bytes_eq new) names ≡ false → AreOnce (names ++ new ∷ [])
once_more names new once none i j text at_i at_j = elim (cases_lt i (length names)) [
  | inl low_i ↦ elim (cases_lt j (length names)) [
    | inl low_j ↦ once i j text (get_more names new i text at_i low_i) (get_more names new j text at_j low_j)
    | inr high_j ↦
        let last = get_last names new j text at_j high_j in
        absurd (apart names new i none (get_more names new i text at_i low_i ∙ ap (λ (x : List ℕ). Some x) (sym last.1)))
  ]
  | inr high_i ↦
      let last = get_last names new i text at_i high_i in
      elim (cases_lt j (length names)) [
        | inl low_j ↦ absurd (apart names new j none (get_more names new j text at_j low_j ∙ ap (λ (x : List ℕ). Some x) (sym last.1)))
        | inr high_j ↦ last.0 ∙ sym (get_last names new j text at_j high_j).0
      ]
]

-- the names with a new one
pub with_new : (names : List (List ℕ)) (text : List ℕ) → length names ≤ number_in names text → with_name names text ≡ names ++ text ∷ []
with_new names text high = rw (is_new names text high) refl

pub with_known : (names : List (List ℕ)) (text : List ℕ) → number_in names text < length names → with_name names text ≡ names
with_known names text low = rw (is_there names text low) refl

pub numbered_more : (names : List (List ℕ)) (prints : List ℕ) (text : List ℕ) → AreNumbered names prints
    → length names ≤ number_in names text → AreNumbered (names ++ text ∷ []) (prints ++ print_of text ∷ [])
numbered_more names prints text numbered high = record {
  once = once_more names text numbered.once (is_new names text high);
  printed = ap (λ known. known ++ print_of text ∷ []) numbered.printed ∙ sym (map-append print_of names (text ∷ []));
}

-- the word of a name
pub printed_at : (names : List (List ℕ)) (prints : List ℕ) (at : ℕ) → prints ≡ map print_of names → at < length names
    → get_or prints at 0 ≡ print_of (get_or names at [])
printed_at names prints at is low = rw is (get_or-map print_of names at [] 0 low)

-- the text of the vector at a place
pub text_at : (vectors : List (Vec ℕ Global)) (at : ℕ) (vector : Vec ℕ Global) → vector ≡ get_or vectors at vector → at < length vectors
    → get_or (texts_of vectors) at [] ≡ vector.items
text_at vectors at vector is low =
    get_or-map (λ (text : Vec ℕ Global). text.items) vectors at vector [] low ∙ ap (λ (text : Vec ℕ Global). text.items) (sym is)

-- the word of a byte more
pub print_more : (text : List ℕ) (at : ℕ) → at < length text
    → print_of (take (at + 1) text) ≡ (bit_xor (print_of (take at text)) (get_or text at 0) * 0x100_0000_01b3) % 2 ^ 64
unfolding print_of
print_more text at low = rw (add-one, take-suc text at 0 low, fold-append) refl

-- a number is at most how many names there are
pub number_most : (names : List (List ℕ)) (text : List ℕ) → number_in names text ≤ length names
number_most names text = prefix_len-le-length (λ name. not (bytes_eq text name)) names
