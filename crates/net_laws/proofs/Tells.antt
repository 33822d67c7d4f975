-- Which words of a row are a packet's word of one field, by the names of its columns.
use Rattle.std.proofs.Common.{◌≡◌, ℕ, zero, suc, ◌+◌, ◌<◌, Bool, true, false, not, ◌&&◌, ◌||◌, ◌==◌, List, [], ◌∷◌, ◌++◌, length, map}
use Rattle.std.{proofs.Common.{slice_index, refl, ap, ◌∙◌, arith}, specs.Str.bytes_eq}
use Rattle.marple_base.specs.{declared.field.Field.{Field, TheVariants.Switch}, Field.{all_fields, field_name, number_of}}
use Rattle.marple_base.specs.declared.field.TheConstants.{FIELDS}
use Rattle.query_lang.specs.{Names.number_in, Streams.values_at, Typing.field_numbers}
use Rattle.net_laws.specs.Fields.{is_named, names_field, field_word}
use Rattle.query_laws.proofs.{FieldColumns.AreKnown, Views.AreBelow}

-- a row has a word for each of these columns, and where the column has the field's name, this one
abbrev pub Tells : Field → List (List ℕ) → ℕ → List ℕ → List ℕ → Type 0
Tells field names value [] [] = Unit {0}
Tells field names value [] (w ∷ row) = ⊥
Tells field names value (id ∷ columns) [] = ⊥
Tells field names value (id ∷ columns) (w ∷ row) = (is_named field names id ≡ true → w ≡ value) × Tells field names value columns row

pub both_tell : (field : Field) (names : List (List ℕ)) (value : ℕ) (a r b s : List ℕ) → Tells field names value a r
    → Tells field names value b s → Tells field names value (a ++ b) (r ++ s)
both_tell field names value [] [] b s h k = k
both_tell field names value (id ∷ a) (w ∷ r) b s h k = (h.0, both_tell _ _ _ a r b s h.1 k)
both_tell field names value _ _ b s h k = absurd h

-- columns of other names
pub others_tell : (field : Field) (names : List (List ℕ)) (value : ℕ) (columns values : List ℕ) → names_field field names columns ≡ false
    → length columns ≡ length values → Tells field names value columns values
others_tell field names value [] [] e n = tt
others_tell field names value (id ∷ columns) (v ∷ values) e n = go _ refl (λ k. others_tell _ _ _ columns _ k (omega arith)) e
  where
    go : (b : Bool) → is_named field names id ≡ b → (names_field field names columns ≡ false → Tells field names value columns values)
        → (b || names_field field names columns) ≡ false → Tells field names value (id ∷ columns) (v ∷ values)
    go true is more k = cc k
    go false is more k = (λ t. absurd (cc), more k)
others_tell field names value _ _ e n = absurd (omega (arith, n))

-- the word in the slot of a column that has the field's name
pub tells_at : (field : Field) (names : List (List ℕ)) (value : ℕ) (columns row : List ℕ) (slot : ℕ) → Tells field names value columns row
    → slot < length columns → is_named field names (slice_index columns slot) ≡ true → slice_index row slot ≡ value
tells_at field names value [] row slot h lt e = absurd (omega arith)
tells_at field names value (id ∷ columns) [] slot h lt e = absurd h
tells_at field names value (id ∷ columns) (w ∷ row) zero h lt e = h.0 e
tells_at field names value (id ∷ columns) (w ∷ row) (suc slot) h lt e = tells_at _ _ _ columns _ _ h.1 (omega arith) e

pub picked_tell : (field : Field) (names : List (List ℕ)) (value : ℕ) (columns row slots : List ℕ) → Tells field names value columns row
    → AreBelow (length columns) slots → Tells field names value (values_at columns slots) (values_at row slots)
picked_tell field names value columns row [] h w = tt
picked_tell field names value columns row (slot ∷ slots) h w = (tells_at _ _ _ _ _ _ h w.0, picked_tell _ _ _ _ _ slots h w.1)

-- ---- a packet's fields

abbrev numbers_of : List (List ℕ) → List Field → List ℕ
numbers_of names fields = map (λ f. number_in names (field_name f)) fields

same_number : (a b : ℕ) → (a == b) ≡ true → a ≡ b
same_number a b e = grind arith

-- of these fields, from this number on, just the one at the field's own number has its name
abbrev stands_once : Field → ℕ → List Field → Bool
stands_once field n [] = true
stands_once field n (f ∷ fields) = (not (bytes_eq (field_name field) (field_name f)) || (n == number_of field)) && stands_once field (n + 1)
    fields

all_once : (field : Field) → stands_once field 0 all_fields ≡ true
all_once Switch = refl
all_once _ = refl

both : (a b : Bool) → (a && b) ≡ true → (a ≡ true) × (b ≡ true)
both true b e = (refl, e)
both false b e = cc

follows : (a b : Bool) → (not a || b) ≡ true → a ≡ true → b ≡ true
follows true b e t = e
follows false b e t = cc

module _ (field : Field) (names : List (List ℕ)) (all : List ℕ) where
  fields_tell : (n : ℕ) (fields : List Field) (words : List ℕ) → AreKnown names fields → length words ≡ length fields
      → ((j : ℕ) → slice_index words j ≡ slice_index all (n + j)) → stands_once field n fields ≡ true
      → Tells field names (field_word field all) (numbers_of names fields) words
  fields_tell n [] [] known size same once = tt
  fields_tell n (f ∷ fields) (w ∷ words) known size same once =
      let b = both _ _ once in (
        λ e.
            let is : bytes_eq (field_name field) (field_name f) ≡ true =
            cc e in
            let here = same_number n _
            (follows _ (n == number_of field) b.0 is) in
            same 0 ∙ ap (slice_index all) (let z : n + 0 ≡ n = omega arith in z ∙ here),
        fields_tell (n + 1) fields words known.1 (omega (arith, size))
            (λ j. same (suc j) ∙ ap (slice_index all) (let z : n + suc j ≡ n + 1 + j = omega arith in z)) b.1,
      )
  fields_tell n _ _ known size same once = absurd (omega (arith, size))

-- a packet's words, under the names of the fields
pub packet_tells : (field : Field) (names : List (List ℕ)) (words : List ℕ) → AreKnown names all_fields → length words ≡ FIELDS
    → Tells field names (field_word field words) (field_numbers names) words
packet_tells field names words known size =
    fields_tell _ names _ 0 all_fields _ known size
    (λ j. cc (let z : j ≡ 0 + j = omega arith in z)) (all_once field)
