-- The columns of `pktstream` have distinct names.
use Rattle.std.proofs.Common.{◌≡◌, ℕ, true, false, cond, ◌||◌, List, [], ◌∷◌, ◌++◌, map, Some, nat_eq, refl, sym, ap, ◌∙◌}
use Rattle.std.proofs.lemmas.{Option.same_Some, Slice.Eq.bytes_eq-Decides, Bool.or_parts}
use Rattle.std.specs.{Prelude.slice_get, List.list_any, Str.bytes_eq}
use Rattle.marple_base.specs.{declared.field.Field.Field, Field.{all_fields, field_name}}
use Rattle.query_lang.proofs.NameFacts.{has_number}
use Rattle.query_laws.proofs.{Terms.{is_among, number_in, with_name, with_fields, typed_names, field_numbers}, Steps.{nat_same, by_test}}
use Rattle.query_laws.proofs.Views.{AreDistinct}

-- ---- each field's name is at its number

abbrev IsAmong : List ℕ → List (List ℕ) → Type 0
IsAmong text names = list_any (bytes_eq text) names ≡ true

among_front : (text : List ℕ) (names : List (List ℕ)) (other : List ℕ) → IsAmong text names → IsAmong text (names ++ other ∷ [])
among_front _ [] _ h = cc h
among_front text (n ∷ names) other h =
    by_test (bytes_eq text n) (λ is. rw is) (λ is. rw is (among_front text names other (rw is at h)))

among_last : (text : List ℕ) (names : List (List ℕ)) → IsAmong text (names ++ text ∷ [])
among_last text [] = ap (λ b. b || false) ((bytes_eq-Decides text text).1 refl)
among_last text (n ∷ names) = by_test (bytes_eq text n) (λ is. rw is) (λ is. rw is (among_last text names))

among_more : (text other : List ℕ) (names : List (List ℕ)) → IsAmong text names → IsAmong text (with_name names other)
among_more text other names h =
    by_test (list_any (bytes_eq other) names) (λ is. rw is h) (λ is. rw is (among_front text names other h))

among_self : (text : List ℕ) (names : List (List ℕ)) → IsAmong text (with_name names text)
among_self text names = by_test (list_any (bytes_eq text) names) (λ is. rw is is) (λ is. rw is (among_last text names))

among_fields : (text : List ℕ) (fields : List Field) (names : List (List ℕ)) → IsAmong text names → IsAmong text (with_fields names fields)
among_fields _ [] _ h = h
among_fields text (f ∷ rest) names h = among_fields text rest (with_name names (field_name f)) (among_more text (field_name f) names h)

-- a text that is among names is at its number
stands_at_number : (names : List (List ℕ)) {text : List ℕ} → IsAmong text names → slice_get names (number_in names text) ≡ Some text
stands_at_number names {text} h = ap (λ b. slice_get (cond b names (names ++ text ∷ [])) (number_in names text)) (sym h)
    ∙ has_number names text

-- each field's name is at its number
abbrev pub AreKnown : List (List ℕ) → List Field → Type 0
AreKnown _ [] = Unit {0}
AreKnown names (f ∷ fields) = (slice_get names (number_in names (field_name f)) ≡ Some (field_name f)) × AreKnown names fields

fields_known : (fields : List Field) (names : List (List ℕ)) → AreKnown (with_fields names fields) fields
fields_known [] _ = tt
fields_known (f ∷ rest) names =
    let more = with_name names (field_name f) in (
      stands_at_number (with_fields more rest) (among_fields (field_name f) rest more (among_self (field_name f) names)),
      fields_known rest more,
    )

pub all_known : (names : List (List ℕ)) → AreKnown (typed_names names) all_fields
all_known names = fields_known all_fields names

-- ---- and no other field's name does

abbrev numbers_of : List (List ℕ) → List Field → List ℕ
numbers_of names fields = map (λ f. number_in names (field_name f)) fields

abbrev texts_of : List Field → List (List ℕ)
texts_of fields = map field_name fields

-- no name is that of a later field
abbrev AreApart : List Field → Type 0
AreApart [] = Unit {0}
AreApart (f ∷ fields) = (list_any (bytes_eq (field_name f)) (texts_of fields) ≡ false) × AreApart fields

not_same : (names : List (List ℕ)) {a b : List ℕ} → slice_get names (number_in names a) ≡ Some a
    → slice_get names (number_in names b) ≡ Some b → bytes_eq a b ≡ false → nat_eq (number_in names b) (number_in names a) ≡ false
not_same names {a} {b} at_a at_b apart = by_test (nat_eq (number_in names b) (number_in names a)) (λ is.
    let same : a ≡ b = same_Some a b (sym at_a ∙ ap (slice_get names) (sym (nat_same is)) ∙ at_b) in
    let equal : bytes_eq a b ≡ true = (bytes_eq-Decides a b).1 same in cc (equal, apart)) (λ is. is)

not_among : (names : List (List ℕ)) {text : List ℕ} (fields : List Field) → slice_get names (number_in names text) ≡ Some text
    → AreKnown names fields
    → list_any (bytes_eq text) (texts_of fields) ≡ false → is_among (number_in names text) (numbers_of names fields) ≡ false
not_among _ [] _ _ h = refl
not_among names {text} (f ∷ fields) at known h =
    let parts = or_parts (bytes_eq text (field_name f)) _ h in
    rw (not_same names at known.0 parts.0) (not_among names fields at known.1 parts.1)

numbers_distinct : (names : List (List ℕ)) (fields : List Field) → AreKnown names fields → AreApart fields
    → AreDistinct (numbers_of names fields)
numbers_distinct _ [] _ _ = tt
numbers_distinct names (f ∷ fields) known apart =
    (not_among names fields known.0 known.1 apart.0, numbers_distinct names fields known.1 apart.1)

fields_apart : AreApart all_fields
fields_apart = (refl, (refl, (refl, (refl, (refl, (refl, (refl, (refl, (refl, (refl, (refl, (refl, (refl, (refl, tt))))))))))))))

pub fields_distinct : (names : List (List ℕ)) → AreDistinct (field_numbers (typed_names names))
fields_distinct names = numbers_distinct (typed_names names) all_fields (all_known names) fields_apart
