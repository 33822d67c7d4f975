-- Lists that are filled item by item.
use Rattle.std.proofs.Common.{◌≡◌, ℕ, suc, zero, ◌+◌, ◌<◌, Bool, true, false, cond, List, [], ◌∷◌, ◌++◌, length, get_or, set, slice_get}
use Rattle.std.proofs.{Common.{take, slice_index, Some, refl, sym, ap, ◌∙◌, append-nil, arith}, lemmas.{List.take_more, Option.same_Some}}
use Rattle.std.{proofs.Math.Seq.take-suc-set, specs.Prelude.filter}
use Rattle.marple_base.specs.{Field.{all_fields, has_field, number_of}, declared.field.Field.{Field, TheVariants.Switch}}
use Rattle.marple_base.specs.declared.field.{FieldSet.FieldSet, TheConstants.FIELDS}
use Rattle.part_texts.specs.Texts.{one_at_least, field_words}

-- ---- fields

filter_push : (test : Field → Bool) (xs : List Field) (x : Field) → filter test (xs ++ x ∷ []) ≡ filter test xs ++ cond (test x) (x ∷ []) []
filter_push test [] x = by (test x)
  where
    by : (b : Bool) → cond b (x ∷ []) [] ≡ [] ++ cond b (x ∷ []) []
    by true = refl
    by false = refl
filter_push test (y ∷ xs) x = by (test y) (filter_push test xs x)
  where
    by : (b : Bool) → filter test (xs ++ x ∷ []) ≡ filter test xs ++ cond (test x) (x ∷ []) []
        → cond b (y ∷ filter test (xs ++ x ∷ [])) (filter test (xs ++ x ∷ [])) ≡ cond b (y ∷ filter test xs) (filter test xs)
        ++ cond (test x) (x ∷ []) []
    by true rest = ap (λ (ys : List Field). y ∷ ys) rest
    by false rest = rest

-- one more field that is in the set
pub field_with : (fields : FieldSet) (list : List Field) (i : ℕ) → i < FIELDS → list ≡ filter (has_field fields) (take i all_fields)
    → has_field fields (get_or all_fields i Switch) ≡ true
    → list ++ get_or all_fields i Switch ∷ [] ≡ filter (has_field fields) (take (i + 1) all_fields)
field_with fields list i within so_far has =
    let next = get_or all_fields i Switch in
    ap (λ (xs : List Field). xs ++ next ∷ []) so_far
    ∙ ap (λ b. filter (has_field fields) (take i all_fields) ++ cond b (next ∷ []) []) (sym has)
    ∙ sym (filter_push (has_field fields) (take i all_fields) next)
    ∙ ap (filter (has_field fields)) (sym (take_more all_fields i Switch within))

-- one that isn't
pub field_without : (fields : FieldSet) (list : List Field) (i : ℕ) → i < FIELDS → list ≡ filter (has_field fields) (take i all_fields)
    → has_field fields (get_or all_fields i Switch) ≡ false
    → list ≡ filter (has_field fields) (take (i + 1) all_fields)
field_without fields list i within so_far has =
    let next = get_or all_fields i Switch in
    so_far ∙ sym (append-nil (filter (has_field fields) (take i all_fields)))
    ∙ ap (λ b. filter (has_field fields) (take i all_fields) ++ cond b (next ∷ []) []) (sym has)
    ∙ sym (filter_push (has_field fields) (take i all_fields) next)
    ∙ ap (filter (has_field fields)) (sym (take_more all_fields i Switch within))

-- a column at least
pub some_are : (fields : List Field) → 0 < length fields → one_at_least fields ≡ fields
some_are [] some = absurd (omega arith)
some_are (field ∷ fields) some = refl

-- ---- words

map_push : (words : List ℕ) (fields : List Field) (field : Field) → field_words (fields ++ field ∷ []) words ≡ field_words fields words
    ++ slice_index words (number_of field) ∷ []
map_push words [] field = refl
map_push words (f ∷ fields) field = ap (λ rest. slice_index words (number_of f) ∷ rest) (map_push words fields field)

-- one more word of a key
pub key_more : (key : List ℕ) (size salt word : ℕ) (fields : List Field) (i : ℕ) (words : List ℕ) → size < length key → i < length fields
    → word ≡ slice_index words (number_of (get_or fields i Switch)) → take size key ≡ salt ∷ field_words (take i fields) words
    → take (size + 1) (set key size word) ≡ salt ∷ field_words (take (i + 1) fields) words
key_more key size salt word fields i words room within is so_far =
    let next : size + 1 ≡ suc size = omega arith in
    ap (λ n. take n (set key size word)) next ∙ take-suc-set key size word room
    ∙ ap (λ (k : List ℕ). k ++ word ∷ []) so_far
    ∙ ap (λ w. (salt ∷ field_words (take i fields) words) ++ w ∷ []) is
    ∙ ap (λ (ws : List ℕ). salt ∷ ws) (sym (map_push words (take i fields) (get_or fields i Switch)))
    ∙ ap (λ fs. salt ∷ field_words fs words) (sym (take_more fields i Switch within))

-- ---- buffers

-- each buffer has these bytes
abbrev pub AllHave : List ℕ → List (List ℕ) → Type 0
AllHave bytes buffers = (n : ℕ) (found : List ℕ) → slice_get buffers n ≡ Some found → found ≡ bytes

pub all_none : (bytes : List ℕ) → AllHave bytes []
all_none bytes n found at = absurd (cc at)

pub all_push : (bytes : List ℕ) (buffers : List (List ℕ)) (more : List ℕ) → AllHave bytes buffers → more ≡ bytes
    → AllHave bytes (buffers ++ more ∷ [])
all_push bytes [] more all is zero found at = sym (same_Some _ _ at) ∙ is
all_push bytes [] more all is (suc n) found at = absurd (cc at)
all_push bytes (first ∷ buffers) more all is zero found at = all zero found at
all_push bytes (first ∷ buffers) more all is (suc n) found at = all_push bytes buffers more (λ k other there. all (suc k) other there) is n
    found at

-- the buffer that was changed, and the others
pub set_here : {A : Type 0} (xs : List A) (k : ℕ) (x y : A) → slice_get (set xs k x) k ≡ Some y → x ≡ y
set_here [] k x y here = absurd (cc here)
set_here (z ∷ xs) zero x y here = same_Some _ _ here
set_here (z ∷ xs) (suc k) x y here = set_here xs k x y here

pub set_there : {A : Type 0} (xs : List A) (k i : ℕ) (x : A) → (k ≡ i → ⊥) → slice_get (set xs k x) i ≡ slice_get xs i
set_there [] k i x differs = refl
set_there (z ∷ xs) zero zero x differs = absurd (differs refl)
set_there (z ∷ xs) zero (suc i) x differs = refl
set_there (z ∷ xs) (suc k) zero x differs = refl
set_there (z ∷ xs) (suc k) (suc i) x differs = set_there xs k i x (λ e. differs (ap suc e))
