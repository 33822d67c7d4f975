-- The words of a record, written at the fields that are read.
use Rattle.std.proofs.Common.{◌≡◌, ℕ, ◌+◌, ◌<◌, ◌≤◌, List, [], ◌∷◌, ◌++◌, length, get_or, drop, set, Option, Some, None, Result, Ok, Err}
use Rattle.std.proofs.{Common.{refl, sym, ap, subst, ◌∙◌, append_assoc, arith, length-append}, lemmas.List.{drop_all, drop_more}}
use Rattle.std.specs.{Prelude.replicate, List.zip}
use Rattle.marple_base.specs.{Field.{all_fields, number_of}, declared.field.{Field.Field, TheConstants.FIELDS}}
use Rattle.trace_reader.specs.{Columns.{read_columns, read_of, with_column}, Traces.{each, with_first, word_at, words_in_columns}}
use Rattle.trace_reader.proofs.EachFacts.{onto, onto_value}

abbrev pub then_fill : (List ℕ → Result (List ℕ) Field) → ℕ → List ℕ → Result ℕ Field → Result (List ℕ) Field
then_fill next at words (Ok word) = next (set words at word)
then_fill _ at _ (Err field) = Err field

-- words with those of some fields written into them, or the first field that is no number
unfoldable pub fill : List (List ℕ) → List (Field × ℕ) → List ℕ → Result (List ℕ) Field
fill _ [] words = Ok words
fill fields (p ∷ rest) words = then_fill (fill fields rest) (number_of p.0) words (word_at fields p.0 (Some p.1))

-- the fields have the numbers from n on
abbrev AreFrom : ℕ → List Field → Type 0
AreFrom n [] = Unit {0}
AreFrom n (f ∷ fs) = (number_of f ≡ n) × AreFrom (n + 1) fs

all_from : AreFrom 0 all_fields
all_from = (refl, (refl, (refl, (refl, (refl, (refl, (refl, (refl, (refl, (refl, (refl, (refl, (refl, (refl, tt))))))))))))))

set_here : (front rest : List ℕ) (x y : ℕ) → set (front ++ x ∷ rest) (length front) y ≡ front ++ y ∷ rest
set_here [] _ x y = refl
set_here (z ∷ front) rest x y = rw (set_here front rest x y)

-- one more word after those so far
word_after : (next : List ℕ → Result (List ℕ) Field) (rest : Result (List ℕ) Field) (front zeros : List ℕ) (x : ℕ)
    → next ((front ++ x ∷ []) ++ zeros) ≡ onto (front ++ x ∷ []) rest → next (front ++ x ∷ zeros) ≡ onto front (with_first (Ok x) rest)
word_after next rest front zeros x more = ap next (sym (append_assoc front (x ∷ []) zeros)) ∙ more ∙ sym (onto_value front x rest)

word_filled : (next : List ℕ → Result (List ℕ) Field) (rest : Result (List ℕ) Field) (front zeros : List ℕ) (n : ℕ) → n ≡ length front
    → ((x : ℕ) → next ((front ++ x ∷ []) ++ zeros) ≡ onto (front ++ x ∷ []) rest) → (r : Result ℕ Field)
    → then_fill next n (front ++ 0 ∷ zeros) r ≡ onto front (with_first r rest)
word_filled next rest front zeros n at more (Ok x) =
    ap (λ k. next (set (front ++ 0 ∷ zeros) k x)) at ∙ ap next (set_here front zeros 0 x) ∙ word_after next rest front zeros x (more x)
word_filled _ _ _ _ n at _ (Err e) = refl

column_filled : (fields : List (List ℕ)) (f : Field) (reads : List (Field × ℕ)) (rest : Result (List ℕ) Field) (front zeros : List ℕ)
    → number_of f ≡ length front
    → ((x : ℕ) → fill fields reads ((front ++ x ∷ []) ++ zeros) ≡ onto (front ++ x ∷ []) rest) → (o : Option ℕ)
    → fill fields (with_column f o reads) (front ++ 0 ∷ zeros) ≡ onto front (with_first (word_at fields f o) rest)
unfolding fill
column_filled fields f reads rest front zeros at more None = word_after (fill fields reads) rest front zeros 0 (more 0)
column_filled fields f reads rest front zeros at more (Some c) = word_filled (fill fields reads) rest front zeros (number_of f) at more
    (word_at fields f (Some c))

-- where all words after those so far are 0, the words that are read are written
filled : (fields : List (List ℕ)) (front : List ℕ) (fs : List Field) (columns : List (Option ℕ)) → AreFrom (length front) fs
    → length columns ≡ length fs
    → fill fields (read_of (zip fs columns)) (front ++ replicate (length fs) 0) ≡ onto front
    (each (λ p. word_at fields p.0 p.1) (zip fs columns))
unfolding fill each
filled _ _ [] _ _ _ = refl
filled fields front (f ∷ fs) [] from size = absurd (omega arith)
filled fields front (f ∷ fs) (column ∷ columns) from size =
    column_filled fields f (read_of (zip fs columns)) (each (λ p. word_at fields p.0 p.1) (zip fs columns)) front (replicate (length fs) 0)
    from.0 (
    λ x.
    let one : length front + 1 ≡ length (front ++ x ∷ []) = omega (arith, length-append front (x ∷ [])) in
    let P : ℕ → Type 0 = λ n. AreFrom n fs in
    filled fields (front ++ x ∷ []) fs columns (subst P one from.1) (omega (arith, size))
    ) column

onto_nothing : (r : Result (List ℕ) Field) → onto [] r ≡ r
onto_nothing (Ok _) = refl
onto_nothing (Err e) = refl

-- all words of a record
pub words_filled : (fields : List (List ℕ)) (columns : List (Option ℕ)) → length columns ≡ FIELDS
    → words_in_columns columns fields ≡ fill fields (read_columns columns) (replicate FIELDS 0)
unfolding read_columns
words_filled fields columns size =
    sym (filled fields [] all_fields columns all_from size ∙ onto_nothing (words_in_columns columns fields))

-- the turn that writes a word
pub word_written : (all : Result (List ℕ) Field) (fields : List (List ℕ)) (read : List (Field × ℕ)) (i : ℕ) (d : Field × ℕ) (words : List ℕ)
    (x : ℕ) → i < length read
    → all ≡ fill fields (drop i read) words → Ok x ≡ word_at fields (get_or read i d).0 (Some (get_or read i d).1)
    → all ≡ fill fields (drop (i + 1) read) (set words (number_of (get_or read i d).0) x)
unfolding fill
word_written _ _ read i d _ x within so_far is = so_far ∙ rw (drop_more read i d within, ← is) refl

-- the turn that meets a field that is no number
pub field_met : (all : Result (List ℕ) Field) (fields : List (List ℕ)) (read : List (Field × ℕ)) (i : ℕ) (d : Field × ℕ) (words : List ℕ)
    (e : Field) → i < length read
    → all ≡ fill fields (drop i read) words → Err e ≡ word_at fields (get_or read i d).0 (Some (get_or read i d).1) → all ≡ Err e
unfolding fill
field_met _ _ read i d _ e within so_far is = so_far ∙ rw (drop_more read i d within, ← is) refl

-- after the last turn
pub words_are : (all : Result (List ℕ) Field) (fields : List (List ℕ)) (read : List (Field × ℕ)) (i : ℕ) (words : List ℕ) → length read ≤ i
    → all ≡ fill fields (drop i read) words → all ≡ Ok words
unfolding fill
words_are _ _ read i _ past so_far = so_far ∙ rw (drop_all i read past) refl

-- the fields that are read, as they are found in turn
pub read_none : (columns : List (Option ℕ)) (fs : List Field) (i : ℕ) (f : Field) → i < length fs → i < length columns
    → get_or columns i None ≡ None
    → read_of (zip (drop i fs) (drop i columns)) ≡ read_of (zip (drop (i + 1) fs) (drop (i + 1) columns))
read_none columns fs i f in_fields in_columns is = rw (drop_more fs i f in_fields, drop_more columns i None in_columns, is)

pub read_one : (columns : List (Option ℕ)) (fs : List Field) (i : ℕ) (f : Field) (c : ℕ) → i < length fs → i < length columns
    → get_or columns i None ≡ Some c
    → read_of (zip (drop i fs) (drop i columns)) ≡ (get_or fs i f, c) ∷ read_of (zip (drop (i + 1) fs) (drop (i + 1) columns))
read_one columns fs i f c in_fields in_columns is = rw (drop_more fs i f in_fields, drop_more columns i None in_columns, is)

pub not_some : (o : Option ℕ) → ((x : ℕ) → o ≡ Some x → ⊥) → o ≡ None
not_some None _ = refl
not_some (Some x) other = absurd (other x refl)

-- one more that is read
pub found_more : {A : Type 0} (all items more now rest : List A) (x : A) → all ≡ items ++ now → now ≡ x ∷ rest → more ≡ items ++ x ∷ []
    → all ≡ more ++ rest
found_more _ items _ _ rest x so_far is grown =
    so_far ∙ ap (λ xs. items ++ xs) is ∙ sym (append_assoc items (x ∷ []) rest) ∙ ap (λ xs. xs ++ rest) (sym grown)
