-- Fields and records that stand in a text.
use Rattle.std.proofs.Common.{◌≡◌, ℕ, suc, zero, ◌+◌, ◌-◌, ◌<◌, ◌≤◌, Bool, true, false, cond, List, [], ◌∷◌, ◌++◌, length, get_or, take}
use Rattle.std.proofs.Common.{drop, Option, Some, None, refl, sym, ap, inl, inr, ◌∙◌, append_assoc, arith, length-drop}
use Rattle.std.proofs.lemmas.Bool.Decides.{eqb_tells, leb_tells, nat_tests}
use Rattle.std.proofs.lemmas.List.{append-nil, drop-drop, drop_more, get_or-drop, map-append}
use Rattle.std.specs.Prelude.{◌||◌, ◌==◌, nat_le, All, IfSome}
use Rattle.csv.specs.{Machine.after_end, Records.field_at, declared.parser.Action.Action}
use Rattle.csv.specs.declared.parser.Action.TheVariants as act
use Rattle.csv.specs.declared.parser.State.{State}
use Rattle.csv.specs.declared.parser.State.TheVariants as st
use Rattle.csv.specs.declared.parser.Terminator.TheVariants as term
use Rattle.trace_reader.specs.{Plain.{IsEnd, IsField, IsInside, IsRecord, ends_field, ends_line, fields_at, part_of}, Reading.records_after}
use Rattle.trace_reader.{specs.{Traces.field_text_at, declared.plain.Span.Span}, proofs.ReadingFacts.after_end_between}
use Rattle.trace_reader.proofs.RowFacts.{does, from_between, rows_are, rows_from, same_step}

-- ---- what a byte does

-- in a field
in_field_by : (a b : Bool) (x y z : State × Action) → (a || b) ≡ false → cond a x (cond b y z) ≡ z
in_field_by true b x y z goes = absurd (cc goes)
in_field_by false true x y z goes = absurd (cc goes)
in_field_by false false x y z _ = refl

joins : (c : ℕ) → ends_field c ≡ false → does st.InField c ≡ (st.InField, act.Copy)
joins c goes = in_field_by (c == 44) (ends_line c) _ _ _ goes

comma : (c : ℕ) → (c == 44) ≡ true → does st.InField c ≡ (st.StartField, act.EndField)
comma c is = rw is

line_by : (a b : Bool) (x y z : State × Action) → (a || b) ≡ true → a ≡ false → cond a x (cond b y z) ≡ y
line_by true b x y z ends none = absurd (cc none)
line_by false true x y z _ _ = refl
line_by false false x y z ends none = absurd (cc ends)

line : (c : ℕ) → ends_field c ≡ true → (c == 44) ≡ false → does st.InField c ≡ (after_end term.CRLF c, act.EndRecord)
line c ends none = line_by (c == 44) (ends_line c) _ _ _ ends none

-- a field without a quote at its start
unquoted_start : (c : ℕ) → (c == 34) ≡ false → does st.StartField c ≡ does st.InField c
unquoted_start c none = rw none

-- a record that begins with a byte
record_start : (c : ℕ) → ends_line c ≡ false → does st.StartRecord c ≡ does st.StartField c
record_start c none = rw none

skipped : (c : ℕ) → ends_line c ≡ true → does st.StartRecord c ≡ (st.StartRecord, act.Skip)
skipped c ends = rw ends

-- ---- a line end before a record changes nothing

skip_rows : (c : ℕ) (rest : List ℕ) → ends_line c ≡ true → rows_from st.StartRecord [] [] (c ∷ rest) ≡ rows_from st.StartRecord [] [] rest
unfolding rows_from
skip_rows c _ ends = rw (skipped c ends)

pub skip_line_end : (text : List ℕ) (at : ℕ) → at < length text → ends_line (get_or text at 0) ≡ true
    → records_after st.StartRecord (drop at text) ≡ records_after st.StartRecord (drop (at + 1) text)
skip_line_end text at within ends =
    ap (records_after st.StartRecord) (drop_more text at 0 within) ∙ rows_are (get_or text at 0 ∷ drop (at + 1) text)
    ∙ skip_rows (get_or text at 0) (drop (at + 1) text) ends ∙ sym (rows_are (drop (at + 1) text))

-- where no line ends, a record begins, and its first field
pub begins : (text : List ℕ) (at : ℕ) → at < length text → ends_line (get_or text at 0) ≡ false
    → records_after st.StartRecord (drop at text) ≡ rows_from st.StartField [] [] (drop at text)
begins text at within none =
    rows_are (drop at text) ∙ ap (rows_from st.StartRecord [] []) (drop_more text at 0 within)
    ∙ same_step st.StartRecord st.StartField [] [] (get_or text at 0) (drop (at + 1) text) (record_start (get_or text at 0) none)
    ∙ ap (rows_from st.StartField [] []) (sym (drop_more text at 0 within))

-- ---- the bytes of a field

one_joined : (f : List (List ℕ)) (p : List ℕ) (c : ℕ) (rest : List ℕ) → ends_field c ≡ false
    → rows_from st.InField f p (c ∷ rest) ≡ rows_from st.InField f (p ++ c ∷ []) rest
unfolding rows_from
one_joined f p c _ goes = rw (joins c goes)

all_joined : (f : List (List ℕ)) (p text : List ℕ) (n : ℕ) → n ≤ length text → ((k : ℕ) → k < n → ends_field (get_or text k 0) ≡ false)
    → rows_from st.InField f p text ≡ rows_from st.InField f (p ++ take n text) (drop n text)
all_joined f p _ zero _ _ = rw (append-nil p)
all_joined f p [] (suc n) within goes = absurd (omega arith)
all_joined f p (c ∷ rest) (suc n) within goes =
    rw (
      one_joined f p c rest (goes zero (omega arith)),
      all_joined f (p ++ c ∷ []) rest n (omega arith)
          (λ k below. goes (suc k) (omega arith)),
      append_assoc p (c ∷ []) (take n rest),
    )

-- a field up to its end
to_end : (f : List (List ℕ)) (text : List ℕ) (start end : ℕ) → IsField text start end
    → rows_from st.StartField f [] (drop start text)
    ≡ rows_from st.InField f (take (end - start) (drop start text)) (get_or text end 0 ∷ drop (end + 1) text)
to_end f text start end field =
    let within : start < length text = omega (arith, field.ended.ordered, field.ended.within) in
    let size : end - start ≤ length (drop start text) = omega (arith, length-drop start text, field.ended.within) in
    let place : start + (end - start) ≡ end = omega (arith, field.ended.ordered) in
    let first = drop_more text start 0 within in
    ap (rows_from st.StartField f []) first
    ∙ same_step st.StartField st.InField f [] (get_or text start 0) (drop (start + 1) text)
    (unquoted_start (get_or text start 0) field.unquoted)
    ∙ ap (rows_from st.InField f []) (sym first)
    ∙ all_joined f [] (drop start text) (end - start) size (λ k below.
    rw (get_or-drop start text k 0, field.ended.goes_on (start + k) (omega arith) (omega arith)))
    ∙ ap (rows_from st.InField f (take (end - start) (drop start text)))
    (rw (drop-drop (end - start) start text, place, drop_more text end 0 field.ended.within))

comma_ends : (f : List (List ℕ)) (p : List ℕ) (c : ℕ) (rest : List ℕ) → (c == 44) ≡ true
    → rows_from st.InField f p (c ∷ rest) ≡ rows_from st.StartField (f ++ p ∷ []) [] rest
unfolding rows_from
comma_ends f p c _ is = rw (comma c is)

line_ends : (f : List (List ℕ)) (p : List ℕ) (c : ℕ) (rest : List ℕ) → ends_field c ≡ true → (c == 44) ≡ false
    → rows_from st.InField f p (c ∷ rest) ≡ (f ++ p ∷ []) ∷ rows_from (after_end term.CRLF c) [] [] rest
unfolding rows_from
line_ends f p c _ ends none = rw (line c ends none)

-- ---- fields at their spans

-- a field's bytes are those at its span
at_span : (text : List ℕ) (start end : ℕ) → IsField text start end
    → part_of text (record { start = start; end = end }) ≡ take (end - start) (drop start text)
at_span text start end field =
    let ordered : nat_le start end ≡ true = grind (arith, nat_tests, field.ended.ordered) in
    let within : nat_le end (length text) ≡ true = grind (arith, nat_tests, field.ended.within) in
    rw (ordered, within)

fields_more : (text : List ℕ) (spans more : List Span) (start end : ℕ) → IsField text start end
    → more ≡ spans ++ record { start = start; end = end } ∷ []
    → fields_at text spans ++ take (end - start) (drop start text) ∷ [] ≡ fields_at text more
fields_more text spans _ start end field grown =
    ap (λ (p : List ℕ). fields_at text spans ++ p ∷ []) (sym (at_span text start end field))
    ∙ sym (map-append (part_of text) spans (record { start = start; end = end } ∷ [])) ∙ ap (fields_at text) (sym grown)

-- ---- spans within a text

pub none_inside : (text : List ℕ) (spans : List Span) → spans ≡ [] → All (IsInside text) spans
none_inside text spans none = λ k d low. absurd (let few : length spans ≡ 0 = rw none in omega arith)

with_last : {X : Type 0} (P : X → Type 0) (xs : List X) (x : X) → All P xs → P x → All P (xs ++ x ∷ [])
with_last P [] x _ last zero d _ = last
with_last P [] x all last (suc k) d low = absurd (omega arith)
with_last P (y ∷ xs) x all last zero d low = all zero d (omega arith)
with_last P (y ∷ xs) x all last (suc k) d low = with_last P xs x (λ j e less. all (suc j) e (omega arith)) last k d (omega arith)

pub inside_more : (text : List ℕ) (spans more : List Span) (start end : ℕ) → IsField text start end
    → more ≡ spans ++ record { start = start; end = end } ∷ [] → All (IsInside text) spans → All (IsInside text) more
inside_more text spans more start end field grown all =
    let span : Span = record { start = start; end = end } in
    let last : IsInside text span = record { ordered = field.ended.ordered; within = omega (arith, field.ended.within) } in
    rw grown (with_last (IsInside text) spans span all last)

-- a field that a comma ends
pub field_more : (text : List ℕ) (all : List (List (List ℕ))) (spans more : List Span) (start end : ℕ) → IsField text start end
    → (get_or text end 0 == 44) ≡ true → more ≡ spans ++ record { start = start; end = end } ∷ []
    → all ≡ rows_from st.StartField (fields_at text spans) [] (drop start text)
    → all ≡ rows_from st.StartField (fields_at text more) [] (drop (end + 1) text)
field_more text _ spans more start end field is grown so_far =
    rw (
      so_far,
      to_end (fields_at text spans) text start end field,
      comma_ends (fields_at text spans) (take (end - start) (drop start text))
          (get_or text end 0) (drop (end + 1) text) is,
      fields_more text spans more start end field grown,
    )

line_of : (c : ℕ) → ends_field c ≡ true → (c == 44) ≡ false → ends_line c ≡ true
line_of c ends none = rw none at ends

-- a field that a line end ends, and the record with it
pub record_ends : (text : List ℕ) (from : ℕ) (spans more : List Span) (start end : ℕ) → IsField text start end
    → (get_or text end 0 == 44) ≡ false → more ≡ spans ++ record { start = start; end = end } ∷ [] → All (IsInside text) spans
    → records_after st.StartRecord (drop from text) ≡ rows_from st.StartField (fields_at text spans) [] (drop start text)
    → IsRecord text from more (end + 1)
record_ends text from spans more start end field none grown all so_far =
    let c = get_or text end 0 in
    let rest = drop (end + 1) text in
    let here : end + 1 - 1 ≡ end = omega arith in
    record {
      after = record {
        some = omega arith;
        within = omega (arith, field.ended.within);
        ended = rw (here, line_of c field.ended.ends none);
      };
      first = rw (
        so_far,
        to_end (fields_at text spans) text start end field,
        line_ends (fields_at text spans)
            (take (end - start) (drop start text)) c rest field.ended.ends none,
        fields_more text spans more start end field grown,
        from_between (after_end term.CRLF c) rest (after_end_between term.CRLF c),
        rows_are rest,
      );
      inside = inside_more text spans more start end field grown all;
    }

-- one byte more that ends no field
pub goes_on_more : (text : List ℕ) (start at : ℕ) → ((k : ℕ) → start ≤ k → k < at → ends_field (get_or text k 0) ≡ false)
    → ends_field (get_or text at 0) ≡ false → (k : ℕ) → start ≤ k → k < at + 1 → ends_field (get_or text k 0) ≡ false
goes_on_more text start at before here k low high = elim (eqb_tells k at) [
  | inl same ↦ rw same.1 here
  | inr differs ↦ before k low (omega (arith, differs.1))
]

-- nothing of a record was read yet
pub none_yet : (text : List ℕ) (from start : ℕ) (spans : List Span) → spans ≡ [] → start < length text
    → ends_line (get_or text start 0) ≡ false
    → records_after st.StartRecord (drop start text) ≡ records_after st.StartRecord (drop from text)
    → records_after st.StartRecord (drop from text) ≡ rows_from st.StartField (fields_at text spans) [] (drop start text)
none_yet text _ start _ none within line same =
    sym same ∙ begins text start within line ∙ ap (λ s. rows_from st.StartField (fields_at text s) [] (drop start text)) (sym none)

-- the field at a column
pub at_column : (text : List ℕ) (spans : List Span) (column : ℕ) (d : Span) → column < length spans
    → field_text_at (fields_at text spans) column ≡ part_of text (get_or spans column d)
unfolding field_at
at_column text [] column d within = absurd (omega arith)
at_column _ (_ ∷ _) zero d _ = refl
at_column text (span ∷ spans) (suc column) d within = at_column text spans column d (omega arith)

-- no field ends between two places, nor from the second one up to a third one
pub joined : (text : List ℕ) (from at end : ℕ) → ((k : ℕ) → from ≤ k → k < at → ends_field (get_or text k 0) ≡ false)
    → ((k : ℕ) → at ≤ k → k < end → ends_field (get_or text k 0) ≡ false)
    → (k : ℕ) → from ≤ k → k < end → ends_field (get_or text k 0) ≡ false
joined _ _ at _ first second k low high = elim (leb_tells at k) [
  | inl past ↦ second k past.1 high
  | inr below ↦ first k low below.1
]

-- the field that ends there has no quote at its start
pub field_ends : (text : List ℕ) (start : ℕ) (found : Option ℕ) → (get_or text start 0 == 34) ≡ false
    → IfSome found (IsEnd text start) → IfSome found (IsField text start)
field_ends _ _ None _ _ = tt
field_ends _ _ (Some _) unquoted ended = record { unquoted = unquoted; ended = ended }

-- the first end from a later place on is that from a place on, if no field ends between them
pub end_later : (text : List ℕ) (from at : ℕ) (found : Option ℕ) → from ≤ at
    → ((k : ℕ) → from ≤ k → k < at → ends_field (get_or text k 0) ≡ false)
    → IfSome found (IsEnd text at) → IfSome found (IsEnd text from)
end_later _ _ at None _ _ _ = tt
end_later text from at (Some end) later before is = record {
  ordered = omega (arith, is.ordered);
  within = is.within;
  goes_on = joined text from at end before is.goes_on;
  ends = is.ends;
}

-- bytes above a comma end no field
pub above_goes : (text : List ℕ) (from end : ℕ) → ((k : ℕ) → from ≤ k → k < end → 44 < get_or text k 0)
    → (k : ℕ) → from ≤ k → k < end → ends_field (get_or text k 0) ≡ false
above_goes text from end above k low high = let here = above k low high in grind (arith, nat_tests)

-- a field whose bytes are above a comma, up to a comma
pub short_field : (text : List ℕ) (start stop : ℕ) → start ≤ stop → stop < length text
    → ((k : ℕ) → start ≤ k → k < stop → 44 < get_or text k 0) → get_or text stop 0 ≡ 44 → IsField text start stop
short_field text start stop ordered within above comma =
    let unquoted : (get_or text start 0 == 34) ≡ false = elim (leb_tells stop start) [
      | inl past ↦
          let same : stop ≡ start = omega (arith, past.1) in
          let here : get_or text start 0 ≡ 44 = rw (← same) comma in
          rw here
      | inr before ↦ let here = above start (omega arith) before.1 in grind (arith, nat_tests)
    ] in
    record {
      unquoted = unquoted;
      ended = record { ordered = ordered; within = within; goes_on = above_goes text start stop above; ends = rw comma };
    }
