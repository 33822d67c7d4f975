-- The fields by which facts say that a trace may be split are keys of each needed groupby.
use Rattle.std.proofs.Common.{◌≡◌, ℕ, suc, zero, ◌+◌, ◌<◌, Bool, true, false, cond, not, List, [], ◌∷◌, length, Option, None, Some}
use Rattle.std.proofs.{Common.{slice_get, refl, sym, ap, ◌∙◌, subst, arith}, lemmas.Bool.and_parts}
use Rattle.std.{proofs.lemmas.List.Elements.{All-nil, All-cons, All-weaker}, specs.{Prelude.{All, filter, is_some}, List.list_all}}
use Rattle.marple_base.specs.{Field.all_fields, declared.field.Field.Field}
use Rattle.net_laws.specs.Fields.{makes_field, names_field}
use Rattle.part_laws.specs.{AcceptedParts.AcceptedFieldsKeepKeys, Parts.{HasFieldKey, groupbys}}
use Rattle.query_facts.specs.Needs as needs
use Rattle.query_facts.specs.{Needs.{is_one_of, needed_from, needed_groupbys, needed_tables}, Parts.{all_have, by_or, first_blocked}}
use Rattle.query_facts.specs.Parts.{first_needed, first_not_additive, place_has_field, keeps, names_it, parts_of, shared_fields, sums_by}
use Rattle.query_facts.specs.{Parts.unless_blocked, declared.parts.{Parts.{Parts, TheVariants.By}, Unsplit.Unsplit}}
use Rattle.query_lang.specs.{Streams.taking_of, declared.{fault.Span.Span, typed.TypedOp.{TypedOp, TheVariants.{Filter, Map, Zip, Group}}}}
use Rattle.query_lang.specs.declared.typed.{TypedQuery.TypedQuery, TypedStream.TypedStream}
use Rattle.facts_laws.specs.FactLaws.{NeededKeysAreKept}

-- ---- the fields

-- what is kept of a list passes the test
kept : {A : Type 0} (p : A → Bool) (items : List A) → All (λ item. p item ≡ true) (filter p items)
kept p [] = All-nil (λ item. p item ≡ true)
kept p (item ∷ items) = by (p item) refl (kept p items)
  where
    by : (b : Bool) → p item ≡ b → All (λ found. p found ≡ true) (filter p items)
        → All (λ found. p found ≡ true) (cond b (item ∷ filter p items) (filter p items))
    by true is rest = All-cons (λ found. p found ≡ true) item (filter p items) is rest
    by false is rest = rest

-- sums aren't splitting by fields
sums_are_not_by : (apart needed : Option Span) (fields : List Field) → sums_by apart needed ≡ By fields → ⊥
sums_are_not_by (Some span) needed fields is = absurd (cc is)
sums_are_not_by None (Some span) fields is = absurd (cc is)
sums_are_not_by None None fields is = absurd (cc is)

by_is : (shared fields : List Field) (others : Parts) → (others ≡ By fields → ⊥) → by_or shared others ≡ By fields → shared ≡ fields
by_is [] fields others not is = absurd (not is)
by_is (field ∷ shared) fields others not is = cc is

not_blocked : (blocked : Option (Unsplit × Span)) (others : Parts) (fields : List Field) → unless_blocked blocked others ≡ By fields
    → others ≡ By fields
not_blocked None others fields is = is
not_blocked (Some found) others fields is = absurd (cc is)

-- the groupbys that are needed, by their places
abbrev places : TypedQuery → List ℕ
places q = needed_groupbys (needed_tables q) q.streams

shared : (q : TypedQuery) (fields : List Field) → parts_of q ≡ By fields → shared_fields q (places q) ≡ fields
shared q fields is =
    let groups = needs.groupbys q.streams in
    let sums = sums_by (first_not_additive q (places q)) (first_needed (needed_tables q) groups q.finals) in
    by_is (shared_fields q (places q)) fields sums
    (sums_are_not_by (first_not_additive q (places q)) (first_needed (needed_tables q) groups q.finals) fields)
    (not_blocked (first_blocked q groups (needed_tables q) groups q.finals) (by_or (shared_fields q (places q)) sums) fields is)

all_kept : (q : TypedQuery) → All (λ field. keeps q (places q) field ≡ true) (shared_fields q (places q))
unfolding shared_fields
all_kept q = kept (keeps q (places q)) all_fields

-- ---- the groupbys

module _ (q : TypedQuery) (field : Field) (numbers : List ℕ) where
  -- the streams that are groupbys
  abbrev grouped : List TypedStream → List TypedStream
  grouped streams = filter (λ (one : TypedStream). is_some (taking_of one.op)) streams

  -- a groupby with this number is there, and has a key of the field's name
  abbrev Keyed : List TypedStream → ℕ → Type 0
  Keyed streams k =
      (one : TypedStream) × (slice_get (grouped streams) k ≡ Some one) × (names_field field q.names one.columns ≡ true)

  -- these streams are those of the query from this place on
  abbrev AreFrom : ℕ → List TypedStream → Type 0
  AreFrom place streams = (j : ℕ) → slice_get q.streams (place + j) ≡ slice_get streams j

  later : (place : ℕ) (one : TypedStream) (streams : List TypedStream) → AreFrom place (one ∷ streams) → AreFrom (place + 1) streams
  later place one streams are j =
      let same : place + 1 + j ≡ place + suc j = omega arith in
      ap (slice_get q.streams) same ∙ are (suc j)

  next : (group k : ℕ) → is_one_of numbers (group + suc k) ≡ true → is_one_of numbers (group + 1 + k) ≡ true
  next group k needed =
      let same : group + suc k ≡ group + 1 + k = omega arith in
      subst (λ n. is_one_of numbers n ≡ true) same needed

  first_has : (place : ℕ) (one : TypedStream) (streams : List TypedStream) → AreFrom place (one ∷ streams)
      → place_has_field q field place ≡ true → names_field field q.names one.columns ≡ true
  first_has place one streams are has =
      let same : place ≡ place + 0 = omega arith in
      let there : slice_get q.streams place ≡ Some one = ap (slice_get q.streams) same ∙ are 0 in
      subst (λ found. names_it field q.names found ≡ true) there has

  -- what is known of further streams
  abbrev More : List TypedStream → Type 0
  More streams = (place group k : ℕ) → AreFrom place streams
      → list_all (place_has_field q field) (needed_from numbers place group streams) ≡ true → k < length (grouped streams)
      → is_one_of numbers (group + k) ≡ true → Keyed streams k

  -- the same with a stream before them, which is a groupby or isn't, and of which the number is needed or isn't
  step : (one : TypedStream) (streams : List TypedStream) (place group k : ℕ) → AreFrom place (one ∷ streams) → More streams
      → (groups asked : Bool) → is_one_of numbers group ≡ asked
      → list_all (place_has_field q field) (cond groups (cond asked (place ∷ needed_from numbers (place + 1) (group + 1) streams)
      (needed_from numbers (place + 1) (group + 1) streams)) (needed_from numbers (place + 1) group streams)) ≡ true
      → k < length (cond groups (one ∷ grouped streams) (grouped streams)) → is_one_of numbers (group + k) ≡ true
      → (found : TypedStream) × (slice_get (cond groups (one ∷ grouped streams) (grouped streams)) k ≡ Some found)
      × (names_field field q.names found.columns ≡ true)
  step one streams place group zero are more true true is all within needed =
      let both = and_parts (place_has_field q field place)
      (list_all (place_has_field q field) (needed_from numbers (place + 1) (group + 1) streams)) all in
      (one, refl, first_has place one streams are both.0)
  step one streams place group (suc k) are more true true is all within needed =
      let both = and_parts (place_has_field q field place)
      (list_all (place_has_field q field) (needed_from numbers (place + 1) (group + 1) streams)) all in
      more (place + 1) (group + 1) k (later place one streams are) both.1 (omega arith) (next group k needed)
  step one streams place group zero are more true false is all within needed =
      let same : group + 0 ≡ group = omega arith in
      let asked : is_one_of numbers group ≡ true = subst (λ n. is_one_of numbers n ≡ true) same needed in
      absurd (cc (is, asked))
  step one streams place group (suc k) are more true false is all within needed =
      more (place + 1) (group + 1) k (later place one streams are) all (omega arith) (next group k needed)
  step one streams place group k are more false asked is all within needed =
      more (place + 1) group k (later place one streams are) all within needed

  -- whether a stream is a groupby, as its uses say it and as its operator does
  groups_same : (op : TypedOp) → is_some (taking_of op) ≡ needs.is_groupby op
  groups_same (Filter input condition) = refl
  groups_same (Map input values) = refl
  groups_same (Zip left right slots) = refl
  groups_same (Group input keys f args) = refl

  keyed : (streams : List TypedStream) → More streams
  keyed [] place group k are all within needed = absurd (omega arith)
  keyed (one ∷ streams) place group k are all within needed =
      subst (λ groups. k < length (cond groups (one ∷ grouped streams) (grouped streams))
      → (found : TypedStream) × (slice_get (cond groups (one ∷ grouped streams) (grouped streams)) k ≡ Some found)
      × (names_field field q.names found.columns ≡ true)) (sym (groups_same one.op))
      (λ less. step one streams place group k are (keyed streams) (needs.is_groupby one.op) (is_one_of numbers group) refl all less needed)
      within

-- ---- the law

from_zero : (j : ℕ) → 0 + j ≡ j
from_zero j = omega arith

has_key : (q : TypedQuery) (i : ℕ) (field : Field) → i < length (groupbys q) → is_one_of (needed_tables q) i ≡ true
    → keeps q (places q) field ≡ true → HasFieldKey q i field
has_key q i field within needed keep =
    let both = and_parts (not (makes_field field q.names q.streams)) (all_have q (places q) field) keep in
    let asked : is_one_of (needed_tables q) (0 + i) ≡ true = subst (λ n. is_one_of (needed_tables q) n ≡ true) (sym (from_zero i)) needed in
    let found = keyed q field (needed_tables q) q.streams 0 0 i (λ j. ap (slice_get q.streams) (from_zero j)) both.1 within asked in
    record { one = found.0; groupby = found.1; key = found.2; unmade = not_false (makes_field field q.names q.streams) both.0 }
  where
    not_false : (b : Bool) → not b ≡ true → b ≡ false
    not_false true e = absurd (cc e)
    not_false false e = refl

have_keys : (q : TypedQuery) (i : ℕ) (fields : List Field) → i < length (groupbys q) → is_one_of (needed_tables q) i ≡ true
    → All (λ field. keeps q (places q) field ≡ true) fields → All (HasFieldKey q i) fields
have_keys q i fields within needed all = All-weaker _ _ (λ field keep. has_key q i field within needed keep) fields all

pub needed_keys_are_kept_lem : AcceptedFieldsKeepKeys → NeededKeysAreKept
needed_keys_are_kept_lem keep text q i fields choose accepts is within needed =
    keep text q i fields choose accepts
    (have_keys q i fields within needed
    (subst (λ found. All (λ field. keeps q (places q) field ≡ true) found) (shared q fields is) (all_kept q)))
