-- What a query begins with, and what a readable query gives.
use Rattle.std.proofs.Common.{◌≡◌, ℕ, ◌+◌, ◌<◌, ◌≤◌, Bool, true, false, not, ◌||◌, cond, nat_eq, List, [], ◌∷◌, length, map, min, count_by}
use Rattle.std.proofs.Common.{None, refl, sym, ap, ◌∙◌, codes, arith}
use Rattle.std.proofs.lemmas.{Bool.{eqb-true, or_from, or_parts}, Slice.Eq.bytes_eq-Decides}
use Rattle.std.{proofs.lemmas.List.Elements.{All-nil, All-cons, All-head, All-tail}, specs.{List.{All, list_any}, Str.bytes_eq}}
use Rattle.marple_base.specs.{declared.field.Field.Field, Field.{all_fields, field_name}}
use Rattle.query_lang.specs.declared.{query.{Item.Item, Query.Query}, typing.{Earlier.Earlier, Given.Given, Known.Known}}
use Rattle.query_lang.specs.{declared.typing.StreamColumn.StreamColumn, Limits.IsReadable, Names.{number_in, with_name}, Checks.is_among}
use Rattle.query_lang.specs.declared.fault.TheConstants.{MAX_GROUPBYS}
use Rattle.query_lang.specs.Typing.{field_numbers, given_of, is_groupby, start_of, typed_names, with_fields}
use Rattle.query_types.specs.Fitting.{AreApart, AreDifferent, AreReady, Fits, FitsKnown}
use Rattle.query_lang.proofs.NameFacts.{with_bounds}
use Rattle.query_types.proofs.{ApartLaws.{apart_none, apart_push}, MadeLaws.names_of_made}
use Rattle.query_types.proofs.ValidLaws.{IsAmong, among_fields, among_self, item_more, numbers_known}
use Rattle.query_lang.specs.declared.typing.Meaning.TheVariants as meaning
use Rattle.query_lang.specs.declared.typing.Origin.TheVariants as origin

-- ---- the numbers of the fields' names

same_number : (names : List (List ℕ)) (a b : List ℕ) → IsAmong a names → number_in names a ≡ number_in names b → bytes_eq a b ≡ true
same_number [] a b h e = cc h
same_number (n ∷ names) a b h e = go (bytes_eq a n) refl (bytes_eq b n) refl (λ i k. same_number names a b i k) h e
  where
    go : (s : Bool) → bytes_eq a n ≡ s → (t : Bool) → bytes_eq b n ≡ t
        → (IsAmong a names → number_in names a ≡ number_in names b → bytes_eq a b ≡ true) → (s || list_any (bytes_eq a) names) ≡ true
        → cond (not s) (1 + number_in names a) 0 ≡ cond (not t) (1 + number_in names b) 0 → bytes_eq a b ≡ true
    go true x true y more h e = (bytes_eq-Decides a b).1 ((bytes_eq-Decides a n).0 x ∙ sym ((bytes_eq-Decides b n).0 y))
    go true x false y more h e = absurd (omega arith)
    go false x true y more h e = absurd (omega arith)
    go false x false y more h e = more h (omega arith)

other_number : (names : List (List ℕ)) (a b : List ℕ) → IsAmong a names → bytes_eq a b ≡ false
    → nat_eq (number_in names a) (number_in names b) ≡ false
other_number names a b h differ = go (nat_eq (number_in names a) (number_in names b)) refl
  where
    go : (t : Bool) → nat_eq (number_in names a) (number_in names b) ≡ t → t ≡ false
    go true e = sym (same_number names a b h (eqb-true (number_in names a) (number_in names b) e)) ∙ differ
    go false e = refl

abbrev number_of : List (List ℕ) → Field → ℕ
number_of names f = number_in names (field_name f)

abbrev IsThere : List (List ℕ) → Field → Type 0
IsThere names f = IsAmong (field_name f) names

abbrev has_text : Field → List Field → Bool
has_text f fields = list_any (λ g. bytes_eq (field_name g) (field_name f)) fields

abbrev TextsDiffer : List Field → Type 0
TextsDiffer [] = Unit {0}
TextsDiffer (f ∷ rest) = (has_text f rest ≡ false) × TextsDiffer rest

other_numbers : (names : List (List ℕ)) (f : Field) (rest : List Field) → All (IsThere names) rest → has_text f rest ≡ false
    → is_among (number_of names f) (map (number_of names) rest) ≡ false
other_numbers names f [] h e = refl
other_numbers names f (g ∷ rest) h e =
    let one = or_parts (bytes_eq (field_name g) (field_name f)) (has_text f rest) e in
    or_from (nat_eq (number_of names g) (number_of names f)) (is_among (number_of names f) (map (number_of names) rest))
    (other_number names (field_name g) (field_name f) (All-head (IsThere names) g rest h) one.0)
    (other_numbers names f rest (All-tail (IsThere names) g rest h) one.1)

numbers_differ : (names : List (List ℕ)) (fields : List Field) → All (IsThere names) fields → TextsDiffer fields
    → AreDifferent (map (number_of names) fields)
numbers_differ names [] h d = tt
numbers_differ names (f ∷ rest) h d = (
  other_numbers names f rest (All-tail (IsThere names) f rest h) d.0,
  numbers_differ names rest
      (All-tail (IsThere names) f rest h) d.1,
)

fields_there : (fields : List Field) (names : List (List ℕ)) → All (IsThere (with_fields names fields)) fields
fields_there [] names = All-nil (IsThere names)
fields_there (f ∷ rest) names =
    let after = with_name names (field_name f) in
    All-cons (IsThere (with_fields after rest)) f rest (among_fields (field_name f) rest after (among_self (field_name f) names))
    (fields_there rest after)

texts_differ : TextsDiffer all_fields
texts_differ = (refl, (refl, (refl, (refl, (refl, (refl, (refl, (refl, (refl, (refl, (refl, (refl, (refl, (refl, tt))))))))))))))

-- ---- how many names there are

fields_more : (fields : List Field) (names : List (List ℕ)) → length (with_fields names fields) ≤ length names + length fields
fields_more [] names = omega arith
fields_more (f ∷ rest) names = omega (arith, (with_bounds names (field_name f)).1, fields_more rest (with_name names (field_name f)))

number_most : (text : List ℕ) (names : List (List ℕ)) → number_in names text ≤ length names
number_most text [] = omega arith
number_most text (n ∷ names) = go (bytes_eq text n) (number_most text names)
  where
    go : (b : Bool) → number_in names text ≤ length names → cond (not b) (1 + number_in names text) 0 ≤ length (n ∷ names)
    go true h = omega arith
    go false h = omega (arith, h)

fields_apart : (names : List (List ℕ)) → length (typed_names names) < 65536 → AreApart (field_numbers (typed_names names))
fields_apart names few =
    let below = numbers_known names in
    record {
      below = λ k d i. omega (arith, below k d i);
      once = numbers_differ (typed_names names) all_fields
          (fields_there all_fields names) texts_differ;
    }

start_fits : (names : List (List ℕ)) → length (typed_names names) < 65536 → Fits (start_of (typed_names names))
start_fits names few =
    let ids = field_numbers (typed_names names) in
    let number = number_in (typed_names names) (codes "pktstream") in
    let columns = map (λ id. let column : StreamColumn = record { name = id; origin = origin.Field } in column) ids in
    let one : Known = record {
      name = number;
      meaning = meaning.Stream (record { number = 0; columns = columns; hidden = []; table = None });
    } in
    let fits : FitsKnown one = record { columns = rw (names_of_made origin.Field ids) (fields_apart names few); table = tt } in
    record {
      known = All-cons FitsKnown one [] fits (All-nil FitsKnown);
      names = apart_push [] number apart_none (omega (arith, few, number_most (codes "pktstream") (typed_names names))) refl;
      folds = omega arith;
      bindings = omega arith;
      groups = omega arith;
    }

-- the items of a readable query can be checked
pub ready : (q : Query) → IsReadable q → AreReady (typed_names q.names) q.items
ready q readable =
    let more = fields_more all_fields q.names in
    let few : length (typed_names q.names) < 65536 = omega (arith, more, readable.few) in
    record {
      count = omega (arith, few);
      limits = readable.limits;
      numbered = λ k d i. item_more (length q.names) 65536 _ (omega (arith, readable.few)) (readable.names k d i);
      start = start_fits q.names few;
    }

pub all_ready : (q : Query) (all : List (List ℕ)) → IsReadable q → all ≡ typed_names q.names → AreReady all q.items
all_ready q all readable same = rw same (ready q readable)

pub start_is : (names : List (List ℕ)) (items : List Item) (start : Earlier) → AreReady names items → start ≡ start_of names → Fits start
start_is names items start r same = rw same r.start

-- a ninth groupby isn't counted
pub given_few : (given : Given) (names : List (List ℕ)) (items : List Item) → given ≡ given_of names items → given.groups ≤ MAX_GROUPBYS
given_few given names items same = let groups : given.groups ≡ min (count_by is_groupby items) MAX_GROUPBYS =
    ap (λ (g : Given). g.groups) same in omega (arith, groups)
