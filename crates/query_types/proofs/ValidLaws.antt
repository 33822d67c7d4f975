-- The typed query of a readable query is valid.
use Rattle.std.proofs.Common.{◌≡◌, ℕ, ◌+◌, ◌<◌, ◌≤◌, ◌^◌, Bool, true, false, ◌||◌, cond, List, [], ◌∷◌, ◌++◌, length, map, min, count_by}
use Rattle.std.proofs.Common.{◌∙◌, nat_lt, Ok, Err, Result, IfOk, not, refl, sym, ap, subst, append-nil, arith}
use Rattle.std.proofs.lemmas.{List.{Folds.list_any-append, Elements.{All-nil, All-cons, All-map}}, Slice.Eq.bytes_eq-Decides}
use Rattle.std.specs.{List.{All, list_any}, Str.bytes_eq}
use Rattle.marple_base.specs.{declared.field.Field.Field, Field.{all_fields, field_name}}
use Rattle.query_lang.specs.declared.{error.QueryError.QueryError, fault.FaultKind.TheVariants.NothingPrinted, query.FinalOp.FinalOp}
use Rattle.query_lang.specs.declared.{query.{Item.Item, Query.Query, StreamOp.StreamOp}, typed.{PrintOf.PrintOf, TypedQuery.TypedQuery}}
use Rattle.query_lang.specs.{declared.typing.StreamColumn.StreamColumn, Answers.Answers, Folds.IsValidFold, Names.{number_in, with_name}}
use Rattle.query_lang.proofs.NameFacts.{with_bounds}
use Rattle.query_lang.specs.{Streams.takings, TypedStreams.column_names, declared.fault.TheConstants.MAX_GROUPBYS}
use Rattle.query_lang.specs.Limits.{IsNumbered, IsNumberedStream, IsNumberedFinal, IsReadable}
use Rattle.query_lang.specs.TypedQueries.{AreNames, HasNames, IsQueryTable, IsValidQuery}
use Rattle.query_lang.specs.Typing.{items_checked, with_fields, typed_names, field_numbers, is_groupby, given_of, start_of, checked}
use Rattle.query_types.{specs.Numbers.{greatest_of, item_number}, proofs.ExprLaws.{from_ok, same_ok, found_first, must_ok}}
use Rattle.query_types.proofs.{ItemLaws.{Standing, items_stand}, ViewLaws.Whole, WholeLaws.{IsPrinted, Sound}}
use Rattle.query_types.proofs.{QueryLaws.{items_sound, items_count}, MadeLaws.{IsPart, IsName, names_of_made}}
use Rattle.query_lang.specs.declared.query.FinalOp.TheVariants as final_ops
use Rattle.query_lang.specs.declared.query.Item.TheVariants as item
use Rattle.query_lang.specs.declared.query.StreamOp.TheVariants as ops
use Rattle.query_lang.specs.declared.typed.PrintOf.TheVariants as place
use Rattle.query_lang.specs.declared.typing.Origin.TheVariants as origin

any_front : (p : List ℕ → Bool) (xs ys : List (List ℕ)) → list_any p xs ≡ true → list_any p (xs ++ ys) ≡ true
any_front p xs ys e = list_any-append p xs ys ∙ ap (λ b. b || list_any p ys) e

any_last : (p : List ℕ → Bool) (xs : List (List ℕ)) (x : List ℕ) → p x ≡ true → list_any p (xs ++ x ∷ []) ≡ true
any_last p xs x e = list_any-append p xs (x ∷ []) ∙ ap (λ b. list_any p xs || (b || false)) e ∙ either (list_any p xs)
  where
    either : (b : Bool) → (b || true) ≡ true
    either true = refl
    either false = refl

abbrev pub IsAmong : List ℕ → List (List ℕ) → Type 0
IsAmong text names = list_any (bytes_eq text) names ≡ true

among_more : (text other : List ℕ) (names : List (List ℕ)) → IsAmong text names → IsAmong text (with_name names other)
among_more text other names h = go (list_any (bytes_eq other) names)
  where
    go : (b : Bool) → IsAmong text (cond b names (names ++ other ∷ []))
    go true = h
    go false = any_front (bytes_eq text) names (other ∷ []) h

pub among_self : (text : List ℕ) (names : List (List ℕ)) → IsAmong text (with_name names text)
among_self text names = go (list_any (bytes_eq text) names) refl
  where
    go : (b : Bool) → list_any (bytes_eq text) names ≡ b → IsAmong text (cond b names (names ++ text ∷ []))
    go true e = e
    go false e = any_last (bytes_eq text) names text ((bytes_eq-Decides text text).1 refl)

pub among_fields : (text : List ℕ) (fields : List Field) (names : List (List ℕ)) → IsAmong text names
    → IsAmong text (with_fields names fields)
among_fields text [] names h = h
among_fields text (f ∷ rest) names h = among_fields text rest (with_name names (field_name f)) (among_more text (field_name f) names h)

number_known : (text : List ℕ) (names : List (List ℕ)) → IsAmong text names → number_in names text < length names
number_known text [] h = cc h
number_known text (n ∷ names) h = go (bytes_eq text n) (λ k. number_known text names k) h
  where
    go : (b : Bool) → (IsAmong text names → number_in names text < length names) → (b || list_any (bytes_eq text) names) ≡ true
        → cond (not b) (1 + number_in names text) 0 < length (n ∷ names)
    go true more h = omega arith
    go false more h = omega (arith, more h)

fields_known : (fields : List Field) (names : List (List ℕ)) → All (λ f. number_in (with_fields names fields) (field_name f) < length
    (with_fields names fields)) fields
fields_known [] names = let P : Field → Type 0 = λ f. number_in names (field_name f) < length names in All-nil P
fields_known (f ∷ rest) names =
    let after = with_name names (field_name f) in
    let P : Field → Type 0 = λ g. number_in (with_fields after rest) (field_name g) < length (with_fields after rest) in
    All-cons P f rest (number_known (field_name f) (with_fields after rest)
    (among_fields (field_name f) rest after (among_self (field_name f) names))) (fields_known rest after)

pub numbers_known : (names : List (List ℕ)) → AreNames (length (typed_names names)) (field_numbers (typed_names names))
numbers_known names = All-map (IsName (length (typed_names names))) (λ f. number_in (typed_names names) (field_name f)) all_fields
    (fields_known all_fields names)

fields_grow : (fields : List Field) (names : List (List ℕ)) → length names ≤ length (with_fields names fields)
fields_grow [] names = omega arith
fields_grow (f ∷ rest) names = omega (arith, (with_bounds names (field_name f)).0, fields_grow rest (with_name names (field_name f)))

stream_more : (n m : ℕ) (op : StreamOp) → n ≤ m → IsNumberedStream n op → IsNumberedStream m op
stream_more n m (ops.Filter input e) h v = tt
stream_more n m (ops.Map input columns) h v = λ k d i. omega (arith, v k d i)
stream_more n m (ops.Zip left right) h v = tt
stream_more n m (ops.Group input keys f) h v = tt

final_more : (n m : ℕ) (op : FinalOp) → n ≤ m → IsNumberedFinal n op → IsNumberedFinal m op
final_more n m (final_ops.Filter input e) h v = tt
final_more n m (final_ops.Map input columns) h v = λ k d i. omega (arith, v k d i)
final_more n m (final_ops.Group input keys f) h v = tt
final_more n m (final_ops.Join left right) h v = tt
final_more n m (final_ops.Top input column kept span) h v = tt

pub item_more : (n m : ℕ) (one : Item) → n ≤ m → IsNumbered n one → IsNumbered m one
item_more n m (item.Fold d) h v = (omega (arith, v.0), λ k e i. omega (arith, v.1 k e i), λ k e i. omega (arith, v.2 k e i))
item_more n m (item.Stream d) h v = (omega (arith, v.0), stream_more n m d.op h v.1)
item_more n m (item.Final d) h v = (omega (arith, v.0), final_more n m d.op h v.1)
item_more n m (item.Print name) h v = tt

start_stands : (names : List (List ℕ)) → Standing (length (typed_names names)) (start_of (typed_names names))
start_stands names = record {
  folds = All-nil IsValidFold;
  fold_names = All-nil (HasNames (length (typed_names names)));
  bindings = omega arith;
  groups = refl;
  most = omega arith;
}

start_sound : (w : Whole) (names : List (List ℕ)) → w.names ≡ length (typed_names names) → Sound w (start_of (typed_names names))
start_sound w names is =
    let ids = field_numbers (typed_names names) in
    let same = names_of_made origin.Field ids in
    let N : ℕ → List ℕ → Type 0 = λ n l. AreNames n l in
    let S : ℕ → Type 0 = λ n. Standing n (start_of (typed_names names)) in
    let all : AreNames (length (typed_names names)) (column_names (map
    (λ id. let column : StreamColumn = record { name = id; origin = origin.Field } in column) ids)) =
    subst (λ l. N (length (typed_names names)) l) (sym same) (numbers_known names) in
    record {
      base = subst S (sym is) (start_stands names);
      known = (
        record {
          number = omega arith;
          width = sym (ap length same);
          names =
              subst (λ n. N n (column_names (map (λ id. let column : StreamColumn = record { name = id; origin = origin.Field } in column)
              ids))) (sym is) all;
          table = tt;
        },
        tt,
      );
      streams = tt;
      finals = tt;
      prints = All-nil (IsPrinted w);
    }

table_there : (q : TypedQuery) (w : Whole) (p : PrintOf) → w.streams ≡ q.streams → w.finals ≡ q.finals → IsPrinted w p → IsQueryTable q p
table_there q w (place.Group number) s f h = omega (arith, ap (λ l. length (takings l)) s)
table_there q w (place.Final number) s f h = omega (arith, ap length f)

-- what the check of a readable query gives is valid, where the numbers in its text are words
pub query_valid : (q : Query) (typed : TypedQuery) → IsReadable q → greatest_of (map item_number q.items) < 2 ^ 64 → checked q ≡ Ok typed
    → IsValidQuery typed
query_valid q typed readable words e =
    let names = typed_names q.names in
    let first = found_first (items_checked (given_of names q.items) (start_of names) q.items) _ _ e in
    let last = must_ok (nat_lt 0 (length first.0.prints)) NothingPrinted q.end _ typed first.2 in
    let end = first.0 in
    let w : Whole = record {
      names = length names;
      groups = length (takings end.streams);
      folds = end.folds;
      streams = end.streams;
      finals =
          end.finals;
    } in
    let part : IsPart w end = record {
      later_folds = [];
      folds = sym (append-nil end.folds);
      later_streams = [];
      streams =
          sym (append-nil end.streams);
      later_finals = [];
      finals = sym (append-nil end.finals);
    } in
    let grows : length q.names ≤ length names = fields_grow all_fields q.names in
    let numbered : All (IsNumbered (length names)) q.items = λ k d i. item_more (length q.names) (length names) _ grows
    (readable.names k d i) in
    let stands = items_stand (length names) (given_of names q.items) q.items (start_of names) end readable.limits numbered words
    (start_stands q.names) first.1 in
    let count = items_count (given_of names q.items) q.items (start_of names) end first.1 in
    let same : min (count_by is_groupby q.items) MAX_GROUPBYS ≡ length (takings end.streams) =
    omega (arith, count, stands.groups, stands.most) in
    let s = items_sound w (given_of names q.items) q.items (start_of names) end refl same readable.limits numbered (omega arith)
    readable.keys words (start_sound w q.names refl) first.1 part in
    let typed_is : TypedQuery = record {
      names = names;
      folds = end.folds;
      streams = end.streams;
      finals = end.finals;
      prints =
          end.prints;
    } in
    from_ok IsValidQuery last.1 (record {
      folds = s.base.folds;
      fold_names = s.base.fold_names;
      streams = s.streams;
      finals = s.finals;
      prints = λ k d i. table_there typed_is w _ refl refl (s.prints k d i);
      most_bindings = s.base.bindings;
      most_groupbys = omega (arith, s.base.groups, s.base.most);
    })

-- the names of a typed query
query_names : (q : Query) (typed : TypedQuery) → checked q ≡ Ok typed → typed.names ≡ typed_names q.names
query_names q typed e =
    let names = typed_names q.names in
    let first = found_first (items_checked (given_of names q.items) (start_of names) q.items) _ _ e in
    let last = must_ok (nat_lt 0 (length first.0.prints)) NothingPrinted q.end _ typed first.2 in
    ap (λ (z : TypedQuery). z.names) (sym (same_ok _ _ last.1))

-- the same of what is answered where memory may run out
pub answer_valid : (q : Query) (answer : Result TypedQuery QueryError) → IsReadable q
    → IfOk answer (λ typed. greatest_of (map item_number q.items) < 2 ^ 64) → Answers answer (checked q) → IfOk answer IsValidQuery
answer_valid q (Ok typed) readable words given = query_valid q typed readable words given
answer_valid q (Err error) readable words given = tt

pub answer_named : (q : Query) (answer : Result TypedQuery QueryError) → Answers answer (checked q)
    → IfOk answer (λ typed. typed.names ≡ typed_names q.names)
answer_named q (Ok typed) given = query_names q typed given
answer_named q (Err error) given = tt
