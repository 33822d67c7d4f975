-- The names of each query that was checked differ.
use Rattle.marple_laws.proofs.{Differ.NamesDiffer, Items.{IsIn, found_first, in_at, in_last, in_left, in_push, must_not_ok, must_ok}}
use Rattle.marple_laws.proofs.{Items.{new_push, not_in, same_ok}, Places.{Good, IsBelow, fold_good, grown, meaning_cases, place_at}}
use Rattle.marple_laws.proofs.Words
use Words.{Earlier, FoldView, Given, Known, List, Meaning, Name, NameTaken, None, NothingPrinted, Ok, Option, PrintOf, Query, Some}
use Words.{TableView, TypedQuery, [], ap, arith, checked, codes, given_of, inl, inr, is_among, is_some, item_checked, items_checked, length}
use Words.{length_push, nat_lt, nat_tests, number_in, option_map, print_checked, start_of, subst, sym, true, typed_names, ℕ, ◌+◌, ◌<◌, ◌∙◌}
use Words.{◌∷◌, ◌≡◌}
use Rattle.marple_laws.proofs.Places.{place_cases, place_in, some_kept, some_new, stream_good}
use Rattle.query_lang.specs.TypedFinals.{as_table, final_checked, five_fields, made_final, table_at, table_named, with_final}
use Rattle.query_lang.specs.{TypedStreams.{begun, meaning_of}, Typing.packet_stream, declared.query.{FinalDef.FinalDef, Item.Item}}
use Rattle.query_lang.specs.declared.typing.MadeFinal.{MadeFinal}
use Rattle.query_lang.specs.declared.query.Item.TheVariants as item
use Rattle.query_lang.specs.declared.typed.PrintOf.TheVariants as place
use Rattle.query_lang.specs.declared.typing.Meaning.TheVariants as meaning

-- one more final
with_final_good : (packets : ℕ) (e : Earlier) (name : Name) (made : MadeFinal) → Good packets e → Good packets (with_final e name made)
with_final_good packets e name made good =
    let entry : Known = record {
      name = name.id;
      meaning = meaning.Final (record { place = place.Final (length e.finals); columns = made.columns; keys = made.keys });
    } in
    record {
      names = grown entry good (omega arith) (omega (arith, more)) fresh below;
      prints = good.prints;
      streams_known = λ id i. some_kept e.known entry id (good.streams_known id i);
      streams = good.streams;
      folds_known = λ id v h. elim (meaning_cases e.known entry id (meaning.Fold v) h) [
        | inl old ↦ good.folds_known id v old
        | inr new ↦ (let final = new.1 in cc)
      ];
      folds = good.folds;
      columns = good.columns;
    }
  where
    more : length (with_final e name made).finals ≡ length e.finals + 1
    more = length_push e.finals _

    fresh : (p : PrintOf) → Some (place.Final (length e.finals)) ≡ Some p → IsBelow e.groups (length e.finals) p → ⊥
    fresh p h l =
        let is_p : place.Final (length e.finals) ≡ p = cc in
        let low : length e.finals < length e.finals = subst (IsBelow e.groups (length e.finals)) (sym is_p) l in
        omega (arith, low)

    below : (p : PrintOf) → Some (place.Final (length e.finals)) ≡ Some p → IsBelow e.groups (length (with_final e name made).finals) p
    below p h =
        let is_p : place.Final (length e.finals) ≡ p = cc in
        subst (IsBelow e.groups (length (with_final e name made).finals)) is_p (omega (arith, more))

final_good : {packets : ℕ} (given : Given) {e after : Earlier} (d : FinalDef) → Good packets e → final_checked given e d ≡ Ok after
    → Good packets after
final_good {packets} given {e} d good ok =
    let b = found_first (begun e d.name) ok in
    let m = found_first (made_final given e d.op) b.2 in
    subst (Good packets) (same_ok m.2) (with_final_good _ e _ _ good)

-- the place of a table that has a name
place_of_table : (known : List Known) (name : Name) (t : TableView) → table_named known name ≡ Ok t → place_at known name.id ≡ Some t.place
place_of_table known name t ok = by _ ok
  where
    at : (o : Option TableView) → table_at o name.span ≡ Ok t → option_map (λ (t : TableView). t.place) o ≡ Some t.place
    at None ok = cc
    at (Some s) ok = ap (λ (t : TableView). Some t.place) (same_ok ok)

    by : (o : Option Meaning) → as_table o name.span ≡ Ok t → place_in o ≡ Some t.place
    by None ok = cc
    by (Some (meaning.Fold f)) ok = cc
    by (Some (meaning.Stream s)) ok = at _ ok
    by (Some (meaning.Final s)) ok = ap (λ (t : TableView). Some t.place) (same_ok ok)

-- one more print
print_good : {packets : ℕ} {e after : Earlier} (name : Name) → Good packets e → print_checked e name ≡ Ok after → Good packets after
print_good {packets} {e} name good ok =
    let t = found_first (table_named e.known name) ok in
    let free = must_not_ok (is_among name.id e.printed) NameTaken name.span _ t.2 in
    let at = place_of_table e.known name t.0 t.1 in
    subst (Good packets) (same_ok free.1)
    (record {
      names = record {
        places = good.names.places;
        bounds = good.names.bounds;
        prints_known = λ p i. elim (in_push e.prints t.0.place p i) [
          | inl old ↦ (let k = good.names.prints_known p old in (k.0, in_left k.0 e.printed (name.id ∷ []) k.1, k.2))
          | inr same ↦ (name.id, in_last e.printed name.id, at ∙ ap Some (sym same))
        ];
      };
      prints = new_push [] e.prints t.0.place good.prints (λ i. (let k = good.names.prints_known t.0.place i in
          let same : k.0 ≡ name.id = good.names.places k.0 name.id t.0.place k.2 at in not_in e.printed name.id free.0
          (subst (λ n. IsIn n e.printed) same k.1)));
      streams_known = good.streams_known;
      streams = good.streams;
      folds_known = good.folds_known;
      folds = good.folds;
      columns = good.columns;
    })

item_good : (packets : ℕ) (given : Given) {e after : Earlier} (one : Item) → Good packets e → item_checked given e one ≡ Ok after
    → Good packets after
item_good packets given (item.Fold d) good ok = fold_good d good ok
item_good packets given (item.Stream d) good ok = stream_good (five_fields given.fields) d good ok
item_good packets given (item.Final d) good ok = final_good given d good ok
item_good packets given (item.Print name) good ok = print_good name good ok

items_good : {packets : ℕ} (given : Given) (items : List Item) {e after : Earlier} → Good packets e → items_checked given e items ≡ Ok after
    → Good packets after
items_good {packets} given [] good ok = subst (Good packets) (same_ok ok) good
items_good {packets} given (one ∷ items) {e} good ok =
    let f = found_first (item_checked given e one) ok in
    items_good given items (item_good packets given one good f.1) f.2

-- at the start there are only the packets
start_good : (names : List (List ℕ)) → Good (number_in names (codes "pktstream")) (start_of names)
start_good names = record {
  names = record { places = λ a b p ea eb. absurd (no a p ea); bounds = λ a p ea. absurd (no a p ea); prints_known = λ p i. absurd i };
  prints = tt;
  streams_known = λ id i. known _ i;
  streams = tt;
  folds_known = λ id v h. absurd (no_fold id v h);
  folds = λ f i. absurd i;
  columns = λ one i. absurd i;
}
  where
    no : (a : ℕ) (p : PrintOf) → place_at (start_of names).known a ≡ Some p → ⊥
    no a p e = elim (place_cases [] (packet_stream names) a p e) [ inl none ↦ cc | inr new ↦ (let none : None ≡ Some p = new.1 in cc) ]

    no_fold : (id : ℕ) (v : FoldView) → meaning_of (start_of names).known id ≡ Some (meaning.Fold v) → ⊥
    no_fold id v e = elim (meaning_cases [] (packet_stream names) id (meaning.Fold v) e) [
      | inl none ↦ cc
      | inr new ↦ (let stream = new.1 in cc)
    ]

    known : (id : ℕ) → IsIn id (number_in names (codes "pktstream") ∷ []) → is_some (meaning_of (start_of names).known id) ≡ true
    known id (inl e) = subst (λ n. is_some (meaning_of (start_of names).known n) ≡ true) (sym e) (some_new [] (packet_stream names))
    known id (inr h) = absurd h

pub checked_differ : (parsed : Query) (q : TypedQuery) → checked parsed ≡ Ok q
    → NamesDiffer (number_in (typed_names parsed.names) (codes "pktstream")) q
checked_differ parsed q ok =
    let names = typed_names parsed.names in
    let e = found_first (items_checked (given_of names parsed.items) (start_of names) parsed.items) ok in
    let good = items_good (given_of names parsed.items) parsed.items
    (start_good names) e.1 in
    let some = must_ok (nat_lt 0 (length e.0.prints)) NothingPrinted parsed.end q e.2 in
    subst (NamesDiffer (number_in names (codes "pktstream"))) (same_ok some.1) (record {
      streams = good.streams;
      states = λ i f h. good.folds f (in_at e.0.folds i f h);
      columns = λ i one h. good.columns one (in_at e.0.streams i one h);
      printed = (let t = some.0 in grind (arith, nat_tests));
      prints = good.prints;
    })
