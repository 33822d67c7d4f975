-- Items and whole queries: the rules and the checks agree.
use Rattle.std.proofs.{Common.{◌≡◌, ℕ, List, [], ◌∷◌, length, Ok, Err, refl, sym, ap, ◌∙◌}, lemmas.Bool.ltb-true}
use Rattle.query_lang.specs.declared.query.Item.TheVariants as item
use Rattle.query_laws.proofs.Terms.{QueryFault, Query, Item, Name, FoldDef, StreamDef, FinalDef, TypedQuery, Earlier, Given, Checked, begun}
use Rattle.query_laws.proofs.Terms.{made_stream, stream_checked, five_fields, made_final, final_checked, fold_added, print_checked}
use Rattle.query_laws.proofs.Terms.{item_checked, items_checked, typed_names, given_of, ended, checked, MAX_BINDINGS, Entry, AFold, AStream}
use Rattle.query_laws.proofs.Terms.{AFinal, APrint, known_in, prints_in, printed_in, earlier_of}
use Rattle.query_laws.proofs.Steps.{must_ok, must_not_ok, must_holds, must_not_holds, same_ok, found_first, then_next}
use Rattle.query_laws.proofs.{FoldNames.{new_among, among_new, below}, FoldLaws.{fold_sound, fold_complete}}
use Rattle.query_laws.proofs.NameLaws.{ok, free_sound, free_complete, table_sound, table_complete}
use Rattle.query_laws.proofs.{StreamLaws.{made_stream_sound, made_stream_complete}, FinalLaws.{made_final_sound, made_final_complete}}
use Rattle.query_laws.specs.QueryRules.{IsBinding, HasItem, HasItems, of_none, of_more, IsTyped}

binding_sound : {names : List (List ℕ)} {items : List Entry} {name : Name} {u : Unit {0}} → begun (earlier_of names items) name ≡ Ok u
    → IsBinding names items name
binding_sound e =
    let one = must_not_ok _ _ _ e in
    let two = must_ok _ _ _ one.1 in
    record { free = free_sound _ _ one.0; few = ltb-true _ MAX_BINDINGS two.0 }

binding_complete : {names : List (List ℕ)} {items : List Entry} {name : Name} → IsBinding names items name
    → begun (earlier_of names items) name ≡ Ok tt
binding_complete h = must_not_holds _ _ (free_complete _ _ h.free) ∙ must_holds _ _ (below h.few)

-- what an item adds to the tables is what its typed form adds
abbrev Adds : Given → List (List ℕ) → List Entry → Item → Earlier → Type 0
Adds given names items i more = (one : Entry) × HasItem given names items i one × (more ≡ earlier_of names (one ∷ items))

fold_item : (given : Given) {names : List (List ℕ)} {items : List Entry} {d : FoldDef} {more : Earlier}
    → fold_added (earlier_of names items) d ≡ Ok more → Adds given names items (item.Fold d) more
fold_item _ e =
    let free = must_not_ok _ _ _ e in
    let f = found_first _ _ _ free.1 in (
      AFold f.0,
      record { f = f.0; free = free_sound _ _ free.0; typed = fold_sound f.1; is = refl },
      sym (same_ok _ _ f.2),
    )

stream_item : (given : Given) {names : List (List ℕ)} {items : List Entry} {d : StreamDef} {more : Earlier}
    → stream_checked (five_fields given.fields) (earlier_of names items) d ≡ Ok more → Adds given names items (item.Stream d) more
stream_item given {names} {items} {d} {more} e =
    let start = found_first (begun (earlier_of names items) d.name) _ more e in
    let made = found_first (made_stream (five_fields given.fields) (earlier_of names items) d.name d.op) _ more start.2 in (
      AStream d.name made.0,
      record {
        made = made.0;
        binding = binding_sound start.1;
        typed = made_stream_sound (five_fields given.fields) (earlier_of names items) d.name d.op made.1;
        is = refl;
      },
      sym (same_ok _ more made.2),
    )

final_item : {given : Given} {names : List (List ℕ)} {items : List Entry} {d : FinalDef} {more : Earlier}
    → final_checked given (earlier_of names items) d ≡ Ok more → Adds given names items (item.Final d) more
final_item {given} {names} {items} {d} {more} e =
    let start = found_first (begun (earlier_of names items) d.name) _ more e in
    let made = found_first (made_final given (earlier_of names items) d.op) _ more start.2 in (
      AFinal d.name made.0,
      record {
        made = made.0;
        binding = binding_sound start.1;
        typed = made_final_sound given (earlier_of names items) d.op made.1;
        is = refl;
      },
      sym (same_ok _ more made.2),
    )

print_item : (given : Given) {names : List (List ℕ)} {items : List Entry} {name : Name} {more : Earlier}
    → print_checked (earlier_of names items) name ≡ Ok more → Adds given names items (item.Print name) more
print_item _ {name} e =
    let table = found_first _ _ _ e in
    let once = must_not_ok _ _ _ table.2 in (
      APrint name table.0.place,
      record { table = table.0; stands = table_sound _ _ table.1; once = among_new _ _ once.0; is = refl },
      sym (same_ok _ _ once.1),
    )

pub item_sound : (given : Given) (names : List (List ℕ)) {items : List Entry} (i : Item) {more : Earlier}
    → item_checked given (earlier_of names items) i ≡ Ok more → Adds given names items i more
item_sound given _ (item.Fold d) e = fold_item given e
item_sound given _ (item.Stream d) e = stream_item given e
item_sound _ _ (item.Final d) e = final_item e
item_sound given _ (item.Print _) e = print_item given e

grown : (names : List (List ℕ)) (items : List Entry) {one other : Entry} → other ≡ one
    → (let r : Checked Earlier = Ok (earlier_of names (one ∷ items)) in r) ≡ Ok (earlier_of names (other ∷ items))
grown names items e = ok (ap (λ z. earlier_of names (z ∷ items)) (sym e))

pub item_complete : (given : Given) (names : List (List ℕ)) (items : List Entry) (i : Item) (one : Entry) → HasItem given names items i one
    → item_checked given (earlier_of names items) i ≡ Ok (earlier_of names (one ∷ items))
item_complete _ names items (item.Fold d) _ h =
    must_not_holds _ _ (free_complete (known_in names items) d.name.id h.free) ∙ then_next _ (fold_complete h.typed)
    ∙ grown names items h.is
item_complete given names items (item.Stream d) _ h = then_next _ (binding_complete h.binding)
    ∙ then_next _ (made_stream_complete (five_fields given.fields) (earlier_of names items) d.name d.op h.typed) ∙ grown names items h.is
item_complete given names items (item.Final d) _ h = then_next _ (binding_complete h.binding)
    ∙ then_next _ (made_final_complete given (earlier_of names items) d.op h.typed) ∙ grown names items h.is
item_complete _ names items (item.Print name) _ h = then_next _ (table_complete (known_in names items) name h.stands)
    ∙ must_not_holds _ _ (new_among name.id (printed_in items) h.once) ∙ grown names items h.is

pub items_sound : {given : Given} {names : List (List ℕ)} (before : List Entry) (list : List Item) {more : Earlier}
    → items_checked given (earlier_of names before) list ≡ Ok more
    → (all : List Entry) × HasItems given names before list all × (more ≡ earlier_of names all)
items_sound before [] e = (before, of_none _, sym (same_ok _ _ e))
items_sound {given} {names} before (i ∷ rest) {more} e =
    let first = found_first (item_checked given (earlier_of names before) i) _ more e in
    let one = item_sound given names i first.1 in
    let others = items_sound {given = given} {names = names} (one.0 ∷ before) rest {more = more}
    (ap (λ z. items_checked given z rest) (sym one.2)
    ∙ first.2) in
    (others.0, of_more before i one.0 rest others.0 one.1 others.1, others.2)

pub items_complete : {given : Given} {names : List (List ℕ)} {before : List Entry} {list : List Item} {all : List Entry}
    → HasItems given names before list all → items_checked given (earlier_of names before) list ≡ Ok (earlier_of names all)
items_complete (of_none _) = refl
items_complete {given} {names} (of_more before i one _ _ h more) = then_next _ (item_complete given names before i one h)
    ∙ items_complete more

pub query_sound : (q : Query) (t : TypedQuery) → checked q ≡ Ok t → IsTyped q t
query_sound q t e =
    let names = typed_names q.names in
    let given = given_of names q.items in
    let first = found_first _ _ t e in
    let all = items_sound _ _ first.1 in
    let done : ended names q.end (earlier_of names all.0) ≡ Ok t = ap (ended names q.end) (sym all.2) ∙ first.2 in
    let some = must_ok _ _ _ done in
    record { items = all.0; typed = all.1; prints = ltb-true 0 (length (prints_in all.0)) some.0; is = sym (same_ok _ t some.1) }

pub query_complete : {q : Query} {t : TypedQuery} → IsTyped q t → checked q ≡ Ok t
query_complete {q} h =
    let names = typed_names q.names in
    let given = given_of names q.items in
    then_next _ (items_complete h.typed) ∙ must_holds _ _ (below h.prints) ∙ ok (sym h.is)

pub one_form : {q : Query} {t u : TypedQuery} → IsTyped q t → IsTyped q u → t ≡ u
one_form {t} {u} h k = same_ok t u (sym (query_complete h) ∙ query_complete k)

pub no_form : {q : Query} {fault : QueryFault} {t : TypedQuery} → checked q ≡ Err fault → IsTyped q t → ⊥
no_form {fault} {t} e h = let both : (let r : Checked TypedQuery = Ok t in r) ≡ Err fault = sym (query_complete h) ∙ e in cc both
