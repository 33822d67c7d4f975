-- What a query's fault says.
use Rattle.std.proofs.Common.{◌≡◌, ℕ, suc, ◌+◌, true, false, List, [], ◌∷◌, ◌++◌, length, Ok, Err, refl, sym, ap, subst, ◌∙◌, inl, inr, ◌⊎◌}
use Rattle.std.proofs.Common.{arith}
use Rattle.std.specs.Prelude.{is_some, nat_lt}
use Rattle.query_lang.specs.declared.fault.FaultKind.TheVariants as kinds
use Rattle.query_lang.specs.declared.query.Item.TheVariants as item
use Rattle.query_laws.proofs.Terms.{FaultKind, NameTaken, OverLimit, NothingPrinted, Bindings, QueryFault, Span, Item, Name, Query, Earlier}
use Rattle.query_laws.proofs.Terms.{Given, Known, Checked, is_among, table_named, five_fields, made_final, meaning_of, begun, made_stream}
use Rattle.query_laws.proofs.Terms.{item_checked, items_checked, checked, typed_names, given_of, MAX_BINDINGS, Entry, streams_in, finals_in}
use Rattle.query_laws.proofs.{Terms.{printed_in, known_in, earlier_of, Demand, Free, Fewer, Holds, Tells}, ExprFaults.not_new}
use Rattle.query_laws.proofs.{FoldFaults.fold_faults, NameFaults.{table_told, at_least}, NameLaws.free_complete}
use Rattle.query_laws.proofs.{StreamFaults.{stream_op_told, final_op_told}, Unmet.unmet, FaultSteps.{at_span, no_fault, not_both, by_must}}
use Rattle.query_laws.proofs.FaultSteps.{by_must_not, by_next, told, Broken, broken_in, broken, broken_at}
use Rattle.query_laws.proofs.QueryLaws.{item_sound, item_complete, items_sound}
use Rattle.query_laws.specs.Asked.{ItemAsks, of_fold_name, of_fold, of_stream_name, of_one_stream, of_stream, of_final_name, of_one_final}
use Rattle.query_laws.specs.{Asked.{of_final, of_print, of_once}, FaultLaws.{Breaks, PrintsNothing, HasFault, IsOfTyping}}
use Rattle.query_laws.specs.QueryRules.{HasItem, HasItems, of_none, of_more}

-- ---- items

taken_told : (known : List Known) (x : Name) {fault : QueryFault} → is_some (meaning_of known x.id) ≡ true
    → at_span NameTaken x.span ≡ fault → Tells known fault.kind fault.span (Free x)
taken_told known x taken e = told _ _ e (refl, λ free. not_both _ (free_complete _ _ free) taken)

bindings_told : (names : List (List ℕ)) (items : List Entry) (x : Name) {fault : QueryFault}
    → nat_lt (length (streams_in items) + length (finals_in items)) MAX_BINDINGS ≡ false → at_span (OverLimit Bindings) x.span ≡ fault
    → Tells (known_in names items) fault.kind fault.span (Fewer Bindings (length (streams_in items) + length (finals_in items)) x.span)
bindings_told _ _ x full e = told _ _ e (refl, refl, at_least refl full)

begun_told : (names : List (List ℕ)) (items : List Entry) (x : Name) {fault : QueryFault} {Asks : Demand → Type 0}
    → begun (earlier_of names items) x ≡ Err fault
    → Asks (Free x) → Asks (Fewer Bindings (length (streams_in items) + length (finals_in items)) x.span)
    → Broken Asks (known_in names items) fault
begun_told names items x e free one = by_must_not (is_some (meaning_of (known_in names items) x.id)) e
    (λ taken at. broken _ free (taken_told _ _ taken at)) (λ none e.
    by_must (nat_lt (length (streams_in items) + length (finals_in items)) MAX_BINDINGS) _ e
    (λ full at. broken _ one (bindings_told names items x full at)) (λ few e. no_fault e))

abbrev ItemTold : Given → List (List ℕ) → List Entry → Item → QueryFault → Type 0
ItemTold given names items i fault = Broken (ItemAsks (five_fields given.fields) names items i) (known_in names items) fault

item_told : (given : Given) {names : List (List ℕ)} {items : List Entry} (i : Item) {fault : QueryFault}
    → item_checked given (earlier_of names items) i ≡ Err fault → ItemTold given names items i fault
item_told _ (item.Fold d) e = by_must_not _ e (λ taken at. broken _ of_fold_name (taken_told _ _ taken at)) (λ none e.
    by_next _ e (λ is. broken_in (λ q asked. of_fold d q asked) (fold_faults is)) (λ f p e. no_fault e))
item_told given {names} {items} (item.Stream d) {fault} e = by_next (begun (earlier_of names items) d.name) e
    (λ is. begun_told names items d.name is of_stream_name of_one_stream) (λ u p e.
    by_next (made_stream (five_fields given.fields) (earlier_of names items) d.name d.op) e
    (λ is. broken_in (λ q asked. of_stream asked) (stream_op_told (earlier_of names items) d.op fault is)) (λ made q e. no_fault e))
item_told given {names} {items} (item.Final d) {fault} e = by_next (begun (earlier_of names items) d.name) e
    (λ is. begun_told names items d.name is of_final_name of_one_final) (λ u p e.
    by_next (made_final given (earlier_of names items) d.op) e (λ is. broken_in (λ q asked. of_final asked)
    (final_op_told given (earlier_of names items) d.op fault is)) (λ made q e. no_fault e))
item_told _ {names} {items} (item.Print x) e = by_next (table_named (known_in names items) x) e
    (λ is. broken _ of_print (table_told _ _ is)) (λ table p e.
    by_must_not (is_among x.id (printed_in items)) e (λ among at. broken_at _ of_once at (refl, not_new _ _ among)) (λ none e. no_fault e))

-- where all that an item asks is so, the check finds no fault
pub all_met : (given : Given) {names : List (List ℕ)} {items : List Entry} {i : Item}
    → ((demand : Demand) → ItemAsks (five_fields given.fields) names items i demand → Holds (known_in names items) demand)
    → (one : Entry) × HasItem given names items i one
all_met given {names} {items} {i} met = go (item_checked given (earlier_of names items) i) refl
  where
    go : (c : Checked Earlier) → item_checked given (earlier_of names items) i ≡ c → (one : Entry) × HasItem given names items i one
    go (Ok _) is = let one = item_sound given names i is in (one.0, one.1)
    go (Err fault) is =
        let b = item_told given i is in
        absurd (unmet (known_in names items) fault.kind fault.span b.demand b.tells (met b.demand b.asks))

-- ---- whole queries

-- the first item that has no typed form, after those before
record AtItem (given : Given) (names : List (List ℕ)) (before : List Entry) (list : List Item) (fault : QueryFault) : Type 0 where
  pub front : List Item
  pub one : Item
  pub rest : List Item
  pub split : list ≡ front ++ one ∷ rest
  pub items : List Entry
  pub typed : HasItems given names before front items
  pub untyped : (entry : Entry) → HasItem given names items one entry → ⊥
  pub told : ItemTold given names items one fault

at_item : (given : Given) (names : List (List ℕ)) (before : List Entry) (list : List Item) (fault : QueryFault)
    → items_checked given (earlier_of names before) list ≡ Err fault → AtItem given names before list fault
at_item _ _ _ [] _ e = no_fault e
at_item given names before (i ∷ list) fault e = by_next (item_checked given (earlier_of names before) i) e (λ is. record {
  front = [];
  one = i;
  rest = list;
  split = refl;
  items = before;
  typed = of_none before;
  untyped = λ entry h. no_fault (sym (item_complete given names before i entry h) ∙ is);
  told = item_told given i is;
}) (λ more p e.
    let one = item_sound given names i p in
    let others = at_item given names (one.0 ∷ before) list fault (ap (λ z. items_checked given z list) (sym one.2) ∙ e) in
    record {
      front = i ∷ others.front;
      one = others.one;
      rest = others.rest;
      split = ap (λ z. i ∷ z) others.split;
      items = others.items;
      typed = of_more before i one.0 others.front others.items one.1 others.typed;
      untyped = others.untyped;
      told = others.told;
    })

-- what a fault says, at an item or at the end
abbrev IsTold : Query → QueryFault → Type 0
IsTold q fault = Breaks (λ known d. Tells known fault.kind fault.span d) q ⊎ ((at_span NothingPrinted q.end ≡ fault) × PrintsNothing q)

some_more : (n : ℕ) → nat_lt 0 (suc n) ≡ false → ⊥
some_more n e = grind arith

empty : {A : Type 0} (xs : List A) → nat_lt 0 (length xs) ≡ false → xs ≡ []
empty [] e = refl
empty (x ∷ _) e = absurd (some_more _ e)

fault_told : {q : Query} {fault : QueryFault} → checked q ≡ Err fault → IsTold q fault
fault_told {q} {fault} e =
    let names = typed_names q.names in
    let given = given_of names q.items in
    by_next _ e (λ is.
    let a = at_item _ _ _ _ _ is in
    inl (record {
      front = a.front;
      item = a.one;
      rest = a.rest;
      split = a.split;
      before = a.items;
      typed = a.typed;
      untyped = a.untyped;
      demand = a.told.demand;
      asked = a.told.asks;
      unmet = unmet (known_in names a.items) fault.kind fault.span a.told.demand a.told.tells;
      says = a.told.tells;
    })) (λ more p e.
    let all = items_sound _ _ p in
    by_must _ _ e (λ none at. inr (
      at,
      record { all = all.0; typed = all.1; none = empty _ (ap (λ (z : Earlier). nat_lt 0 (length z.prints)) (sym all.2) ∙ none) },
    )) (λ some e. no_fault e))

-- a fault of another kind than *NothingPrinted* is at an item
pub at_some_item : {q : Query} {kind : FaultKind} {at : Span} → (NothingPrinted ≡ kind → ⊥) → HasFault kind at q
    → Breaks (λ known d. Tells known kind at d) q
at_some_item {q} {kind} {at} other e = elim (fault_told {q = q} {fault = at_span kind at} e)
    [ inl b ↦ b | inr h ↦ absurd (other (ap (λ (f : QueryFault). f.kind) h.0)) ]

pub at_end : {q : Query} {at : Span} → HasFault NothingPrinted at q → (at ≡ q.end) × PrintsNothing q
at_end {q} {at} e = elim (fault_told {q = q} {fault = at_span NothingPrinted at} e)
    [ inl b ↦ absurd b.says | inr h ↦ (sym (ap (λ (f : QueryFault). f.span) h.0), h.1) ]

of_typing : (known : List Known) (kind : FaultKind) (at : Span) (d : Demand) → Tells known kind at d → IsOfTyping kind
of_typing _ kinds.UnknownName _ d t = tt
of_typing _ kinds.StateOnLine _ d t = tt
of_typing _ kinds.NameTaken _ d t = tt
of_typing _ kinds.WrongKind _ d t = tt
of_typing _ kinds.WrongArity _ d t = tt
of_typing _ kinds.BadConstant _ d t = tt
of_typing _ (kinds.OverLimit _) _ d t = tt
of_typing _ _ _ d t = absurd t

pub only_these : (q : Query) {fault : QueryFault} → checked q ≡ Err fault → IsOfTyping fault.kind
only_these q {fault} e = elim (fault_told {q = q} {fault = fault} e)
    [ inl b ↦ of_typing _ _ _ _ b.says | inr h ↦ subst (λ (f : QueryFault). IsOfTyping f.kind) h.0 tt ]
