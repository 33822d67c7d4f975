-- Where a text is accepted, its typed form is valid, and its folds start as words.
use Rattle.std.proofs.{Common.{◌≡◌, ℕ, List, ◌∷◌, Ok, sym, subst}, lemmas.List.Elements.{All-nil, All-head, All-tail, All-push, All-map}}
use Rattle.std.specs.Prelude.{All}
use Rattle.query_lang.specs.declared.query.Item.TheVariants as item
use Rattle.query_grammar.proofs.Numbered.{readable}
use Rattle.query_types.proofs.ValidLaws.{query_valid}
use Rattle.query_laws.proofs.Terms.{TypedFold, FoldDef, Item, Query, StateVar, TypedQuery, Given, checked, typed_names, IsWord, AreWords}
use Rattle.query_laws.proofs.{Terms.{IsQueryOf, Entry, folds_in, HasFold, accepted}, QueryLaws.query_complete, Accepted.accepted_sound}
use Rattle.query_laws.proofs.Items.{numbers}
use Rattle.query_laws.specs.QueryRules.{HasItem, HasItems, of_none, of_more}
use Rattle.query_laws.specs.ValidLaws.{StartsAsWords, AcceptedAreValid, AcceptedStartAsWords}

-- an accepted text has a query, whose check gives the typed form
pub parts : (text : List ℕ) (q : TypedQuery) → accepted text ≡ Ok q → (query : Query) × IsQueryOf text query × (checked query ≡ Ok q)
parts text q e = let p = accepted_sound text q e in (p.query, p.derives, query_complete p.typed)

pub accepted_valid : AcceptedAreValid
accepted_valid text q e = let p = parts _ q e in query_valid p.0 q (readable text p.0 p.1) (numbers text p.0 p.1).0 p.2

-- ---- what folds start as

abbrev start_words : TypedFold → Type 0
start_words f = AreWords f.initial

fold_starts : {d : FoldDef} {f : TypedFold} → HasFold d f → All (λ state. IsWord state.initial) d.states → start_words f
fold_starts {d} h words = subst start_words (sym h.is) (All-map IsWord (λ (s : StateVar). s.initial) d.states words)

abbrev Starts : List Entry → Type 0
Starts items = All start_words (folds_in items)

abbrev starts_with : List Entry → Entry → Type 0
starts_with items one = Starts (one ∷ items)

one_more : (given : Given) (names : List (List ℕ)) (items : List Entry) (i : Item) (one : Entry) → HasItem given names items i one
    → StartsAsWords i → Starts items → Starts (one ∷ items)
one_more _ _ items (item.Fold d) _ h words all =
    subst (starts_with items) (sym h.is) (All-push start_words (folds_in items) h.f all (fold_starts h.typed words))
one_more _ _ items (item.Stream d) _ h _ all = subst (starts_with items) (sym h.is) all
one_more _ _ items (item.Final d) _ h _ all = subst (starts_with items) (sym h.is) all
one_more _ _ items (item.Print _) _ h _ all = subst (starts_with items) (sym h.is) all

all_start : {given : Given} {names : List (List ℕ)} {before : List Entry} {list : List Item} {all : List Entry}
    → HasItems given names before list all → All StartsAsWords list → Starts before → Starts all
all_start (of_none _) _ start = start
all_start {given} (of_more _ i _ rest _ h more) words start = all_start more (All-tail StartsAsWords i rest words)
    (one_more given _ _ i _ h (All-head StartsAsWords i rest words) start)

pub accepted_starts : AcceptedStartAsWords
accepted_starts text q e =
    let p = accepted_sound text q e in
    let names : List (List ℕ) = typed_names p.query.names in
    let words : All StartsAsWords p.query.items = (numbers text p.query p.derives).1 in
    let start : Starts p.typed.items = all_start p.typed.typed words (All-nil start_words) in
    subst (λ (z : TypedQuery). All start_words z.folds) (sym p.typed.is) start
