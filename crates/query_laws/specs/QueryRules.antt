-- The rules of items and of whole queries.
use Rattle.std.specs.Prelude.{◌≡◌, ℕ, ◌+◌, ◌<◌, List, [], ◌∷◌, length}
use Rattle.query_lang.specs.declared.query.{Query.Query, Item.Item}
use Rattle.query_lang.specs.declared.query.Item.TheVariants as item
use Rattle.query_lang.specs.declared.{query.{Name.Name, FoldDef.FoldDef, StreamDef.StreamDef, FinalDef.FinalDef}, fold.TypedFold.TypedFold}
use Rattle.query_lang.specs.declared.{typed.TypedQuery.TypedQuery, typing.{Given.Given, MadeStream.MadeStream, MadeFinal.MadeFinal}}
use Rattle.query_lang.specs.{declared.typing.TableView.TableView, TypedFinals.five_fields, Typing.{typed_names, given_of}}
use Rattle.query_lang.specs.declared.fault.TheConstants.{MAX_BINDINGS}
use Rattle.query_laws.specs.{FoldRules.{IsNew, HasFold}, Context.{Entry, AFold, AStream, AFinal, APrint, folds_in, streams_in, finals_in}}
use Rattle.query_laws.specs.{Context.{prints_in, printed_in, groups_in, known_in, IsFree, IsTable}, StreamRules.HasStream}
use Rattle.query_laws.specs.FinalRules.{HasFinal}

-- a new stream or final: its name is free, and there are at most MAX_BINDINGS of them
pub record IsBinding (names : List (List ℕ)) (items : List Entry) (name : Name) : Type 0 where
  pub free : IsFree (known_in names items) name.id
  pub few : length (streams_in items) + length (finals_in items) < MAX_BINDINGS

pub record OfFold (names : List (List ℕ)) (items : List Entry) (d : FoldDef) (one : Entry) : Type 0 where
  pub f : TypedFold
  pub free : IsFree (known_in names items) d.name.id
  pub typed : HasFold d f
  pub is : one ≡ AFold f

pub record OfStream (five : List ℕ) (names : List (List ℕ)) (items : List Entry) (d : StreamDef) (one : Entry) : Type 0 where
  pub made : MadeStream
  pub binding : IsBinding names items d.name
  pub typed : HasStream five (known_in names items) (length (streams_in items) + 1) (groups_in items) d.op made
  pub is : one ≡ AStream d.name made

pub record OfFinal (given : Given) (names : List (List ℕ)) (items : List Entry) (d : FinalDef) (one : Entry) : Type 0 where
  pub made : MadeFinal
  pub binding : IsBinding names items d.name
  pub typed : HasFinal given (known_in names items) d.op made
  pub is : one ≡ AFinal d.name made

-- a table is printed once
pub record OfPrint (names : List (List ℕ)) (items : List Entry) (name : Name) (one : Entry) : Type 0 where
  pub table : TableView
  pub stands : IsTable (known_in names items) name.id table
  pub once : IsNew name.id (printed_in items)
  pub is : one ≡ APrint name table.place

-- an item after these has this typed form
abbrev pub HasItem : Given → List (List ℕ) → List Entry → Item → Entry → Type 0
HasItem given names items (item.Fold d) one = OfFold names items d one
HasItem given names items (item.Stream d) one = OfStream (five_fields given.fields) names items d one
HasItem given names items (item.Final d) one = OfFinal given names items d one
HasItem given names items (item.Print name) one = OfPrint names items name one

-- items in order, each after those before it: from the typed items before to those with these
pub data HasItems (given : Given) (names : List (List ℕ)) : List Entry → List Item → List Entry → Type 0 where
  of_none : (before : List Entry) → HasItems given names before [] before
  of_more : (before : List Entry) (i : Item) (one : Entry) (rest : List Item) (all : List Entry)
      → HasItem given names before i one → HasItems given names (one ∷ before) rest all
      → HasItems given names before (i ∷ rest) all

abbrev pub query_with : List (List ℕ) → List Entry → TypedQuery
query_with names items = record {
  names = names;
  folds = folds_in items;
  streams = streams_in items;
  finals = finals_in items;
  prints = prints_in items;
}

-- A query has this typed form: that of its items, at least one of which prints a table.
pub record IsTyped (q : Query) (t : TypedQuery) : Type 0 where
  pub items : List Entry
  pub typed : HasItems (given_of (typed_names q.names) q.items) (typed_names q.names) [] q.items items
  pub prints : 0 < length (prints_in items)
  pub is : t ≡ query_with (typed_names q.names) items
