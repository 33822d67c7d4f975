-- Where a query's fault is, and what it says, in the words of the rules.
use Rattle.std.specs.Prelude.{◌≡◌, ◌↔◌, ℕ, List, [], ◌∷◌, ◌++◌, Err}
use Rattle.query_lang.specs.declared.fault.FaultKind.{FaultKind}
use Rattle.query_lang.specs.declared.fault.FaultKind.TheVariants as kinds
use Rattle.query_lang.specs.declared.{fault.{Limit.Limit, QueryFault.QueryFault, Span.Span}, query.{Item.Item, Query.Query}}
use Rattle.query_lang.specs.{declared.typing.{Given.Given, Known.Known}, TypedFinals.five_fields, Typing.{checked, typed_names, given_of}}
use Rattle.query_laws.specs.{Asked.ItemAsks, Context.{Entry, prints_in, known_in}, Demands.{Demand, Holds, IsUnknown, IsHiddenState}}
use Rattle.query_laws.specs.{Demands.{IsTaken, IsOtherKind, IsOtherArity, IsBadConstant, IsOneTooMany}, QueryRules.{HasItem, HasItems}}

abbrev pub given_in : Query → Given
given_in q = given_of (typed_names q.names) q.items

-- these items, the first of the query, have typed forms, each after those before it
abbrev pub AreTypedItems : Query → List Item → List Entry → Type 0
AreTypedItems q items typed = HasItems (given_in q) (typed_names q.names) [] items typed

-- An item of the query has no typed form after those before it, which have one: something is asked of a token of it that isn't so, and
-- this is said of that.
pub record Breaks (Says : List Known → Demand → Type 0) (q : Query) : Type 0 where
  pub front : List Item
  pub item : Item
  pub rest : List Item
  pub split : q.items ≡ front ++ item ∷ rest
  pub before : List Entry
  pub typed : AreTypedItems q front before
  pub untyped : (one : Entry) → HasItem (given_in q) (typed_names q.names) before item one → ⊥
  pub demand : Demand
  pub asked : ItemAsks (five_fields (given_in q).fields) (typed_names q.names) before item demand
  pub unmet : Holds (known_in (typed_names q.names) before) demand → ⊥
  pub says : Says (known_in (typed_names q.names) before) demand

-- all items have typed forms, and none prints a table
pub record PrintsNothing (q : Query) : Type 0 where
  pub all : List Entry
  pub typed : AreTypedItems q q.items all
  pub none : prints_in all ≡ []

-- a fault of this kind at this span
abbrev pub HasFault : FaultKind → Span → Query → Type 0
HasFault kind at q = checked q ≡ Err (record { kind = kind; span = at })

-- What a fault of each kind says of the first item that has no typed form.
abbrev pub UnknownNames : Type 0
UnknownNames = (q : Query) (at : Span) → HasFault kinds.UnknownName at q → Breaks (λ known d. IsUnknown known at d) q

abbrev pub StatesOnLine : Type 0
StatesOnLine = (q : Query) (at : Span) → HasFault kinds.StateOnLine at q → Breaks (λ known d. IsHiddenState at d) q

abbrev pub NamesTaken : Type 0
NamesTaken = (q : Query) (at : Span) → HasFault kinds.NameTaken at q → Breaks (λ known d. IsTaken known at d) q

abbrev pub WrongKinds : Type 0
WrongKinds = (q : Query) (at : Span) → HasFault kinds.WrongKind at q → Breaks (λ known d. IsOtherKind known at d) q

abbrev pub WrongArities : Type 0
WrongArities = (q : Query) (at : Span) → HasFault kinds.WrongArity at q → Breaks (λ known d. IsOtherArity at d) q

abbrev pub BadConstants : Type 0
BadConstants = (q : Query) (at : Span) → HasFault kinds.BadConstant at q → Breaks (λ known d. IsBadConstant at d) q

abbrev pub OverLimits : Type 0
OverLimits = (limit : Limit) (q : Query) (at : Span) → HasFault (kinds.OverLimit limit) at q
    → Breaks (λ known d. IsOneTooMany limit at d) q

-- *NothingPrinted* is at the end.
abbrev pub NothingsPrinted : Type 0
NothingsPrinted = (q : Query) (at : Span) → HasFault kinds.NothingPrinted at q → (at ≡ q.end) × PrintsNothing q

-- the kinds of the faults of typing
abbrev pub IsOfTyping : FaultKind → Type 0
IsOfTyping kinds.UnknownName = Unit {0}
IsOfTyping kinds.StateOnLine = Unit {0}
IsOfTyping kinds.NameTaken = Unit {0}
IsOfTyping kinds.WrongKind = Unit {0}
IsOfTyping kinds.WrongArity = Unit {0}
IsOfTyping kinds.BadConstant = Unit {0}
IsOfTyping (kinds.OverLimit limit) = Unit {0}
IsOfTyping kinds.NothingPrinted = Unit {0}
IsOfTyping _ = ⊥

abbrev pub OnlyTheseKinds : Type 0
OnlyTheseKinds = (q : Query) (fault : QueryFault) → checked q ≡ Err fault → IsOfTyping fault.kind

-- An item has a typed form after others exactly where all that it asks is so.
abbrev pub DemandsAreRules : Type 0
DemandsAreRules = (given : Given) (names : List (List ℕ)) (items : List Entry) (i : Item)
    → ((one : Entry) × HasItem given names items i one)
    ↔ ((demand : Demand) → ItemAsks (five_fields given.fields) names items i demand → Holds (known_in names items) demand)
