-- What holds of the items before some place, with which each number of a column, a stream, a table or a fold fits its type.
use Rattle.std.specs.Prelude.{◌≡◌, ℕ, ◌+◌, ◌<◌, ◌≤◌, ◌^◌, false, List, [], ◌∷◌, length, map, All, IfSome}
use Rattle.query_lang.specs.declared.{query.Item.Item, typed.PrintOf.PrintOf}
use Rattle.query_lang.specs.declared.typed.PrintOf.TheVariants as place
use Rattle.query_lang.specs.declared.typing.{Earlier.Earlier, Known.Known, Meaning.Meaning}
use Rattle.query_lang.specs.declared.typing.Meaning.TheVariants as meaning
use Rattle.query_lang.specs.{declared.typing.{StreamView.StreamView, TableView.TableView}, Checks.is_among}
use Rattle.query_lang.specs.{Limits.{KeepsLimits, IsNumbered}, TypedStreams.column_names, Typing.start_of, TypedQueries.AreNames}
use Rattle.query_lang.specs.declared.fault.TheConstants.{MAX_BINDINGS}

abbrev pub AreDifferent : List ℕ → Type 0
AreDifferent [] = Unit {0}
AreDifferent (id ∷ rest) = (is_among id rest ≡ false) × AreDifferent rest

-- names that are all different, of a query that has at most 65,536
pub record AreApart (ids : List ℕ) : Type 0 where
  pub below : AreNames 65536 ids
  pub once : AreDifferent ids

-- a groupby's table, or that of one of at most MAX_BINDINGS finals
abbrev pub IsEarly : PrintOf → Type 0
IsEarly (place.Group number) = Unit {0}
IsEarly (place.Final number) = number < MAX_BINDINGS

pub record FitsTable (t : TableView) : Type 0 where
  pub columns : AreApart t.columns
  pub place : IsEarly t.place

pub record FitsStream (s : StreamView) : Type 0 where
  pub columns : AreApart (column_names s.columns)
  pub table : IfSome s.table FitsTable

abbrev pub FitsMeaning : Meaning → Type 0
FitsMeaning (meaning.Fold f) = AreApart f.states
FitsMeaning (meaning.Stream s) = FitsStream s
FitsMeaning (meaning.Final t) = FitsTable t

abbrev pub FitsKnown : Known → Type 0
FitsKnown one = FitsMeaning one.meaning

-- each name stands for one thing, a stream or a table has each column once, and streams and finals are few
pub record Fits (e : Earlier) : Type 0 where
  pub known : All FitsKnown e.known
  pub names : AreApart (map (λ one. one.name) e.known)
  pub folds : length e.folds < length e.known
  pub bindings : length e.streams + length e.finals ≤ MAX_BINDINGS
  pub groups : e.groups ≤ length e.streams

-- columns by their names, each of which has a slot
abbrev pub IsNarrow : List ℕ → Type 0
IsNarrow ids = length ids ≤ 65536

-- items that can be checked, where the names of the query and of all fields are these
pub record AreReady (names : List (List ℕ)) (items : List Item) : Type 0 where
  pub count : length names < 2 ^ 32
  pub limits : All KeepsLimits items
  pub numbered : All (IsNumbered 65536) items
  pub start : Fits (start_of names)
