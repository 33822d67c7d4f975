-- What a name stands for, with which each number fits its type.
use Rattle.std.proofs.Common.{◌≡◌, ℕ, Bool, true, false, cond, List, [], ◌∷◌, Option, Some, Ok, nat_eq, subst}
use Rattle.std.{proofs.lemmas.List.Elements.{All-head, All-tail}, specs.{Prelude.IfSome, List.All}}
use Rattle.query_lang.specs.declared.{query.Name.Name, typing.{Earlier.Earlier, FoldView.FoldView, Known.Known, Meaning.Meaning}}
use Rattle.query_lang.specs.declared.typing.{StreamView.StreamView, TableView.TableView}
use Rattle.query_lang.specs.{TypedStreams.{meaning_of, stream_named, fold_named, column_names}, TypedFinals.table_named}
use Rattle.query_types.specs.Fitting.{AreApart, IsEarly, IsNarrow, FitsTable, FitsStream, FitsMeaning, FitsKnown, Fits}
use Rattle.query_types.proofs.{ApartLaws.apart_within, ViewLaws.{IsTableOf, stream_meaning, fold_meaning, table_meaning}}
use Rattle.query_lang.specs.declared.typing.Meaning.TheVariants as meaning

-- ---- what a name stands for

meaning_fits : (known : List Known) (id : ℕ) (m : Meaning) → All FitsKnown known → meaning_of known id ≡ Some m → FitsMeaning m
meaning_fits [] id m v e = cc e
meaning_fits (one ∷ rest) id m v e = go (nat_eq one.name id) (λ k. meaning_fits rest id m (All-tail FitsKnown one rest v) k) e
  where
    go : (b : Bool) → (meaning_of rest id ≡ Some m → FitsMeaning m) → cond b (Some one.meaning) (meaning_of rest id) ≡ Some m
        → FitsMeaning m
    go true more e =
        let same : one.meaning ≡ m = cc in
        rw (← same) (All-head FitsKnown one rest v)
    go false more e = more e

pub stream_fits : (known : List Known) (name : Name) (x : StreamView) → All FitsKnown known → stream_named known name ≡ Ok x → FitsStream x
stream_fits known name x v e = meaning_fits known name.id (meaning.Stream x) v (stream_meaning known name x e)

pub fold_fits : (known : List Known) (name : Name) (x : FoldView) → All FitsKnown known → fold_named known name ≡ Ok x → AreApart x.states
fold_fits known name x v e = meaning_fits known name.id (meaning.Fold x) v (fold_meaning known name x e)

pub table_fits : (known : List Known) (name : Name) (x : TableView) → All FitsKnown known → table_named known name ≡ Ok x → FitsTable x
table_fits known name x v e = let is = table_meaning known name x e in go is.0 (meaning_fits known name.id is.0 v is.1) is.2
  where
    go : (m : Meaning) → FitsMeaning m → IsTableOf x m → FitsTable x
    go (meaning.Fold f) v is = absurd is
    go (meaning.Stream y) v is = subst (λ (o : Option TableView). IfSome o FitsTable) is v.table
    go (meaning.Final t) v is = subst FitsTable is v

-- each column of what was looked up has a slot
pub stream_narrow : (e : Earlier) (name : Name) (x : StreamView) → Fits e → stream_named e.known name ≡ Ok x
    → IsNarrow (column_names x.columns)
stream_narrow e name x v is = apart_within (column_names x.columns) (stream_fits e.known name x v.known is).columns

pub table_narrow : (e : Earlier) (name : Name) (x : TableView) → Fits e → table_named e.known name ≡ Ok x → IsNarrow x.columns
table_narrow e name x v is = apart_within x.columns (table_fits e.known name x v.known is).columns

-- the same of columns that are those of the table
pub slots_of_table : (columns : List ℕ) (e : Earlier) (name : Name) (x : TableView) → columns ≡ x.columns → Fits e
    → table_named e.known name ≡ Ok x → IsNarrow columns
slots_of_table columns e name x same v is = rw same (table_narrow e name x v is)

pub table_early : (e : Earlier) (name : Name) (x : TableView) → Fits e → table_named e.known name ≡ Ok x → IsEarly x.place
table_early e name x v is = (table_fits e.known name x v.known is).place
