-- What the names of a query stand for, where the whole query has these folds, streams and finals.
use Rattle.std.proofs.Common.{◌≡◌, ℕ, zero, suc, ◌<◌, ◌≤◌, Bool, true, false, cond, List, [], ◌∷◌, ◌++◌, length, map, Option, Some, None}
use Rattle.std.{proofs.Common.{Ok, nat_eq, refl, subst, arith}, specs.Prelude.{is_some, slice_get, IfSome}}
use Rattle.query_lang.specs.declared.{fold.TypedFold.TypedFold, query.Name.Name, typed.{PrintOf.PrintOf, TypedFinal.TypedFinal}}
use Rattle.query_lang.specs.declared.{typed.TypedStream.TypedStream, typing.{FoldView.FoldView, Known.Known, Meaning.Meaning}}
use Rattle.query_lang.specs.{declared.typing.{StreamView.StreamView, TableView.TableView}, Streams.takings}
use Rattle.query_lang.specs.TypedStreams.{meaning_of, as_stream, stream_named, as_fold, fold_named, column_names}
use Rattle.query_lang.specs.TypedFinals.{table_at, as_table, table_named, quiet_fold}
use Rattle.query_lang.specs.TypedQueries.{AreNames, Shape, group_shape, final_shape, stream_width}
use Rattle.query_types.proofs.{ExprLaws.{same_ok, found_first}, BodyLaws.must_not_ok}
use Rattle.query_lang.specs.declared.typed.PrintOf.TheVariants as place
use Rattle.query_lang.specs.declared.typing.Meaning.TheVariants as meaning

pub record Whole : Type 0 where
  pub names : ℕ
  pub groups : ℕ
  pub folds : List TypedFold
  pub streams : List TypedStream
  pub finals : List TypedFinal

abbrev pub table_shape : Whole → PrintOf → Option Shape
table_shape w (place.Group i) = slice_get (map (group_shape w.folds) (takings w.streams)) i
table_shape w (place.Final i) = slice_get (map final_shape w.finals) i

abbrev pub IsBelow : ℕ → PrintOf → Type 0
IsBelow finals (place.Group i) = Unit {0}
IsBelow finals (place.Final i) = i < finals

pub record IsTable (w : Whole) (finals : ℕ) (t : TableView) : Type 0 where
  pub shape : table_shape w t.place ≡ Some (record { width = length t.columns; keys = t.keys })
  pub names : AreNames w.names t.columns
  pub keys : t.keys ≤ length t.columns
  pub below : IsBelow finals t.place

pub record IsStream (w : Whole) (streams finals : ℕ) (s : StreamView) : Type 0 where
  pub number : s.number ≤ streams
  pub width : stream_width w.streams s.number ≡ length (column_names s.columns)
  pub names : AreNames w.names (column_names s.columns)
  pub table : IfSome s.table (IsTable w finals)

pub record IsFold (w : Whole) (f : FoldView) : Type 0 where
  pub one : TypedFold
  pub is : slice_get w.folds f.number ≡ Some one
  pub states : length one.state_names ≡ length f.states
  pub args : length one.arg_names ≡ length f.args
  pub emits : is_some one.emit ≡ f.emits
  pub names : AreNames w.names f.states

abbrev pub IsMeaning : Whole → ℕ → ℕ → Meaning → Type 0
IsMeaning w streams finals (meaning.Fold f) = IsFold w f
IsMeaning w streams finals (meaning.Stream s) = IsStream w streams finals s
IsMeaning w streams finals (meaning.Final t) = IsTable w finals t

abbrev pub AreKnown : Whole → ℕ → ℕ → List Known → Type 0
AreKnown w streams finals [] = Unit {0}
AreKnown w streams finals (one ∷ rest) = IsMeaning w streams finals one.meaning × AreKnown w streams finals rest

below_more : (n m : ℕ) (p : PrintOf) → n ≤ m → IsBelow n p → IsBelow m p
below_more n m (place.Group i) h b = tt
below_more n m (place.Final i) h b = omega arith

table_more : (w : Whole) (n m : ℕ) (t : TableView) → n ≤ m → IsTable w n t → IsTable w m t
table_more w n m t h v = record { shape = v.shape; names = v.names; keys = v.keys; below = below_more n m t.place h v.below }

some_table_more : (w : Whole) (n m : ℕ) (t : Option TableView) → n ≤ m → IfSome t (IsTable w n) → IfSome t (IsTable w m)
some_table_more w n m None h v = tt
some_table_more w n m (Some t) h v = table_more w n m t h v

meaning_more : (w : Whole) (s t n m : ℕ) (one : Meaning) → s ≤ t → n ≤ m → IsMeaning w s n one → IsMeaning w t m one
meaning_more w s t n m (meaning.Fold f) h k v = v
meaning_more w s t n m (meaning.Stream x) h k v = record {
  number = omega (arith, v.number);
  width = v.width;
  names = v.names;
  table =
      some_table_more w n m x.table k v.table;
}
meaning_more w s t n m (meaning.Final x) h k v = table_more w n m x k v

-- more streams and finals, and one more name
pub known_more : (w : Whole) (s t n m : ℕ) (known : List Known) (one : Known) → s ≤ t → n ≤ m → AreKnown w s n known
    → IsMeaning w t m one.meaning → AreKnown w t m (known ++ one ∷ [])
known_more w s t n m [] one h k v new = (new, tt)
known_more w s t n m (x ∷ known) one h k v new = (meaning_more w s t n m x.meaning h k v.0, known_more w s t n m known one h k v.1 new)

meaning_known : (w : Whole) (s n : ℕ) (known : List Known) (id : ℕ) (m : Meaning) → AreKnown w s n known → meaning_of known id ≡ Some m
    → IsMeaning w s n m
meaning_known w s n [] id m v e = cc e
meaning_known w s n (one ∷ rest) id m v e = go (nat_eq one.name id) (λ k. meaning_known w s n rest id m v.1 k) e
  where
    go : (b : Bool) → (meaning_of rest id ≡ Some m → IsMeaning w s n m) → cond b (Some one.meaning) (meaning_of rest id) ≡ Some m
        → IsMeaning w s n m
    go true more e =
        let same : one.meaning ≡ m = cc in
        rw (← same) v.0
    go false more e = more e

-- what a name that was looked up stands for
pub stream_meaning : (known : List Known) (name : Name) (x : StreamView) → stream_named known name ≡ Ok x
    → meaning_of known name.id ≡ Some (meaning.Stream x)
stream_meaning known name x e = go (meaning_of known name.id) e
  where
    go : (o : Option Meaning) → as_stream o name.span ≡ Ok x → o ≡ Some (meaning.Stream x)
    go None e = cc e
    go (Some (meaning.Fold y)) e = cc e
    go (Some (meaning.Stream y)) e = rw (same_ok y x e)
    go (Some (meaning.Final y)) e = cc e

pub fold_meaning : (known : List Known) (name : Name) (x : FoldView) → fold_named known name ≡ Ok x
    → meaning_of known name.id ≡ Some (meaning.Fold x)
fold_meaning known name x e = go (meaning_of known name.id) e
  where
    go : (o : Option Meaning) → as_fold o name.span ≡ Ok x → o ≡ Some (meaning.Fold x)
    go None e = cc e
    go (Some (meaning.Fold y)) e = rw (same_ok y x e)
    go (Some (meaning.Stream y)) e = cc e
    go (Some (meaning.Final y)) e = cc e

-- a final's table, or the one of a groupby's stream
abbrev pub IsTableOf : TableView → Meaning → Type 0
IsTableOf x (meaning.Fold f) = ⊥
IsTableOf x (meaning.Stream s) = s.table ≡ Some x
IsTableOf x (meaning.Final t) = t ≡ x

pub table_meaning : (known : List Known) (name : Name) (x : TableView) → table_named known name ≡ Ok x
    → (m : Meaning) × (meaning_of known name.id ≡ Some m) × IsTableOf x m
table_meaning known name x e = go (meaning_of known name.id) e
  where
    of_stream : (o : Option TableView) → table_at o name.span ≡ Ok x → o ≡ Some x
    of_stream None e = cc e
    of_stream (Some t) e = rw (same_ok t x e)

    go : (o : Option Meaning) → as_table o name.span ≡ Ok x → (m : Meaning) × (o ≡ Some m) × IsTableOf x m
    go None e = cc e
    go (Some (meaning.Fold y)) e = cc e
    go (Some (meaning.Stream y)) e = (meaning.Stream y, refl, of_stream y.table e)
    go (Some (meaning.Final y)) e = (meaning.Final y, refl, same_ok y x e)

pub stream_known : (w : Whole) (s n : ℕ) (known : List Known) (name : Name) (x : StreamView) → AreKnown w s n known
    → stream_named known name ≡ Ok x → IsStream w s n x
stream_known w s n known name x v e = meaning_known w s n known name.id (meaning.Stream x) v (stream_meaning known name x e)

pub fold_known : (w : Whole) (s n : ℕ) (known : List Known) (name : Name) (x : FoldView) → AreKnown w s n known
    → fold_named known name ≡ Ok x → IsFold w x
fold_known w s n known name x v e = meaning_known w s n known name.id (meaning.Fold x) v (fold_meaning known name x e)

pub table_known : (w : Whole) (s n : ℕ) (known : List Known) (name : Name) (x : TableView) → AreKnown w s n known
    → table_named known name ≡ Ok x → IsTable w n x
table_known w s n known name x v e =
    let is = table_meaning known name x e in go is.0 (meaning_known w s n known name.id is.0 v is.1) is.2
  where
    go : (m : Meaning) → IsMeaning w s n m → IsTableOf x m → IsTable w n x
    go (meaning.Fold f) v is = absurd is
    go (meaning.Stream y) v is = subst (λ (o : Option TableView). IfSome o (IsTable w n)) is v.table
    go (meaning.Final t) v is = subst (IsTable w n) is v

pub quiet_known : (known : List Known) (name : Name) (x : FoldView) → quiet_fold known name ≡ Ok x → (fold_named known name ≡ Ok x)
    × (x.emits ≡ false)
quiet_known known name x e =
    let first = found_first _ _ _ e in
    let quiet = must_not_ok _ _ _ _ _ first.2 in
    let same = same_ok _ _ quiet.1 in
    rw (← same) (first.1, quiet.0)

-- the first items of a list stay where they are, and the next one comes after them
pub get_front : {A : Type 0} (xs rest : List A) (i : ℕ) → i < length xs → slice_get (xs ++ rest) i ≡ slice_get xs i
get_front [] rest i h = absurd (omega arith)
get_front (x ∷ xs) rest zero h = refl
get_front (x ∷ xs) rest (suc i) h = get_front xs rest i (omega arith)

pub get_next : {A : Type 0} (xs rest : List A) (x : A) → slice_get (xs ++ x ∷ rest) (length xs) ≡ Some x
get_next [] rest x = refl
get_next (y ∷ xs) rest x = get_next xs rest x

pub width_front : (xs rest : List TypedStream) (n : ℕ) → n ≤ length xs → stream_width (xs ++ rest) n ≡ stream_width xs n
width_front xs rest zero h = refl
width_front xs rest (suc i) h = rw (get_front xs rest i (omega arith)) refl
