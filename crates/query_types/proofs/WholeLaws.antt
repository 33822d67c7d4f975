-- What holds of the items before some place, in the whole query.
use Rattle.std.proofs.Common.{sym, subst, ◌≡◌, ℕ, zero, suc, ◌+◌, ◌<◌, List, [], ◌∷◌, ◌++◌, length, map, Option, Some, None, Ok, refl, ap}
use Rattle.std.proofs.{Common.{◌∙◌, append-nil, append_assoc, add-one}, lemmas.List.Elements.filter_map-append}
use Rattle.std.specs.{Prelude.{slice_get, unwrap_or, option_map, IfSome}, List.All}
use Rattle.query_lang.specs.declared.{fold.TypedFold.TypedFold, query.{Item.Item, Name.Name}, typed.PrintOf.PrintOf}
use Rattle.query_lang.specs.declared.{typed.{TypedFinal.TypedFinal, TypedStream.TypedStream}, typing.{Earlier.Earlier, Given.Given}}
use Rattle.query_lang.specs.declared.typing.{MadeFinal.MadeFinal, MadeStream.MadeStream, TableView.TableView}
use Rattle.query_lang.specs.{Streams.{Taking, takings, taking_of}, TypedStreams.{begun, column_names, with_stream}, TypedFinals.with_final}
use Rattle.query_lang.specs.{Typing.{with_fold, items_checked}, TypedQueries.{Shape, shapes, group_shape, final_shape, stream_width}}
use Rattle.query_lang.specs.TypedQueries.{IsValidStream, AreValidStreams, IsValidFinal, AreValidFinals}
use Rattle.query_types.proofs.{ExprLaws.{same_ok, found_first}, ItemLaws.Standing, MadeLaws.{IsPart, IsMadeTable}}
use Rattle.query_types.proofs.ViewLaws.{Whole, IsTable, AreKnown, get_next}
use Rattle.query_types.proofs.Makings.{ItemMade, fold_item, stream_item, final_item, print_item, item_made}
use Rattle.query_lang.specs.declared.typed.PrintOf.TheVariants as place

abbrev pub IsPrinted : Whole → PrintOf → Type 0
IsPrinted w (place.Group number) = number < length (takings w.streams)
IsPrinted w (place.Final number) = number < length w.finals

pub record Sound (w : Whole) (e : Earlier) : Type 0 where
  pub base : Standing w.names e
  pub known : AreKnown w (length e.streams) (length e.finals) e.known
  pub streams : AreValidStreams w.names w.folds [] e.streams
  pub finals : AreValidFinals w.names w.folds (shapes w.folds w.streams []) e.finals
  pub prints : All (IsPrinted w) e.prints

pub streams_push : (names : ℕ) (folds : List TypedFold) (before xs : List TypedStream) (x : TypedStream)
    → AreValidStreams names folds before xs → IsValidStream names folds (before ++ xs) x
    → AreValidStreams names folds before (xs ++ x ∷ [])
streams_push names folds before [] x v one = (
  rw (← append-nil before) one,
  tt,
)
streams_push names folds before (y ∷ ys) x v one =
    (v.0, streams_push names folds (before ++ y ∷ []) ys x v.1 (rw (append_assoc before (y ∷ []) ys) one))

pub finals_push : (names : ℕ) (folds : List TypedFold) (tables : List Shape) (xs : List TypedFinal) (x : TypedFinal)
    → AreValidFinals names folds tables xs → IsValidFinal names folds (tables ++ map final_shape xs) x
    → AreValidFinals names folds tables (xs ++ x ∷ [])
finals_push names folds tables [] x v one = (
  rw (← append-nil tables) one,
  tt,
)
finals_push names folds tables (y ∷ ys) x v one = (
  v.0,
  finals_push names folds (tables ++ final_shape y ∷ []) ys x v.1
      (rw (append_assoc tables (final_shape y ∷ []) (map final_shape ys)) one),
)

same_some : {A : Type 0} (x y : A) → (let o : Option A = Some x in o) ≡ Some y → x ≡ y
same_some x y e = cc e

pub get_map : {A B : Type 0} (f : A → B) (xs : List A) (i : ℕ) (x : A) → slice_get xs i ≡ Some x → slice_get (map f xs) i ≡ Some (f x)
get_map f [] i x e = cc e
get_map {A} {B} f (y ∷ xs) zero x e = let same : y ≡ x = same_some y x e in ap (λ (z : A). let o : Option B = Some (f z) in o) same
get_map f (y ∷ xs) (suc i) x e = get_map f xs i x e

takings_next : (xs rest : List TypedStream) (one : TypedStream) (t : Taking) → taking_of one.op ≡ Some t
    → slice_get (takings (xs ++ one ∷ rest)) (length (takings xs)) ≡ Some t
takings_next xs rest one t is =
    let split = filter_map-append (λ (stream : TypedStream). taking_of stream.op) xs (one ∷ rest) in
    let head : takings (one ∷ rest) ≡ t ∷ takings rest = rw is refl in
    ap (λ (l : List Taking). slice_get l (length (takings xs))) (split ∙ ap (λ l. takings xs ++ l) head)
    ∙ get_next (takings xs) (takings rest) t

-- one list goes on as another
pub past : {A : Type 0} (whole xs later : List A) (x : A) → whole ≡ (xs ++ x ∷ []) ++ later → whole ≡ xs ++ x ∷ later
past whole xs later x e = e ∙ append_assoc xs (x ∷ []) later

fold_part : (w : Whole) (e : Earlier) (f : TypedFold) → IsPart w (with_fold e f) → IsPart w e
fold_part w e f p = record {
  later_folds = f ∷ p.later_folds;
  folds = past w.folds e.folds p.later_folds f p.folds;
  later_streams = p.later_streams;
  streams = p.streams;
  later_finals = p.later_finals;
  finals = p.finals;
}

stream_part : (w : Whole) (e : Earlier) (name : Name) (made : MadeStream) → IsPart w (with_stream e name made) → IsPart w e
stream_part w e name made p =
    let one : TypedStream = record { name = name; columns = column_names made.columns; op = made.op } in
    record {
      later_folds = p.later_folds;
      folds = p.folds;
      later_streams = one ∷ p.later_streams;
      streams = past w.streams e.streams p.later_streams one p.streams;
      later_finals = p.later_finals;
      finals = p.finals;
    }

final_part : (w : Whole) (e : Earlier) (name : Name) (made : MadeFinal) → IsPart w (with_final e name made) → IsPart w e
final_part w e name made p =
    let one : TypedFinal = record { name = name; columns = made.columns; keys = made.keys; op = made.op } in
    record {
      later_folds = p.later_folds;
      folds = p.folds;
      later_streams = p.later_streams;
      streams = p.streams;
      later_finals = one ∷ p.later_finals;
      finals = past w.finals e.finals p.later_finals one p.finals;
    }

-- where the items up to some place are part of the query, those before them are
pub item_part : {w : Whole} {given : Given} {e after : Earlier} {one : Item} → ItemMade given e one after → IsPart w after → IsPart w e
item_part {w} {e = e} (fold_item f free is) p = fold_part w e f p
item_part {w} {e = e} (stream_item {d} made begun is) p = stream_part w e d.name made p
item_part {w} {e = e} (final_item {d} made begun is) p = final_part w e d.name made p
item_part (print_item table is_table new) p = record {
  later_folds = p.later_folds;
  folds = p.folds;
  later_streams = p.later_streams;
  streams = p.streams;
  later_finals = p.later_finals;
  finals = p.finals;
}

pub items_part : (w : Whole) (given : Given) (items : List Item) (e after : Earlier) → items_checked given e items ≡ Ok after
    → IsPart w after → IsPart w e
items_part w given [] e after h p = subst (IsPart w) (sym (same_ok _ _ h)) p
items_part w given (one ∷ rest) e after h p =
    let first = found_first _ _ _ h in
    item_part (item_made given e first.0 one first.1) (items_part w given rest first.0 after first.2 p)

pub made_table : (w : Whole) (e : Earlier) (later : List TypedStream) (one : TypedStream) (finals : ℕ) (o : Option TableView)
    → w.streams ≡ e.streams ++ one ∷ later → e.groups ≡ length (takings e.streams)
    → IsMadeTable w e one.op o → IfSome o (IsTable w finals)
made_table w e later one finals None is count v = tt
made_table w e later one finals (Some t) is count v =
    let next : slice_get (takings w.streams) e.groups ≡ Some v.0 =
    ap (λ (l : List TypedStream). slice_get (takings l) e.groups) is ∙ ap (slice_get (takings (e.streams ++ one ∷ later))) count
    ∙ takings_next e.streams later one v.0 v.1 in
    let shape = get_map (group_shape w.folds) (takings w.streams) e.groups v.0 next
    ∙ ap (λ (s : Shape). let o : Option Shape = Some s in o) v.2 in
    record { shape = rw v.5 shape; names = v.3; keys = v.4; below = rw v.5 tt }

pub next_width : (streams later : List TypedStream) (one : TypedStream) (whole : List TypedStream) → whole ≡ streams ++ one ∷ later
    → stream_width whole (length streams + 1) ≡ length one.columns
next_width streams later one whole is =
    ap (stream_width whole) (add-one (length streams)) ∙ ap (λ (o : Option TypedStream). unwrap_or
    (option_map (λ (x : TypedStream). length x.columns) o) 0) (ap (λ (l : List TypedStream). slice_get l (length streams)) is
    ∙ get_next streams later one)
