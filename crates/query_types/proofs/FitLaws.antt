-- What the check of items keeps, with which each number fits its type.
use Rattle.std.proofs.Common.{◌≡◌, ℕ, ◌+◌, ◌<◌, ◌≤◌, Bool, true, false, ◌||◌, cond, List, [], ◌∷◌, ◌++◌, length, map, Some, Ok, nat_eq}
use Rattle.std.proofs.{Common.{refl, arith}, lemmas.List.{length-append, length-map, map-append, Elements.All-push}}
use Rattle.std.specs.Prelude.{is_some}
use Rattle.query_lang.specs.declared.{fold.TypedFold.TypedFold, query.{FoldDef.FoldDef, Item.Item, Name.Name}, typed.TypedFinal.TypedFinal}
use Rattle.query_lang.specs.declared.{typed.TypedStream.TypedStream, typing.{Earlier.Earlier, FoldView.FoldView, Given.Given, Known.Known}}
use Rattle.query_lang.specs.declared.typing.{MadeFinal.MadeFinal, MadeStream.MadeStream, StreamView.StreamView, TableView.TableView}
use Rattle.query_lang.specs.{declared.fault.TheConstants.MAX_BINDINGS, Limits.IsNumbered, Checks.is_among, TypedFinals.with_final}
use Rattle.query_lang.specs.{Typing.{with_fold, item_checked}, TypedStreams.{meaning_of, begun, column_names, next_stream, with_stream}}
use Rattle.query_types.{specs.Fitting.{AreApart, FitsKnown, Fits}, proofs.{ApartLaws.{apart_within, apart_push}, ItemLaws.fold_named_well}}
use Rattle.query_types.proofs.MadeFits.{FitsMade, made_fits, final_fits, fold_states_apart}
use Rattle.query_types.proofs.Makings.{FoldMade, folded, IsBegun, ItemMade, fold_item, stream_item, final_item, print_item, item_made}
use Rattle.query_lang.specs.declared.typed.PrintOf.TheVariants as place
use Rattle.query_lang.specs.declared.typing.Meaning.TheVariants as meaning

-- ---- one more item

fold_name : {d : FoldDef} {f : TypedFold} → FoldMade d f → f.name.id ≡ d.name.id
fold_name (folded states args body is_states is_args is_body) = refl

free_name : (known : List Known) (id : ℕ) → is_some (meaning_of known id) ≡ false
    → is_among id (map (λ (one : Known). one.name) known) ≡ false
free_name [] id h = refl
free_name (one ∷ rest) id h = go (nat_eq one.name id) (λ k. free_name rest id k) h
  where
    go : (b : Bool) → (is_some (meaning_of rest id) ≡ false → is_among id (map (λ (one : Known). one.name) rest) ≡ false)
        → is_some (cond b (Some one.meaning) (meaning_of rest id)) ≡ false
        → (b || is_among id (map (λ (one : Known). one.name) rest)) ≡ false
    go true more h = cc h
    go false more h = more h

-- a name that was free, with what it stands for
names_apart : (known : List Known) (one : Known) → AreApart (map (λ (one : Known). one.name) known) → one.name < 65536
    → is_some (meaning_of known one.name) ≡ false → AreApart (map (λ (one : Known). one.name) (known ++ one ∷ []))
names_apart known one h below free =
    rw (map-append (λ (one : Known). one.name) known (one ∷ []))
    (apart_push (map (λ (one : Known). one.name) known) one.name h below (free_name known one.name free))

with_fold_fits : (e : Earlier) (f : TypedFold) → Fits e → f.name.id < 65536 → is_some (meaning_of e.known f.name.id) ≡ false
    → AreApart f.state_names → Fits (with_fold e f)
with_fold_fits e f v below free apart =
    let view : FoldView = record { number = length e.folds; states = f.state_names; args = f.arg_names; emits = is_some f.emit } in
    let one : Known = record { name = f.name.id; meaning = meaning.Fold view } in
    record {
      known = All-push FitsKnown e.known one v.known apart;
      names = names_apart e.known one v.names below free;
      folds = omega (arith, v.folds, length-append e.known (one ∷ []), length-append e.folds (f ∷ []));
      bindings = v.bindings;
      groups = v.groups;
    }

with_stream_fits : (e : Earlier) (name : Name) (made : MadeStream) → Fits e → name.id < 65536 → IsBegun e name → FitsMade made
    → Fits (with_stream e name made)
with_stream_fits e name made v below begins fits =
    let view : StreamView = record { number = next_stream e; columns = made.columns; hidden = made.hidden; table = made.table } in
    let one : Known = record { name = name.id; meaning = meaning.Stream view } in
    let stream : TypedStream = record { name = name; columns = column_names made.columns; op = made.op } in
    let is : FitsKnown one = record { columns = fits.columns; table = fits.table } in
    let more = length-append e.streams (stream ∷ []) in
    record {
      known = All-push FitsKnown e.known one v.known is;
      names = names_apart e.known one v.names below begins.free;
      folds = omega (arith, v.folds, length-append e.known (one ∷ []));
      bindings = omega (arith, begins.room, more);
      groups = counted (is_some made.table) more v.groups;
    }
  where
    counted : (b : Bool) → length (e.streams ++ record { name = name; columns = column_names made.columns; op = made.op } ∷ []) ≡ length
        e.streams + 1 → e.groups ≤ length e.streams
        → e.groups + cond b 1 0 ≤ length (e.streams ++ record { name = name; columns = column_names made.columns; op = made.op } ∷ [])
    counted true more h = omega arith
    counted false more h = omega arith

with_final_fits : (e : Earlier) (name : Name) (made : MadeFinal) → Fits e → name.id < 65536 → IsBegun e name → AreApart made.columns
    → Fits (with_final e name made)
with_final_fits e name made v below begins apart =
    let view : TableView = record { place = place.Final (length e.finals); columns = made.columns; keys = made.keys } in
    let one : Known = record { name = name.id; meaning = meaning.Final view } in
    let final : TypedFinal = record { name = name; columns = made.columns; keys = made.keys; op = made.op } in
    let is : FitsKnown one = record { columns = apart; place = omega (arith, begins.room) } in
    record {
      known = All-push FitsKnown e.known one v.known is;
      names = names_apart e.known one v.names below begins.free;
      folds = omega (arith, v.folds, length-append e.known (one ∷ []));
      bindings = omega (arith, begins.room, length-append e.finals (final ∷ []));
      groups = v.groups;
    }

made_fit : {given : Given} {e after : Earlier} {one : Item} → IsNumbered 65536 one → Fits e → ItemMade given e one after → Fits after
made_fit {e = e} numbered v (fold_item f free is) =
    with_fold_fits e f v (fold_named_well 65536 numbered is).name (rw (fold_name is) free) (fold_states_apart numbered is)
made_fit {e = e} numbered v (stream_item {d} made begun is) =
    with_stream_fits e d.name made v numbered.0 begun (made_fits v.known numbered.1 is)
made_fit {e = e} numbered v (final_item {d} made begun is) =
    with_final_fits e d.name made v numbered.0 begun (final_fits v.known numbered.1 is)
made_fit numbered v (print_item table is_table new) =
    record { known = v.known; names = v.names; folds = v.folds; bindings = v.bindings; groups = v.groups }

pub item_fits : (given : Given) (e after : Earlier) (one : Item) → IsNumbered 65536 one → Fits e → item_checked given e one ≡ Ok after
    → Fits after
item_fits given e after one numbered v h = made_fit numbered v (item_made given e after one h)

pub folds_within : (e : Earlier) → Fits e → length e.folds < 65536
folds_within e v = omega (
  arith,
  v.folds,
  apart_within (map (λ (one : Known). one.name) e.known) v.names,
  length-map e.known
      (λ (one : Known). one.name),
)

pub groups_within : (e : Earlier) → Fits e → length e.streams + length e.finals < MAX_BINDINGS → e.groups < MAX_BINDINGS
groups_within e v room = omega (arith, v.groups, room)
