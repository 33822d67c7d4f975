-- Streams: the rules and the checks agree.
use Rattle.std.proofs.Common.{◌≡◌, ℕ, Bool, true, false, List, [], ◌∷◌, ◌++◌, length, map, Some, None, Ok, nat_eq, not, ◌&&◌, ◌||◌, refl}
use Rattle.std.proofs.{Common.{sym, ap, subst, ◌∙◌, append-nil, arith}, lemmas.{Bool.{ltb-true, or_parts}, List.length-map}}
use Rattle.std.specs.Prelude.{flat_map}
use Rattle.query_lang.specs.declared.query.StreamOp.TheVariants as ops
use Rattle.query_lang.specs.declared.typed.PrintOf.TheVariants as place
use Rattle.query_lang.specs.declared.typed.TypedOp.TheVariants as typed
use Rattle.query_lang.specs.declared.typing.Origin.TheVariants as origin
use Rattle.query_laws.proofs.Terms.{Name, Key, Column, Expr, StreamOp, Earlier, StreamView, FoldView, Known, MadeStream, NewColumns, Picked}
use Rattle.query_laws.proofs.Terms.{Origin, StreamColumn, stream_named, fold_named, column_names, key_names, keys_checked, arguments_of}
use Rattle.query_laws.proofs.Terms.{same_origin, clashes_with, clash, others_from, columns_at, filtered, mapped, zipped, next_stream}
use Rattle.query_laws.proofs.Terms.{made_stream, MAX_GROUPBYS, HasTypedColumns, HasKeys, HasArguments, key_ids, IsSame, AreSame, OfFilter}
use Rattle.query_laws.proofs.{Terms.{OfMap, OfZip, OfGroup, HasStream}, Steps.{must_ok, must_not_ok, must_holds, must_not_holds, same_ok}}
use Rattle.query_laws.proofs.Steps.{found_first, then_next, nat_same, nat_is, by_test}
use Rattle.query_laws.proofs.{ColumnLaws.{at_slots, keys_there, others_are, others_taken}, ExprSound.condition_sound}
use Rattle.query_laws.proofs.{ExprComplete.condition_complete, FoldNames.below, NameLaws.{ok, stream_sound, stream_complete}}
use Rattle.query_laws.proofs.NameLaws.{fold_name_sound, fold_name_complete, columns_sound, columns_complete, keys_sound, keys_complete}
use Rattle.query_laws.proofs.NameLaws.{arguments_sound, arguments_complete}

filter_sound : (earlier : Earlier) {input : Name} {e : Expr} {made : MadeStream} → filtered earlier input e ≡ Ok made
    → OfFilter earlier.known input e made
filter_sound _ is =
    let source = found_first _ _ _ is in
    let c = found_first _ _ _ source.2 in
    record {
      source = source.0;
      condition = c.0;
      stream = stream_sound _ _ source.1;
      typed = condition_sound _ c.1;
      is = sym (same_ok _ _ c.2);
    }

filter_complete : (earlier : Earlier) {input : Name} {e : Expr} {made : MadeStream} → OfFilter earlier.known input e made
    → filtered earlier input e ≡ Ok made
filter_complete _ h = then_next _ (stream_complete _ _ h.stream)
    ∙ then_next _ (condition_complete h.source.hidden h.typed) ∙ ok (sym h.is)

abbrev maps_to : ℕ → StreamView → NewColumns → MadeStream
maps_to number source made = record {
  op = typed.Map source.number made.values;
  columns = source.columns ++ map (λ name. record { name = name; origin = origin.Map number }) made.names;
  hidden = source.hidden;
  table = None;
}

pub taken_start : (columns hidden : List ℕ) → columns ++ (hidden ++ []) ≡ columns ++ hidden
taken_start columns hidden = ap (λ z. columns ++ z) (append-nil hidden)

map_sound : (earlier : Earlier) {input : Name} {cs : List Column} {made : MadeStream} → mapped earlier input cs ≡ Ok made
    → OfMap earlier.known (next_stream earlier) input cs made
map_sound earlier {cs} is =
    let source = found_first _ _ _ is in
    let n = found_first _ _ _ source.2 in
    let c = columns_sound _ _ _ _ n.1 in
    record {
      source = source.0;
      values = c.0;
      stream = stream_sound _ _ source.1;
      typed = subst (λ z. HasTypedColumns (column_names source.0.columns) z cs c.0) (taken_start _ _) c.1;
      is = sym (same_ok _ _ n.2) ∙ ap (maps_to (next_stream earlier) source.0) c.2;
    }

map_complete : (earlier : Earlier) {input : Name} {cs : List Column} {made : MadeStream}
    → OfMap earlier.known (next_stream earlier) input cs made → mapped earlier input cs ≡ Ok made
map_complete _ {cs} h = then_next _ (stream_complete _ _ h.stream) ∙ then_next _ (columns_complete _ _ _ _ _
    (subst (λ z. HasTypedColumns (column_names h.source.columns) z cs h.values) (sym (taken_start _ _)) h.typed)) ∙ ok (sym h.is)

-- ---- the same columns

pub origin_same : (a b : Origin) → same_origin a b ≡ true → a ≡ b
origin_same origin.Field origin.Field e = refl
origin_same origin.Field (origin.Map b) e = cc e
origin_same (origin.Map a) origin.Field e = cc e
origin_same (origin.Map a) (origin.Map b) e = ap origin.Map (nat_same e)

same_self : (a : Origin) → same_origin a a ≡ true
same_self origin.Field = refl
same_self (origin.Map a) = nat_is refl

origin_is : {a b : Origin} → a ≡ b → same_origin a b ≡ true
origin_is {a} e = subst (λ z. same_origin a z ≡ true) e (same_self a)

pub same_where : (a b : Bool) → a ≡ true → (a && not b) ≡ false → b ≡ true
same_where true true _ e = refl
same_where true false _ e = cc e
same_where false b is e = cc is

same_sound : (left : List StreamColumn) (column : StreamColumn) → clashes_with left column ≡ false → IsSame left column
same_sound [] _ e = tt
same_sound (other ∷ rest) column e =
    let parts = or_parts (nat_eq other.name column.name && not (same_origin other.origin column.origin)) _ e in (
      λ n. origin_same other.origin column.origin (same_where (nat_eq other.name column.name) _ (nat_is n) parts.0),
      same_sound rest column parts.1,
    )

apart_or_same : {other column : StreamColumn} → (other.name ≡ column.name → other.origin ≡ column.origin)
    → (nat_eq other.name column.name && not (same_origin other.origin column.origin)) ≡ false
apart_or_same {other} {column} h =
    by_test (nat_eq other.name column.name) (λ is. rw is (ap not (origin_is (h (nat_same is))))) (λ is. rw is)

same_complete : (left : List StreamColumn) (column : StreamColumn) → IsSame left column → clashes_with left column ≡ false
same_complete [] _ h = refl
same_complete (_ ∷ rest) column h = ap (λ b. b || clashes_with rest column) (apart_or_same h.0) ∙ same_complete rest column h.1

all_same_sound : (left right : List StreamColumn) → clash left right ≡ false → AreSame left right
all_same_sound _ [] e = tt
all_same_sound left (column ∷ rest) e =
    let parts = or_parts (clashes_with left column) _ e in (same_sound left column parts.0, all_same_sound left rest parts.1)

pub all_same_complete : (left right : List StreamColumn) → AreSame left right → clash left right ≡ false
all_same_complete _ [] h = refl
all_same_complete left (column ∷ rest) h = ap (λ b. b || clash left rest) (same_complete left column h.0) ∙ all_same_complete left rest h.1

-- what a `zip` of two streams makes
abbrev pub zips_to : StreamView → StreamView → List ℕ → List StreamColumn → MadeStream
zips_to left right slots others = record {
  op = typed.Zip left.number right.number slots;
  columns = left.columns ++ others;
  hidden = left.hidden ++ right.hidden;
  table = None;
}

-- by the functions of the check
pub zip_is : {known : List Known} (first second : Name) (made : MadeStream) (h : OfZip known first second made)
    → made ≡ zips_to h.left h.right (others_from 0 (column_names h.left.columns) h.right.columns)
    (columns_at h.right.columns (others_from 0 (column_names h.left.columns) h.right.columns))
zip_is _ _ _ h =
    let same = others_are h.new in
    h.is ∙ ap (zips_to h.left h.right h.slots) (at_slots _ _ _ h.taken ∙ ap (columns_at h.right.columns) same)
    ∙ ap (λ z. zips_to h.left h.right z (columns_at h.right.columns (others_from 0 (column_names h.left.columns) h.right.columns))) same

zip_sound : (earlier : Earlier) {first second : Name} {made : MadeStream} → zipped earlier first second ≡ Ok made
    → OfZip earlier.known first second made
zip_sound _ is =
    let left = found_first _ _ _ is in
    let right = found_first _ _ _ left.2 in
    let one = must_not_ok _ _ _ right.2 in
    let taken = others_taken in
    record {
      left = left.0;
      right = right.0;
      slots = others_from 0 (column_names left.0.columns) right.0.columns;
      others = columns_at right.0.columns (others_from 0 (column_names left.0.columns) right.0.columns);
      new = taken.new;
      taken = taken.there;
      one = stream_sound _ _ left.1;
      other = stream_sound _ _ right.1;
      same = all_same_sound _ _ one.0;
      is = sym (same_ok _ _ one.1);
    }

zip_complete : (earlier : Earlier) {first second : Name} {made : MadeStream} → OfZip earlier.known first second made
    → zipped earlier first second ≡ Ok made
zip_complete _ h = then_next _ (stream_complete _ _ h.one) ∙ then_next _ (stream_complete _ _ h.other)
    ∙ must_not_holds _ _ (all_same_complete _ _ h.same) ∙ ok (sym (zip_is _ _ _ h))

-- ---- keys, from none

pub picked_sound : (five : List ℕ) {columns : List ℕ} (hidden : List ℕ) (keys : List Key) {picked : Picked}
    → keys_checked five columns hidden keys ≡ Ok picked
    → (slots : List ℕ) × HasKeys columns (key_ids five keys) slots × (picked ≡ record { names = key_ids five keys; slots = slots })
picked_sound five _ keys e =
    let k = keys_sound _ _ _ _ (omega arith) e in
    let long = length-map (flat_map (key_names five) keys) (λ (n : Name). n.id) in
    (k.0, record { places = k.1; distinct = k.2; few = omega (arith, k.3, long) }, k.4)

pub picked_complete : (five : List ℕ) {columns : List ℕ} (hidden : List ℕ) (keys : List Key) {slots : List ℕ}
    → HasKeys columns (key_ids five keys) slots
    → keys_checked five columns hidden keys ≡ Ok (record { names = key_ids five keys; slots = slots })
picked_complete five _ keys h =
    let long = length-map (flat_map (key_names five) keys) (λ (n : Name). n.id) in
    keys_complete _ _ _ _ _ h.places h.distinct (omega (arith, h.few, long))

abbrev groups_with : ℕ → StreamView → FoldView → List ℕ → Picked → List StreamColumn → MadeStream
groups_with groups source f arguments picked columns = record {
  op = typed.Group source.number picked.slots f.number arguments;
  columns = columns;
  hidden = f.states;
  table = Some (record { place = place.Group groups; columns = picked.names ++ f.states; keys = length picked.names });
}

abbrev groups_to : ℕ → StreamView → FoldView → List ℕ → Picked → MadeStream
groups_to groups source f arguments picked = groups_with groups source f arguments picked (columns_at source.columns picked.slots)

-- by the functions of the check
pub group_is : {five : List ℕ} {known : List Known} {groups : ℕ} (input : Name) (keys : List Key) (fold_name : Name) (made : MadeStream)
    (h : OfGroup five known groups input keys fold_name made)
    → made ≡ groups_to groups h.source h.f h.arguments (record { names = key_ids five keys; slots = h.slots })
group_is {five} {groups} _ keys _ _ h =
    h.is ∙ ap (groups_with groups h.source h.f h.arguments (record { names = key_ids five keys; slots = h.slots })) (at_slots _ _ _ h.there)

group_sound : {five : List ℕ} (earlier : Earlier) (name : Name) {input : Name} {keys : List Key} {fold_name : Name} {made : MadeStream}
    → made_stream five earlier name (ops.Group input keys fold_name) ≡ Ok made
    → OfGroup five earlier.known earlier.groups input keys fold_name made
group_sound {five} earlier _ {input} {keys} {fold_name} {made} is =
    let few = must_ok _ _ _ is in
    let source = found_first (stream_named earlier.known input) _ made few.1 in
    let picked = found_first (keys_checked five (column_names source.0.columns) source.0.hidden keys) _ made source.2 in
    let f = found_first (fold_named earlier.known fold_name) _ made picked.2 in
    let arguments = found_first (arguments_of (column_names source.0.columns) source.0.hidden picked.0.names f.0 fold_name.span) _ made
    f.2 in
    let k = picked_sound five source.0.hidden keys picked.1 in
    record {
      few = ltb-true earlier.groups MAX_GROUPBYS few.0;
      source = source.0;
      slots = k.0;
      columns = columns_at source.0.columns k.0;
      f = f.0;
      arguments = arguments.0;
      stream = stream_sound earlier.known input source.1;
      picked = k.1;
      there = keys_there source.0.columns (key_ids five keys) k.0 k.1.places;
      fold = fold_name_sound earlier.known fold_name f.1;
      taken = subst (λ (z : Picked). HasArguments (column_names source.0.columns) z.names f.0 arguments.0) k.2
          (arguments_sound _ fold_name.span arguments.1);
      is = sym (same_ok _ made arguments.2) ∙ ap (groups_to earlier.groups source.0 f.0 arguments.0) k.2;
    }

group_complete : {five : List ℕ} (earlier : Earlier) (name : Name) {input : Name} {keys : List Key} {fold_name : Name} {made : MadeStream}
    → OfGroup five earlier.known earlier.groups input keys fold_name made
    → made_stream five earlier name (ops.Group input keys fold_name) ≡ Ok made
group_complete {five} earlier _ {input} {keys} {fold_name} {made} h = must_holds _ _ (below h.few)
    ∙ then_next _ (stream_complete earlier.known input h.stream) ∙ then_next _ (picked_complete five h.source.hidden keys h.picked)
    ∙ then_next _ (fold_name_complete earlier.known fold_name h.fold)
    ∙ then_next _ (arguments_complete h.source.hidden fold_name.span h.taken) ∙ ok (sym (group_is input keys fold_name made h))

pub made_stream_sound : (five : List ℕ) (earlier : Earlier) (name : Name) (op : StreamOp) {made : MadeStream}
    → made_stream five earlier name op ≡ Ok made → HasStream five earlier.known (next_stream earlier) earlier.groups op made
made_stream_sound _ earlier _ (ops.Filter _ e) is = filter_sound earlier is
made_stream_sound _ earlier _ (ops.Map _ _) is = map_sound earlier is
made_stream_sound _ earlier _ (ops.Zip _ _) is = zip_sound earlier is
made_stream_sound _ earlier name (ops.Group _ _ _) is = group_sound earlier name is

pub made_stream_complete : (five : List ℕ) (earlier : Earlier) (name : Name) (op : StreamOp) {made : MadeStream}
    → HasStream five earlier.known (next_stream earlier) earlier.groups op made → made_stream five earlier name op ≡ Ok made
made_stream_complete _ earlier _ (ops.Filter _ e) h = filter_complete earlier h
made_stream_complete _ earlier _ (ops.Map _ _) h = map_complete earlier h
made_stream_complete _ earlier _ (ops.Zip _ _) h = zip_complete earlier h
made_stream_complete _ earlier name (ops.Group _ _ _) h = group_complete earlier name h
