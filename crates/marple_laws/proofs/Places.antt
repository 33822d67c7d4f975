-- What holds of the names and tables of the items before some place.
use Rattle.marple_laws.proofs.{Columns.{AreKeyColumns, fold_new, key_columns_are, states_apart}, Differ.{AreApart, HasOwnColumns}}
use Rattle.marple_laws.proofs.Words
use Words.{AreNew, Bool, Earlier, FoldDef, FoldView, Groupbys, Known, List, MAX_GROUPBYS, Meaning, Name, NameTaken, None, Ok, Option}
use Words.{OverLimit, PrintOf, Some, TableView, TypedFold, TypedOp, TypedStream, [], ap, arith, condition_of, false, flat_map, fold_added}
use Words.{if◌then◌else◌, inl, inr, is_some, length, map-append, nat_eq, nat_lt, nat_tests, option_map, refl, subst, suc, sym, true}
use Words.{with_fold, zero, ℕ, ◌++◌, ◌+◌, ◌<◌, ◌∙◌, ◌∷◌, ◌≡◌, ◌≤◌, ◌⊎◌}
use Rattle.marple_laws.proofs.Items.{IsIn, found_first, in_push, must_not_ok, must_ok, new_push, same_ok}
use Rattle.std.specs.Prelude.{map, slice_get}
use Rattle.query_lang.specs.{TypedFolds.fold_checked, TypedStreams.{arguments_of, as_fold, begun, clash, column_names, columns_at}}
use Rattle.query_lang.specs.TypedStreams.{fold_named, grouped, key_names, keys_checked, made_stream, meaning_of, new_columns, next_stream}
use Rattle.query_lang.specs.{TypedStreams.{no_new_columns, stream_checked, stream_named, with_stream}, declared.query.Key.Key}
use Rattle.query_lang.specs.declared.{query.{StreamDef.StreamDef, StreamOp.StreamOp}, typing.MadeStream.MadeStream}
use Rattle.query_lang.specs.declared.query.StreamOp.TheVariants as ops
use Rattle.query_lang.specs.declared.typed.PrintOf.TheVariants as place
use Rattle.query_lang.specs.declared.typed.TypedOp.TheVariants as typed
use Rattle.query_lang.specs.declared.typing.Meaning.TheVariants as meaning

-- the place of the table that a name refers to
abbrev pub place_in : Option Meaning → Option PrintOf
place_in None = None
place_in (Some (meaning.Fold f)) = None
place_in (Some (meaning.Stream s)) = option_map (λ t. t.place) s.table
place_in (Some (meaning.Final t)) = Some t.place

abbrev pub place_at : List Known → ℕ → Option PrintOf
place_at known id = place_in (meaning_of known id)

-- a table among this many groupbys and finals
abbrev pub IsBelow : ℕ → ℕ → PrintOf → Type 0
IsBelow groups finals (place.Group n) = n < groups
IsBelow groups finals (place.Final n) = n < finals

abbrev pub HasFold : List TypedFold → FoldView → Type 0
HasFold folds v = (f : TypedFold) × (slice_get folds v.number ≡ Some f) × (v.states ≡ f.state_names)

abbrev pub stream_ids : List TypedStream → List ℕ
stream_ids streams = map (λ one. one.name.id) streams

-- no two names are one table's, and what is printed has a name
pub record HasNames (known : List Known) (groups finals : ℕ) (prints : List PrintOf) (printed : List ℕ) : Type 0 where
  pub places : (a b : ℕ) (p : PrintOf) → place_at known a ≡ Some p → place_at known b ≡ Some p → a ≡ b
  pub bounds : (a : ℕ) (p : PrintOf) → place_at known a ≡ Some p → IsBelow groups finals p
  pub prints_known : (p : PrintOf) → IsIn p prints → (id : ℕ) × IsIn id printed × (place_at known id ≡ Some p)

pub record Good (packets : ℕ) (e : Earlier) : Type 0 where
  pub names : HasNames e.known e.groups (length e.finals) e.prints e.printed
  pub prints : AreNew [] e.prints
  pub streams_known : (id : ℕ) → IsIn id (packets ∷ stream_ids e.streams) → is_some (meaning_of e.known id) ≡ true
  pub streams : AreNew (packets ∷ []) (stream_ids e.streams)
  pub folds_known : (id : ℕ) (v : FoldView) → meaning_of e.known id ≡ Some (meaning.Fold v) → HasFold e.folds v
  pub folds : (f : TypedFold) → IsIn f e.folds → AreNew [] f.state_names
  pub columns : (one : TypedStream) → IsIn one e.streams → HasOwnColumns e.folds one.columns one.op

-- one more name

pub meaning_cases : (known : List Known) (entry : Known) (id : ℕ) (m : Meaning) → meaning_of (known ++ entry ∷ []) id ≡ Some m
    → (meaning_of known id ≡ Some m) ⊎ ((id ≡ entry.name) × (entry.meaning ≡ m))
meaning_cases [] entry id m e = by _ refl e
  where
    by : (b : Bool) → nat_eq entry.name id ≡ b → (if b then Some entry.meaning else None) ≡ Some m
        → (None ≡ Some m) ⊎ ((id ≡ entry.name) × (entry.meaning ≡ m))
    by true t e = let same : entry.name ≡ id = grind (arith, nat_tests) in inr (sym same, (let s : entry.meaning ≡ m = cc in s))
    by false t e = inl e
meaning_cases (k ∷ known) entry id m e = by _ e (meaning_cases known entry id m)
  where
    by : (b : Bool) → (if b then Some k.meaning else meaning_of (known ++ entry ∷ []) id) ≡ Some m →
        (meaning_of (known ++ entry ∷ []) id ≡ Some m → (meaning_of known id ≡ Some m) ⊎ ((id ≡ entry.name) × (entry.meaning ≡ m))) →
        ((if b then Some k.meaning else meaning_of known id) ≡ Some m) ⊎ ((id ≡ entry.name) × (entry.meaning ≡ m))
    by true e rest = inl e
    by false e rest = rest e

meaning_kept : (known : List Known) (entry : Known) (id : ℕ) (m : Meaning) → meaning_of known id ≡ Some m
    → meaning_of (known ++ entry ∷ []) id ≡ Some m
meaning_kept [] entry id m e = cc
meaning_kept (k ∷ known) entry id m e = by _ e (meaning_kept known entry id m)
  where
    by : (b : Bool) → (if b then Some k.meaning else meaning_of known id) ≡ Some m
        → (meaning_of known id ≡ Some m → meaning_of (known ++ entry ∷ []) id ≡ Some m) →
        (if b then Some k.meaning else meaning_of (known ++ entry ∷ []) id) ≡ Some m
    by true e rest = e
    by false e rest = rest e

pub some_kept : (known : List Known) (entry : Known) (id : ℕ) → is_some (meaning_of known id) ≡ true
    → is_some (meaning_of (known ++ entry ∷ []) id) ≡ true
some_kept known entry id e = by (meaning_of known id) refl e
  where
    by : (o : Option Meaning) → meaning_of known id ≡ o → is_some o ≡ true → is_some (meaning_of (known ++ entry ∷ []) id) ≡ true
    by None h e = cc
    by (Some m) h e = ap is_some (meaning_kept known entry id m h)

pub some_new : (known : List Known) (entry : Known) → is_some (meaning_of (known ++ entry ∷ []) entry.name) ≡ true
some_new [] entry = let t : nat_eq entry.name entry.name ≡ true = grind (arith, nat_tests) in ap
    (λ b. is_some (if b then Some entry.meaning else None)) t
some_new (k ∷ known) entry = by _ (some_new known entry)
  where
    by : (b : Bool) → is_some (meaning_of (known ++ entry ∷ []) entry.name) ≡ true
        → is_some (if b then Some k.meaning else meaning_of (known ++ entry ∷ []) entry.name) ≡ true
    by true rest = refl
    by false rest = rest

pub place_cases : (known : List Known) (entry : Known) (id : ℕ) (p : PrintOf) → place_at (known ++ entry ∷ []) id ≡ Some p
    → (place_at known id ≡ Some p) ⊎ ((id ≡ entry.name) × (place_in (Some entry.meaning) ≡ Some p))
place_cases known entry id p e = by (meaning_of (known ++ entry ∷ []) id) refl e
  where
    by : (o : Option Meaning) → meaning_of (known ++ entry ∷ []) id ≡ o → place_in o ≡ Some p
        → (place_at known id ≡ Some p) ⊎ ((id ≡ entry.name) × (place_in (Some entry.meaning) ≡ Some p))
    by None h e = cc
    by (Some m) h e = elim (meaning_cases known entry id m h) [
      | inl old ↦ inl (ap place_in old ∙ e)
      | inr new ↦ inr (new.0, ap (λ m. place_in (Some m)) new.1 ∙ e)
    ]

place_kept : (known : List Known) (entry : Known) (id : ℕ) (p : PrintOf) → place_at known id ≡ Some p
    → place_at (known ++ entry ∷ []) id ≡ Some p
place_kept known entry id p e = by _ refl e
  where
    by : (o : Option Meaning) → meaning_of known id ≡ o → place_in o ≡ Some p → place_at (known ++ entry ∷ []) id ≡ Some p
    by None h e = cc
    by (Some m) h e = ap place_in (meaning_kept known entry id m h) ∙ e

below_more : (g h f k : ℕ) (p : PrintOf) → g ≤ h → f ≤ k → IsBelow g f p → IsBelow h k p
below_more g h f k (place.Group n) a b l = omega arith
below_more g h f k (place.Final n) a b l = omega arith

-- the names and tables with one more name, which has no table or a new one
pub grown : {packets : ℕ} {e : Earlier} (entry : Known) {groups finals : ℕ} → Good packets e → e.groups ≤ groups → length e.finals ≤ finals
    → ((p : PrintOf) → place_in (Some entry.meaning) ≡ Some p → IsBelow e.groups (length e.finals) p → ⊥)
    → ((p : PrintOf) → place_in (Some entry.meaning) ≡ Some p → IsBelow groups finals p)
    → HasNames (e.known ++ entry ∷ []) groups finals e.prints e.printed
grown {e} entry {groups} {finals} good more_groups more_finals fresh below = record {
  places = λ a b p ea eb. elim (place_cases e.known entry a p ea) [
    | inl oa ↦ elim (place_cases e.known entry b p eb) [
      | inl ob ↦ good.names.places a b p oa ob
      | inr nb ↦ absurd (fresh p nb.1 (good.names.bounds a p oa))
    ]
    | inr na ↦ elim (place_cases e.known entry b p eb) [
      | inl ob ↦ absurd (fresh p na.1 (good.names.bounds b p ob))
      | inr nb ↦ na.0 ∙ sym nb.0
    ]
  ];
  bounds = λ a p ea. elim (place_cases e.known entry a p ea) [
    | inl oa ↦ below_more e.groups groups (length e.finals) finals p more_groups more_finals (good.names.bounds a p oa)
    | inr na ↦ below p na.1
  ];
  prints_known = λ p i. (let k = good.names.prints_known p i in (k.0, k.1, place_kept e.known entry k.0 p k.2));
}

left_at : {A : Type 0} (xs ys : List A) (i : ℕ) (x : A) → slice_get xs i ≡ Some x → slice_get (xs ++ ys) i ≡ Some x
left_at [] ys i x e = cc
left_at (y ∷ xs) ys zero x e = e
left_at (y ∷ xs) ys (suc i) x e = left_at xs ys i x e

last_at : {A : Type 0} (xs : List A) (x : A) → slice_get (xs ++ x ∷ []) (length xs) ≡ Some x
last_at [] x = refl
last_at (y ∷ xs) x = last_at xs x

more_folds : (folds : List TypedFold) (f : TypedFold) (columns : List ℕ) (op : TypedOp) → HasOwnColumns folds columns op
    → HasOwnColumns (folds ++ f ∷ []) columns op
more_folds folds f columns (typed.Group input keys number args) h = (h.0, (h.1.0, left_at folds (f ∷ []) number h.1.0 h.1.1, h.1.2))
more_folds folds f columns (typed.Filter input e) h = tt
more_folds folds f columns (typed.Map input values) h = tt
more_folds folds f columns (typed.Zip left right slots) h = tt

-- one more fold
pub fold_good : {packets : ℕ} {e after : Earlier} (d : FoldDef) → Good packets e → fold_added e d ≡ Ok after → Good packets after
fold_good {packets} {e} d good ok =
    let a = must_not_ok (is_some (meaning_of e.known d.name.id)) NameTaken d.name.span _ ok in
    let b = found_first (fold_checked d) a.1 in
    subst (Good packets) (same_ok b.2) (added b.0 (fold_new d b.1))
  where
    added : (f : TypedFold) → AreNew [] f.state_names → Good packets (with_fold e f)
    added f new =
        let entry : Known = record {
          name = f.name.id;
          meaning = meaning.Fold (record { number = length e.folds; states = f.state_names; args = f.arg_names; emits = is_some f.emit });
        } in
        record {
          names = grown entry good (omega arith) (omega arith) (λ p h. cc) (λ p h. cc);
          prints = good.prints;
          streams_known = λ id i. some_kept e.known entry id (good.streams_known id i);
          streams = good.streams;
          folds_known = λ id v h. elim (meaning_cases e.known entry id (meaning.Fold v) h) [
            | inl old ↦ (let k = good.folds_known id v old in (k.0, left_at e.folds (f ∷ []) v.number k.0 k.1, k.2))
            | inr fresh ↦
                let same : record { number = length e.folds; states = f.state_names; args = f.arg_names; emits = is_some f.emit } ≡ v =
                cc in (
                  f,
                  ap (slice_get (e.folds ++ f ∷ [])) (ap (λ (w : FoldView). w.number) (sym same)) ∙ last_at e.folds f,
                  ap (λ (w : FoldView). w.states) (sym same),
                )
          ];
          folds = λ g i. elim (in_push e.folds f g i) [
            | inl old ↦ good.folds g old
            | inr same ↦ subst (λ (h : TypedFold). AreNew [] h.state_names) (sym same) new
          ];
          columns = λ one i. more_folds e.folds f one.columns one.op (good.columns one i);
        }

-- what a stream's operator makes has no table, or the next one, and its own columns
record IsMade (e : Earlier) (made : MadeStream) : Type 0 where
  table : (made.table ≡ None) ⊎ ((t : TableView) × (made.table ≡ Some t) × (t.place ≡ place.Group e.groups))
  columns : HasOwnColumns e.folds (column_names made.columns) made.op

fold_there : (e : Earlier) {packets : ℕ} → Good packets e → (name : Name) {v : FoldView} → fold_named e.known name ≡ Ok v
    → HasFold e.folds v
fold_there e good name {v} ok = by _ refl ok
  where
    by : (o : Option Meaning) → meaning_of e.known name.id ≡ o → as_fold o name.span ≡ Ok v → HasFold e.folds v
    by None h ok = cc
    by (Some (meaning.Fold f)) h ok = good.folds_known name.id v (h ∙ ap (λ x. Some (meaning.Fold x)) (same_ok ok))
    by (Some (meaning.Stream s)) h ok = cc
    by (Some (meaning.Final t)) h ok = cc

grouped_made : {packets : ℕ} (five : List ℕ) (e : Earlier) (input : Name) (keys : List Key) (fold_name : Name) {made : MadeStream}
    → Good packets e → grouped five e input keys fold_name ≡ Ok made → IsMade e made
grouped_made five e input keys fold_name good ok =
    let source = found_first (stream_named e.known input) ok in
    let picked = found_first (keys_checked five (column_names source.0.columns) source.0.hidden keys) source.2 in
    let f = found_first (fold_named e.known fold_name) picked.2 in
    let arguments = found_first (arguments_of (column_names source.0.columns) source.0.hidden picked.0.names f.0 fold_name.span)
    f.2 in
    let k : AreKeyColumns source.0.columns picked.0 = key_columns_are source.0.hidden (flat_map (key_names five) keys) picked.1 in
    let has = fold_there e good fold_name f.1 in
    let apart : AreApart picked.0.names f.0.states = states_apart (column_names source.0.columns) source.0.hidden picked.0.names f.0
    fold_name.span arguments.0 arguments.1 in
    let apart_columns : AreApart (column_names (columns_at source.0.columns picked.0.slots)) has.0.state_names =
    subst (λ l. AreApart l has.0.state_names) (sym k.names) (subst (AreApart picked.0.names) has.2 apart) in
    subst (IsMade e) (same_ok arguments.2) (record { table = inr (_, refl, refl); columns = (k.new, (has.0, has.1, apart_columns)) })

stream_made : {packets : ℕ} (five : List ℕ) (e : Earlier) (name : Name) (op : StreamOp) (made : MadeStream) → Good packets e
    → made_stream five e name op ≡ Ok made → IsMade e made
stream_made five e name (ops.Filter input x) made good ok =
    let source = found_first (stream_named e.known input) ok in
    let condition = found_first (condition_of (column_names source.0.columns) source.0.hidden x) source.2 in
    subst (IsMade e) (same_ok condition.2) (record { table = inl refl; columns = tt })
stream_made five e name (ops.Map input columns) made good ok =
    let source = found_first (stream_named e.known input) ok in
    let new = found_first (new_columns (column_names source.0.columns) source.0.hidden no_new_columns columns) source.2 in
    subst (IsMade e) (same_ok new.2) (record { table = inl refl; columns = tt })
stream_made five e name (ops.Zip first second) made good ok =
    let left = found_first (stream_named e.known first) ok in
    let right = found_first (stream_named e.known second) left.2 in
    let none = must_not_ok (clash left.0.columns right.0.columns) NameTaken second.span _ right.2 in
    subst (IsMade e) (same_ok none.1) (record { table = inl refl; columns = tt })
stream_made five e name (ops.Group input keys fold_name) made good ok =
    grouped_made five e input keys fold_name good (must_ok (nat_lt e.groups MAX_GROUPBYS) (OverLimit Groupbys) name.span made ok).1

-- what an added stream's name means
abbrev entry_of : Earlier → Name → MadeStream → Known
entry_of e name made = record {
  name = name.id;
  meaning = meaning.Stream (record { number = next_stream e; columns = made.columns; hidden = made.hidden; table = made.table });
}

-- how many groupbys there are with an added stream's
abbrev groups_with : Earlier → MadeStream → ℕ
groups_with e made = e.groups + (if is_some made.table then 1 else 0)

abbrev HasTable : MadeStream → PrintOf → Type 0
HasTable made p = option_map (λ (t : TableView). t.place) made.table ≡ Some p

place_of_table : {e : Earlier} {made : MadeStream} → IsMade e made → (p : PrintOf) → HasTable made p → (place.Group e.groups ≡ p)
    × (groups_with e made ≡ e.groups + 1)
place_of_table {e} is p h = elim is.table [
  | inl none ↦ (let z : None ≡ Some p = sym (ap (option_map _) none) ∙ h in cc)
  | inr some ↦
      let z : Some some.0.place ≡ Some p = sym (ap (option_map _) some.1) ∙ h in
      (cc, ap (λ o. e.groups + (if is_some o then 1 else 0)) some.1)
]

fresh_table : (e : Earlier) {made : MadeStream} → IsMade e made → (p : PrintOf) → HasTable made p → IsBelow e.groups (length e.finals) p → ⊥
fresh_table e is p h l =
    let low : e.groups < e.groups = subst (IsBelow e.groups (length e.finals)) (sym (place_of_table is p h).0) l in
    omega arith

table_below : (e : Earlier) {made : MadeStream} → IsMade e made → (p : PrintOf) → HasTable made p
    → IsBelow (groups_with e made) (length e.finals) p
table_below e {made} is p h =
    let at = place_of_table is p h in
    let one = at.1 in
    subst (IsBelow (groups_with e made) (length e.finals)) at.0 (omega arith)

-- one more stream
with_stream_good : {packets : ℕ} (e : Earlier) (name : Name) {made : MadeStream} → Good packets e
    → is_some (meaning_of e.known name.id) ≡ false → IsMade e made → Good packets (with_stream e name made)
with_stream_good {packets} e name {made} good free is =
    let entry = entry_of e name made in
    record {
      names = grown entry good (omega arith) (omega arith) (fresh_table e is) (table_below e is);
      prints = good.prints;
      streams_known = λ id i. known id (subst (λ l. IsIn id (packets ∷ l)) ids i)
          (λ old h. some_kept e.known entry old (good.streams_known old h));
      streams = subst (AreNew (packets ∷ [])) (sym ids) (new_push (packets ∷ []) (stream_ids e.streams) name.id good.streams
          (λ i. (let k = good.streams_known name.id i in cc)));
      folds_known = λ id v h. elim (meaning_cases e.known entry id (meaning.Fold v) h) [
        | inl old ↦ good.folds_known id v old
        | inr new ↦ (let stream = new.1 in cc)
      ];
      folds = good.folds;
      columns = λ one i. elim (in_push e.streams (record { name = name; columns = column_names made.columns; op = made.op }) one i) [
        | inl old ↦ good.columns one old
        | inr same ↦ subst (λ (s : TypedStream). HasOwnColumns e.folds s.columns s.op) (sym same) is.columns
      ];
    }
  where
    ids : stream_ids (e.streams ++ record { name = name; columns = column_names made.columns; op = made.op } ∷ []) ≡ stream_ids e.streams
        ++ name.id ∷ []
    ids = map-append (λ (one : TypedStream). one.name.id) e.streams (record
        { name = name; columns = column_names made.columns; op = made.op } ∷ [])

    known : (id : ℕ) → IsIn id (packets ∷ (stream_ids e.streams ++ name.id ∷ [])) →
        ((id : ℕ) → IsIn id (packets ∷ stream_ids e.streams) → is_some (meaning_of (e.known ++ entry_of e name made ∷ []) id) ≡ true) →
        is_some (meaning_of (e.known ++ entry_of e name made ∷ []) id) ≡ true
    known id i old = elim (in_push (packets ∷ stream_ids e.streams) name.id id i) [
      | inl h ↦ old id h
      | inr same ↦ subst (λ n. is_some (meaning_of (e.known ++ entry_of e name made ∷ []) n) ≡ true) (sym same)
          (some_new e.known (entry_of e name made))
    ]

begun_free : (e : Earlier) (name : Name) (u : Unit {0}) → begun e name ≡ Ok u → is_some (meaning_of e.known name.id) ≡ false
begun_free e name u ok = (must_not_ok _ _ _ _ ok).0

pub stream_good : {packets : ℕ} (five : List ℕ) {e after : Earlier} (d : StreamDef) → Good packets e → stream_checked five e d ≡ Ok after
    → Good packets after
stream_good {packets} five {e} d good ok =
    let b = found_first (begun e d.name) ok in
    let m = found_first (made_stream five e d.name d.op) b.2 in
    subst (Good packets) (same_ok m.2)
    (with_stream_good e d.name good (begun_free e d.name b.0 b.1) (stream_made five e d.name d.op m.0 good m.1))
