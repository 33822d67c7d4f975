-- The keys of a typed query that have a field's name are the packet's words of it.
use Rattle.std.proofs.Common.{◌≡◌, ℕ, ◌+◌, Bool, true, false, ◌||◌, List, [], ◌∷◌, ◌++◌, length, slice_index, Some, None, refl, sym, subst}
use Rattle.std.{proofs.{Common.arith, lemmas.List.{length_push, Elements.{All-nil, All-cons, All-push, All-weaker}}}, specs.Prelude.All}
use Rattle.std.specs.List.{list_any}
use Rattle.marple_base.specs.{declared.field.{Field.Field, TheConstants.FIELDS}, Field.all_fields}
use Rattle.query_lang.specs.declared.{fold.TypedFold.TypedFold, query.Item.Item}
use Rattle.query_lang.specs.declared.query.Item.TheVariants as item
use Rattle.query_lang.specs.declared.{query.{Name.Name, Query.Query, StreamOp.StreamOp}, typed.TypedOp.TypedOp}
use Rattle.query_lang.specs.declared.typed.TypedOp.TheVariants as typed
use Rattle.query_lang.specs.declared.{typed.{TypedQuery.TypedQuery, TypedStream.TypedStream}, typing.{Given.Given, MadeStream.MadeStream}}
use Rattle.query_lang.specs.declared.typing.Origin.TheVariants as origin
use Rattle.query_lang.specs.{Streams.Tuple, TypedFinals.five_fields, TypedStreams.column_names}
use Rattle.query_lang.specs.Typing.{typed_names, field_numbers, given_of}
use Rattle.query_laws.specs.Context.{Entry, AFold, AStream, AFinal, APrint, streams_in, known_in, groups_in}
use Rattle.query_laws.specs.{QueryRules.{HasItem, HasItems, IsTyped, of_none, of_more, query_with}, StreamRules.HasStream}
use Rattle.query_laws.proofs.FieldColumns.{AreKnown, all_known}
use Rattle.stage_plan.proofs.StreamRows.{Row, row_at, row_made, rows_from, all_rows, tuple_of, at_last, stream_rows}
use Rattle.net_laws.{specs.{Fields.{makes_field, field_word}, FieldLaws.{KeysAreFields, KeysAreTheField}}, proofs.Tells.packet_tells}
use Rattle.net_laws.proofs.Rows.{RowTells, SlotTells, rows_last}
use Rattle.net_laws.proofs.Made.{AllTell, KeysTell, MadeTells, names_of_new, all_last, all_more, keys_more, stream_tells}

-- ---- how the streams were made

-- each stream was made by the rules after the items before it
abbrev pub AreMade : List ℕ → List (List ℕ) → List Entry → Type 0
AreMade five names [] = Unit {0}
AreMade five names (AFold f ∷ items) = AreMade five names items
AreMade five names (AStream name made ∷ items) =
    ((op : StreamOp) × HasStream five (known_in names items) (length (streams_in items) + 1) (groups_in items) op made)
    × AreMade five names items
AreMade five names (AFinal name made ∷ items) = AreMade five names items
AreMade five names (APrint name table ∷ items) = AreMade five names items

one_made : (given : Given) (names : List (List ℕ)) (items : List Entry) (i : Item) (one : Entry) → HasItem given names items i one
    → AreMade (five_fields given.fields) names items → AreMade (five_fields given.fields) names (one ∷ items)
one_made given names items (item.Stream d) one h all = rw h.is ((d.op, h.typed), all)
one_made given names items _ one h all = subst (λ z. AreMade (five_fields given.fields) names (z ∷ items)) (sym h.is) all

pub all_made : (given : Given) (names : List (List ℕ)) (before : List Entry) (list : List Item) (all : List Entry)
    → HasItems given names before list all → AreMade (five_fields given.fields) names before → AreMade (five_fields given.fields) names all
all_made given names _ _ _ (of_none before) made = made
all_made given names _ _ _ (of_more before i one rest all h more) made = all_made _ _ _ _ _ more (one_made given _ _ i _ h made)

-- ---- what the rows of one packet say

-- these are the rows of a packet that has this word of the field, stream by stream
pub record RowsTell (field : Field) (names : List (List ℕ)) (value : ℕ) (items : List Entry) (rows : List Row) : Type 0 where
  pub long : length rows ≡ length (streams_in items) + 1
  pub known : AllTell field names value rows (known_in names items)
  pub keys : All (λ one. KeysTell field names value rows one.columns one.op) (streams_in items)

none_before : {A : Type 0} (test : A → Bool) (xs : List A) (x : A) → list_any test (xs ++ x ∷ []) ≡ false
    → (list_any test xs ≡ false) × (test x ≡ false)
none_before test [] x e = go _ e
  where
    go : (b : Bool) → (b || false) ≡ false → (false ≡ false) × (b ≡ false)
    go true k = cc k
    go false k = (refl, refl)
none_before test (y ∷ xs) x e = go _ (λ k. none_before _ xs x k) e
  where
    go : (b : Bool) → (list_any test (xs ++ x ∷ []) ≡ false → (list_any test xs ≡ false) × (test x ≡ false))
        → (b || list_any test (xs ++ x ∷ [])) ≡ false → ((b || list_any test xs) ≡ false) × (test x ≡ false)
    go true more k = cc k
    go false more k = more k

module _ (field : Field) (names : List (List ℕ)) (folds : List TypedFold) (five : List ℕ) (known : AreKnown names all_fields)
    (words : List ℕ)
    (size : length words ≡ FIELDS) where
  abbrev rows : List Entry → List Row
  rows items = rows_from folds (Some words ∷ []) (streams_in items)

  packets_tell : RowsTell field names (field_word field words) [] (Some words ∷ [])
  packets_tell = record {
    long = refl;
    known = (
      (
        omega arith,
        subst (λ l. RowTells field names (field_word field words) l (Some words)) (sym (names_of_new origin.Field (field_numbers names)))
            (packet_tells _ names _ known size),
      ),
      tt,
    );
    keys = All-nil _;
  }

  stream_more : (name : Name) (made : MadeStream) (items : List Entry) → RowsTell field names (field_word field words) items (rows items)
      → MadeTells field names (field_word field words) folds (rows items) made
      → RowsTell field names (field_word field words) (AStream name made ∷ items) (rows items ++ row_made folds (rows items) made.op ∷ [])
  stream_more name made items h t =
      let value = field_word field words in
      let r : Row = row_made folds (rows items) made.op in
      let one : TypedStream = record { name = name; columns = column_names made.columns; op = made.op } in
      let size : length (rows items ++ r ∷ []) ≡ length (rows items) + 1 = length_push (rows items) r in
      record {
        long = omega (arith, size, length_push (streams_in items) one);
        known = all_last _ _ _ _ _ _ (all_more _ _ _ _ r (known_in names items) h.known) (
          omega (arith, h.long, size),
          rw (at_last (rows items) r None (length (streams_in items) + 1) (sym h.long)) t.0,
        );
        keys = All-push (λ s. KeysTell field names value (rows items ++ r ∷ []) s.columns s.op) (streams_in items) one
            (All-weaker (λ s. KeysTell field names value (rows items) s.columns s.op) _
            (λ s k. keys_more field names value (rows items) r s.columns s.op k) (streams_in items) h.keys)
            (keys_more field names value (rows items) r (column_names made.columns) made.op t.1);
      }

  pub rows_tell : (items : List Entry) → AreMade five names items → makes_field field names (streams_in items) ≡ false
      → RowsTell field names (field_word field words) items (rows items)
  rows_tell [] made none = packets_tell
  rows_tell (AFold f ∷ items) made none =
      let h = rows_tell items made none in record { long = h.long; known = all_last _ _ _ _ _ _ h.known _; keys = h.keys }
  rows_tell (AFinal name t ∷ items) made none =
      let h = rows_tell items made none in record { long = h.long; known = all_last _ _ _ _ _ _ h.known _; keys = h.keys }
  rows_tell (APrint name table ∷ items) made none =
      let h = rows_tell items made none in record { long = h.long; known = h.known; keys = h.keys }
  rows_tell (AStream name m ∷ items) made none =
      let one : TypedStream = assumption (column_names m.columns) in
      let apart = none_before _ (streams_in items) _ none in
      let h = rows_tell _ made.1 apart.0 in
      let t = stream_tells _ _ _ _ _ _ _
      _
      _ _ m h.known made.0.1 apart.1 in
      rw (rows_last folds (Some words ∷ []) (streams_in items) one) (stream_more name m items h t)

-- what the rows of each whole packet say of an operator
abbrev pub AlwaysTells : TypedQuery → Field → List ℕ → TypedOp → Type 0
AlwaysTells q field columns op =
    (words : List ℕ) → length words ≡ FIELDS → KeysTell field q.names (field_word field words) (all_rows q words) columns op

-- so in each typed query where no `map` makes a column of the field's name
pub always_tells : (query : Query) (q : TypedQuery) (field : Field) → IsTyped query q → makes_field field q.names q.streams ≡ false
    → All (λ one. AlwaysTells q field one.columns one.op) q.streams
always_tells query q field h none =
    let names = typed_names query.names in
    let given = given_of names query.items in
    let made = all_made _ _ _ _ _ h.typed _ in
    let t = query_with _ h.items in
    let K : TypedQuery → Type 0 = λ z. makes_field field z.names z.streams ≡ false
    → All (λ one. AlwaysTells z field one.columns one.op) z.streams in
    let tells : K t = λ unmade k d lt words size.
    (rows_tell _ _ _ _ (all_known query.names) _ size h.items made unmade).keys k d lt in
    subst K (sym h.is) tells none

-- ---- keys

slot_of : (value slot : ℕ) (o : Row) → SlotTells value slot o → All (λ (t : Tuple). slice_index t.row slot ≡ value) (tuple_of 1 o ++ [])
slot_of value slot None h = All-nil _
slot_of value slot (Some row) h =
    All-cons _ _ [] h
    (All-nil (λ (t : Tuple). slice_index t.row slot ≡ value))

keys_of : (q : TypedQuery) (field : Field) (columns : List ℕ) (op : TypedOp)
    → (makes_field field q.names q.streams ≡ false → AlwaysTells q field columns op) → KeysAreTheField q field columns op
keys_of q field columns (typed.Group input keys f args) h = λ j lt is none words size. rw (stream_rows q input (words ∷ []))
    (slot_of (field_word field words) (slice_index keys j) (row_at (all_rows q words) input) ((h none words size).1 j lt is))
keys_of q field columns _ h = tt

pub keys_are : KeysAreFields
keys_are query q field h = λ k d lt. keys_of q _ _ _ (λ none. always_tells _ q _ h none k d lt)
