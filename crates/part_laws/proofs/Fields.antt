-- The keys of a typed query that have a field's name are the packet's words of it.
use Rattle.part_laws.proofs.Words.{◌≡◌, ℕ, zero, suc, ◌<◌, true, cond, List, [], ◌∷◌, ◌++◌, length, map, filter, Option, Some, None, refl}
use Rattle.part_laws.proofs.Words.{sym, ap, ◌∙◌, subst, arith, All, is_some, slice_get, slice_index_or, cons_option, get_or-map, All-nil}
use Rattle.part_laws.proofs.Words.{All-cons, All-head, All-tail, by_test, FIELDS, TypedQuery, Taking, taking_of, takings, use_of, taken_by}
use Rattle.part_laws.proofs.Words.{uses, row_at, all_rows, tuple_of, stream_rows, groupbys, first_named, part_by, HasFieldKey}
use Rattle.std.proofs.{Common.slice_index, lemmas.Option.same_Some}
use Rattle.epoch_model.specs.Epochs.{Use}
use Rattle.marple_base.specs.declared.field.Field.{Field}
use Rattle.query_lang.specs.declared.{query.Query.Query, typed.TypedOp.TypedOp}
use Rattle.query_lang.specs.declared.typed.TypedOp.TheVariants as typed
use Rattle.query_lang.specs.declared.typed.TypedStream.{TypedStream}
use Rattle.query_laws.specs.QueryRules.{IsTyped}
use Rattle.stage_plan.proofs.StreamRows.{Row}
use Rattle.net_laws.{specs.Fields.{field_word, is_named, names_field}, proofs.{Fields.{AlwaysTells, always_tells}, Rows.SlotTells}}
use Rattle.part_laws.specs.PartLaws.{FieldsKeepKeys, FieldListsKeepKeys, FieldListsGiveTheParts}

-- ---- keys

-- the first column that has the field's name is there
named_at : (field : Field) (names : List (List ℕ)) (columns : List ℕ) → names_field field names columns ≡ true
    → (first_named field names columns < length columns) × (is_named field names (slice_index columns (first_named field names columns))
    ≡ true)
named_at field names [] e = cc e
named_at field names (id ∷ columns) e = by_test (is_named field names id) (λ t. rw t (omega arith, t))
    (λ t. let more = named_at _ _ columns (rw t at e) in rw t (omega (arith, more.0), more.1))

-- this holds of the stream, and it is the groupby whose taking has this number
abbrev IsAt : (TypedStream → Type 0) → List TypedStream → ℕ → TypedStream → Type 0
IsAt P streams i one = P one × (slice_get (takings streams) i ≡ taking_of one.op) × (is_some (taking_of one.op) ≡ true)

-- what holds of each stream holds of the groupby with this number
groupby_at : (P : TypedStream → Type 0) (streams : List TypedStream) (i : ℕ) (one : TypedStream) → All P streams
    → slice_get (filter (λ s. is_some (taking_of s.op)) streams) i ≡ Some one → IsAt P streams i one
groupby_at P [] i one all e = cc e
groupby_at P (s ∷ streams) i one all e = go (λ k at. groupby_at P streams k _ (All-tail P s streams all) at) _ refl i e
  where
    go : ((k : ℕ) → slice_get (filter (λ s. is_some (taking_of s.op)) streams) k ≡ Some one → IsAt P streams k one) → (o : Option Taking)
        → taking_of s.op ≡ o → (k : ℕ) → slice_get (cond (is_some o) (s ∷ filter (λ s. is_some (taking_of s.op)) streams)
        (filter (λ s. is_some (taking_of s.op)) streams)) k ≡ Some one → P one
        × (slice_get (cons_option o (takings streams)) k ≡ taking_of one.op) × (is_some (taking_of one.op) ≡ true)
    go more None is k e = more k e
    go more (Some t) is zero e =
        let same : s ≡ one = same_Some s one e in (
          subst P same (All-head P s streams all),
          sym is ∙ ap (λ z. taking_of z.op) same,
          ap (λ z. is_some (taking_of z.op)) (sym same) ∙ ap is_some is,
        )
    go more (Some t) is (suc k) e = more k e

-- the keys that a packet's row gives
key_tells : (t : Taking) (value j : ℕ) (o : Row) → j < length t.keys → SlotTells value (slice_index t.keys j) o
    → All (λ u. value ≡ slice_index u.key j) (map (use_of t) (tuple_of 1 o ++ []))
key_tells t value j None lt h = All-nil _
key_tells t value j (Some row) lt h =
    All-cons (λ (u : Use). value ≡ slice_index u.key j) (use_of t (record { packet = 1; row = row })) []
    (sym (get_or-map (λ slot. slice_index row slot) _ j 0 0 lt ∙ h))
    (All-nil _)

-- each key that a packet gives to the groupby has the packet's word of the field, in the first column of its name
abbrev GivesWords : TypedQuery → ℕ → Field → List ℕ → Type 0
GivesWords q i field columns = (words : List ℕ) → length words ≡ FIELDS
    → All (λ u. field_word field words ≡ slice_index u.key (first_named field q.names columns)) (uses q i (words ∷ []))

gives_words : (q : TypedQuery) (i : ℕ) (field : Field) (columns : List ℕ) (op : TypedOp)
    → slice_get (takings q.streams) i ≡ taking_of op → is_some (taking_of op) ≡ true → names_field field q.names columns ≡ true
    → AlwaysTells q field columns op → GivesWords q i field columns
gives_words q i field columns (typed.Filter input condition) at is named tells = cc is
gives_words q i field columns (typed.Map input values) at is named tells = cc is
gives_words q i field columns (typed.Zip left right slots) at is named tells = cc is
gives_words q i field columns (typed.Group input keys f args) at is named tells = λ words size.
    let slot = first_named field q.names columns in
    let is_there = named_at field q.names columns named in
    let t : Taking = record { input = input; keys = keys; fold_number = f; args = args } in
    let here = tells words size in
    let lt : slot < length keys = omega (arith, is_there.0, here.2) in
    subst (All (λ (u : Use). field_word field words ≡ slice_index u.key slot))
    (sym (ap (taken_by q (words ∷ [])) at ∙ ap (map (use_of t)) (stream_rows q input (words ∷ []))))
    (key_tells t (field_word field words) slot (row_at (all_rows q words) input) lt (here.1 slot lt is_there.1))

-- so in each typed query
field_gives : (query : Query) (q : TypedQuery) (i : ℕ) (field : Field) → IsTyped query q → (has : HasFieldKey q i field)
    → GivesWords q i field has.one.columns
field_gives query q i field h key =
    let at = groupby_at (λ one. AlwaysTells q field one.columns one.op) _ i key.one (always_tells _ q _ h key.unmade)
    key.groupby in
    gives_words q i _ _ _ at.1 at.2 key.key at.0

pub fields_keep : FieldsKeepKeys
fields_keep query q i field choose h has = record {
  part_of = λ key. choose (slice_index key (first_named field q.names has.one.columns));
  goes = λ words size k d lt. ap choose (field_gives _ q i _ h has words size k d lt);
}

-- ---- several fields

all_give : (query : Query) (q : TypedQuery) (i : ℕ) → IsTyped query q → (one : TypedStream) → slice_get (groupbys q) i ≡ Some one
    → (fields : List Field) → All (HasFieldKey q i) fields → (words : List ℕ) → length words ≡ FIELDS
    → All (λ u. map (λ field. field_word field words) fields ≡ map (λ field. slice_index u.key (first_named field q.names one.columns))
    fields) (uses q i (words ∷ []))
all_give query q i h one at [] all words size k d lt = refl
all_give query q i h one at (field ∷ fields) all words size k d lt =
    let has : HasFieldKey q i field = All-head (HasFieldKey q i) field fields all in
    let same : has.one ≡ one = same_Some has.one one (sym has.groupby ∙ at) in
    let u : Use = slice_index_or (uses q i (words ∷ [])) k d in
    let rest = all_give query q i h one at fields (All-tail (HasFieldKey q i) field fields all) words size k d lt in
    ap (λ word. word ∷ map (λ f. field_word f words) fields)
    (field_gives query q i field h has words size k d lt ∙ ap (λ (s : TypedStream). slice_index u.key (first_named field q.names s.columns))
    same)
    ∙ ap (λ list. slice_index u.key (first_named field q.names one.columns) ∷ list) rest

pub field_lists_give : FieldListsGiveTheParts
field_lists_give query q i fields choose one h all at = (
  record {
    part_of = part_by _ _ _ choose;
    goes = λ words size k d lt. ap choose (all_give _ q i h _ at _ all _ size k d lt);
  },
  λ key. refl,
)

pub field_lists_keep : FieldListsKeepKeys
field_lists_keep query q i [] choose h all = record { part_of = λ key. choose []; goes = λ words size k d lt. refl }
field_lists_keep query q i (field ∷ fields) choose h all =
    let has : HasFieldKey q i field = All-head (HasFieldKey q i) field fields all in
    (field_lists_give query q i (field ∷ fields) choose has.one h all has.groupby).0
