-- What names stand for, new columns, keys and arguments: the rules and the checks agree.
use Rattle.std.proofs.Common.{◌≡◌, ℕ, ◌+◌, ◌≤◌, false, ◌||◌, cond, List, [], ◌∷◌, ◌++◌, length, map, Option, Some, None, Ok, nat_eq, refl}
use Rattle.std.proofs.{Common.{sym, ap, subst, ◌∙◌, append_assoc, append-nil, inl, inr, arith}, lemmas.Bool.{ltb-true, or_parts}}
use Rattle.std.proofs.lemmas.List.{length-append}
use Rattle.std.specs.{Prelude.is_some, List.list_any}
use Rattle.query_lang.specs.declared.typing.Meaning.TheVariants as meaning
use Rattle.query_laws.proofs.Terms.{Span, TypedExpr, Name, Column, FoldView, StreamView, TableView, Known, Meaning, NewColumns, Picked}
use Rattle.query_laws.proofs.Terms.{Checked, collected, is_among, slot_at, slot_of, word_of, meaning_of, as_stream, stream_named, as_fold}
use Rattle.query_laws.proofs.Terms.{fold_named, new_columns, keys_from, arguments_of, table_at, as_table, table_named, MAX_KEYS, StandsAt}
use Rattle.query_laws.proofs.Terms.{AreNew, NameStandsFor, IsFree, IsStream, IsFold, IsTable, HasTypedColumns, new_names, HasSlots}
use Rattle.query_laws.proofs.{Terms.{AreApart, HasArguments}, Steps.{must_ok, must_not_ok, must_holds, must_not_holds, same_ok}}
use Rattle.query_laws.proofs.Steps.{found_first, then_next, nat_same, nat_other, nat_is, nat_is_not, stands_place, by_test, by_cond}
use Rattle.query_laws.proofs.{Steps.collected_first, ExprSound.{slot_stands, word_sound}, ExprComplete.word_complete}
use Rattle.query_laws.proofs.FoldNames.{new_among, among_new, among_append, below}
use Rattle.query_types.proofs.ViewLaws.{stream_meaning, fold_meaning}

pub ok : {A : Type 0} {x y : A} → x ≡ y → (let r : Checked A = Ok x in r) ≡ Ok y
ok {A} e = ap (λ z. let r : Checked A = Ok z in r) e

-- ---- what a name stands for

pub meaning_sound : (known : List Known) (id : ℕ) {m : Meaning} → meaning_of known id ≡ Some m → NameStandsFor known id m
meaning_sound [] _ e = cc e
meaning_sound (one ∷ rest) id e =
    by_cond (nat_eq one.name id) e (λ is k. inl (nat_same is, cc k)) (λ is k. inr (nat_other is, meaning_sound rest id k))

pub meaning_complete : (known : List Known) (id : ℕ) {m : Meaning} → NameStandsFor known id m → meaning_of known id ≡ Some m
meaning_complete [] _ h = absurd h
meaning_complete (one ∷ rest) id (inl p) = ap (λ b. cond b (Some one.meaning) (meaning_of rest id)) (nat_is p.0) ∙ ap Some p.1
meaning_complete (one ∷ rest) id (inr p) = ap (λ b. cond b (Some one.meaning) (meaning_of rest id)) (nat_is_not p.0)
    ∙ meaning_complete rest id p.1

pub free_sound : (known : List Known) (id : ℕ) → is_some (meaning_of known id) ≡ false → IsFree known id
free_sound [] _ e = tt
free_sound (one ∷ rest) id e = by_test (nat_eq one.name id) (λ is. cc (rw is at e))
    (λ is. (nat_other is, free_sound rest id (rw is at e)))

pub free_complete : (known : List Known) (id : ℕ) → IsFree known id → is_some (meaning_of known id) ≡ false
free_complete [] _ h = refl
free_complete (one ∷ rest) id h = ap (λ b. is_some (cond b (Some one.meaning) (meaning_of rest id))) (nat_is_not h.0)
    ∙ free_complete rest id h.1

pub stream_sound : (known : List Known) (name : Name) {s : StreamView} → stream_named known name ≡ Ok s → IsStream known name.id s
stream_sound known name e = meaning_sound _ _ (stream_meaning known name _ e)

pub stream_complete : (known : List Known) (name : Name) {s : StreamView} → IsStream known name.id s → stream_named known name ≡ Ok s
stream_complete _ name h = ap (λ o. as_stream o name.span) (meaning_complete _ _ h)

pub fold_name_sound : (known : List Known) (name : Name) {f : FoldView} → fold_named known name ≡ Ok f → IsFold known name.id f
fold_name_sound known name e = meaning_sound _ _ (fold_meaning known name _ e)

pub fold_name_complete : (known : List Known) (name : Name) {f : FoldView} → IsFold known name.id f → fold_named known name ≡ Ok f
fold_name_complete _ name h = ap (λ o. as_fold o name.span) (meaning_complete _ _ h)

table_there : (o : Option TableView) (span : Span) {t : TableView} → table_at o span ≡ Ok t → o ≡ Some t
table_there None _ e = cc e
table_there (Some x) _ {t} e = ap Some (same_ok x t e)

pub table_sound : (known : List Known) (name : Name) {t : TableView} → table_named known name ≡ Ok t → IsTable known name.id t
table_sound known name {t} e = go (meaning_of known name.id) refl e
  where
    go : (o : Option Meaning) → meaning_of known name.id ≡ o → as_table o name.span ≡ Ok t → IsTable known name.id t
    go None _ e = cc e
    go (Some (meaning.Fold f)) _ e = cc e
    go (Some (meaning.Stream s)) is e = inr (s, meaning_sound _ _ is, table_there _ _ e)
    go (Some (meaning.Final x)) is e = inl (meaning_sound _ _ (is ∙ ap (λ z. Some (meaning.Final z)) (same_ok x t e)))

pub table_complete : (known : List Known) (name : Name) {t : TableView} → IsTable known name.id t → table_named known name ≡ Ok t
table_complete _ name (inl h) = ap (λ o. as_table o name.span) (meaning_complete _ _ h)
table_complete _ name (inr p) = ap (λ o. as_table o name.span) (meaning_complete _ _ p.1) ∙ ap (λ o. table_at o name.span) p.2

-- ---- new columns

columns_same : {ns ms : List ℕ} {vs ws : List TypedExpr} → ns ≡ ms → vs ≡ ws
    → (let r : NewColumns = record { names = ns; values = vs } in r) ≡ record { names = ms; values = ws }
columns_same {ms} {vs} e f = ap (λ z. let r : NewColumns = record { names = z; values = vs } in r) e
    ∙ ap (λ z. let r : NewColumns = record { names = ms; values = z } in r) f

pub taken_is : (id : ℕ) (columns hidden names : List ℕ) → is_among id (columns ++ (hidden ++ names))
    ≡ (is_among id columns || (is_among id hidden || is_among id names))
taken_is id columns hidden names = among_append id columns (hidden ++ names)
    ∙ ap (λ b. is_among id columns || b) (among_append id hidden names)

taken_more : (id : ℕ) (columns hidden names : List ℕ) → (columns ++ (hidden ++ names)) ++ id ∷ [] ≡ columns
    ++ (hidden ++ (names ++ id ∷ []))
taken_more id columns hidden names = append_assoc columns (hidden ++ names) (id ∷ [])
    ∙ ap (λ z. columns ++ z) (append_assoc hidden names (id ∷ []))

pub columns_sound : (columns hidden : List ℕ) (cs : List Column) (made : NewColumns) {all : NewColumns}
    → new_columns columns hidden made cs ≡ Ok all
    → (values : List TypedExpr) × HasTypedColumns columns (columns ++ (hidden ++ made.names)) cs values
    × (all ≡ record { names = made.names ++ new_names cs; values = made.values ++ values })
columns_sound _ _ [] made e = (
  [],
  tt,
  sym (same_ok _ _ e) ∙ columns_same (sym (append-nil made.names)) (sym (append-nil made.values)),
)
columns_sound columns hidden (c ∷ cs) made {all} e =
    let one = must_not_ok _ _ _ e in
    let word = found_first (word_of columns hidden c.value) _ all one.1 in
    let rest = columns_sound columns hidden cs (record { names = made.names ++ c.name.id ∷ []; values = made.values ++ word.0 ∷ [] })
    word.2 in (
      word.0 ∷ rest.0,
      (
        among_new c.name.id _ (taken_is c.name.id columns hidden made.names ∙ one.0),
        word_sound hidden word.1,
        subst (λ z. HasTypedColumns columns z cs rest.0) (sym (taken_more c.name.id columns hidden made.names)) rest.1,
      ),
      rest.2 ∙ columns_same (append_assoc made.names (c.name.id ∷ []) (new_names cs)) (append_assoc made.values (word.0 ∷ []) rest.0),
    )

pub columns_complete : (columns hidden : List ℕ) (cs : List Column) (values : List TypedExpr) (made : NewColumns)
    → HasTypedColumns columns (columns ++ (hidden ++ made.names)) cs values
    → new_columns columns hidden made cs ≡ Ok (record { names = made.names ++ new_names cs; values = made.values ++ values })
columns_complete _ _ [] [] made h = ok (columns_same (sym (append-nil made.names)) (sym (append-nil made.values)))
columns_complete columns hidden (c ∷ cs) (v ∷ values) made h =
    must_not_holds _ _ (sym (taken_is c.name.id columns hidden made.names) ∙ new_among c.name.id _ h.0)
    ∙ then_next _ (word_complete hidden h.1)
    ∙ columns_complete columns hidden cs values (record { names = made.names ++ c.name.id ∷ []; values = made.values ++ v ∷ [] })
    (subst (λ z. HasTypedColumns columns z cs values) (taken_more c.name.id columns hidden made.names) h.2)
    ∙ ok (columns_same (append_assoc made.names (c.name.id ∷ []) (new_names cs)) (append_assoc made.values (v ∷ []) values))
columns_complete _ _ _ _ _ h = absurd h

-- ---- keys

pub slot_complete : (columns hidden : List ℕ) (name : Name) {slot : ℕ} → StandsAt columns slot name.id
    → slot_of columns hidden name ≡ Ok slot
slot_complete _ hidden name h = ap (λ o. slot_at o (is_among name.id hidden) name.span) (stands_place _ _ h)

abbrev name_ids : List Name → List ℕ
name_ids names = map (λ key. key.id) names

picked_same : {ns ms ss ts : List ℕ} → ns ≡ ms → ss ≡ ts → (let r : Picked = record { names = ns; slots = ss } in r) ≡ record
    { names = ms; slots = ts }
picked_same {ms} {ss} e f = ap (λ z. let r : Picked = record { names = z; slots = ss } in r) e
    ∙ ap (λ z. let r : Picked = record { names = ms; slots = z } in r) f

pub keys_sound : (columns hidden : List ℕ) (keys : List Name) (found : Picked) {all : Picked} → length found.names ≤ MAX_KEYS
    → keys_from columns hidden found keys ≡ Ok all
    → (slots : List ℕ) × HasSlots columns (name_ids keys) slots × AreNew found.names (name_ids keys)
    × (length found.names + length keys ≤ MAX_KEYS) × (all ≡ record { names = found.names ++ name_ids keys; slots = found.slots ++ slots })
keys_sound _ _ [] found h e = (
  [],
  tt,
  tt,
  omega (arith, h),
  sym (same_ok _ _ e) ∙ picked_same (sym (append-nil found.names)) (sym (append-nil found.slots)),
)
keys_sound columns hidden (key ∷ keys) found {all} h e =
    let slot = found_first (slot_of columns hidden key) _ all e in
    let one = must_not_ok _ _ _ slot.2 in
    let two = must_ok _ _ _ one.1 in
    let few = ltb-true (length found.names) MAX_KEYS two.0 in
    let long = length-append found.names (key.id ∷ []) in
    let rest = keys_sound columns hidden keys (record { names = found.names ++ key.id ∷ []; slots = found.slots ++ slot.0 ∷ [] })
    (omega (arith, long, few)) two.1 in (
      slot.0 ∷ rest.0,
      (slot_stands columns hidden key slot.1, rest.1),
      (among_new key.id found.names one.0, rest.2),
      omega (arith, long, rest.3),
      rest.4 ∙ picked_same (append_assoc found.names (key.id ∷ []) (name_ids keys)) (append_assoc found.slots (slot.0 ∷ []) rest.0),
    )

pub keys_complete : (columns hidden : List ℕ) (keys : List Name) (slots : List ℕ) (found : Picked) → HasSlots columns (name_ids keys) slots
    → AreNew found.names (name_ids keys) → length found.names + length keys ≤ MAX_KEYS
    → keys_from columns hidden found keys ≡ Ok (record { names = found.names ++ name_ids keys; slots = found.slots ++ slots })
keys_complete _ _ [] [] found h _ _ = ok (picked_same (sym (append-nil found.names)) (sym (append-nil found.slots)))
keys_complete columns hidden (key ∷ keys) (s ∷ slots) found h new few = then_next _ (slot_complete columns hidden key h.0)
    ∙ must_not_holds _ _ (new_among key.id found.names new.0) ∙ must_holds _ _
    (below {k = length found.names} {n = MAX_KEYS} (omega (arith, few)))
    ∙ keys_complete columns hidden keys slots (record { names = found.names ++ key.id ∷ []; slots = found.slots ++ s ∷ [] }) h.1 new.1
    (omega (arith, few, length-append found.names (key.id ∷ [])))
    ∙ ok (picked_same (append_assoc found.names (key.id ∷ []) (name_ids keys)) (append_assoc found.slots (s ∷ []) slots))
keys_complete _ _ _ _ _ h _ _ = absurd h

-- ---- arguments

abbrev pub slot_for : List ℕ → List ℕ → Span → ℕ → Checked ℕ
slot_for columns hidden span id = slot_of columns hidden (record { id = id; span = span })

slots_sound : (columns hidden : List ℕ) (span : Span) (ids before : List ℕ) {all : List ℕ}
    → collected before (map (slot_for columns hidden span) ids) ≡ Ok all → (slots : List ℕ) × (all ≡ before ++ slots)
    × HasSlots columns ids slots
slots_sound _ _ _ [] before e = ([], sym (same_ok _ _ e) ∙ sym (append-nil before), tt)
slots_sound columns hidden span (id ∷ ids) before e =
    let first = collected_first before (slot_for columns hidden span id) _ e in
    let more = slots_sound columns hidden span ids (before ++ first.0 ∷ []) first.2 in (
      first.0 ∷ more.0,
      more.1 ∙ append_assoc before (first.0 ∷ []) more.0,
      (slot_stands columns hidden (record { id = id; span = span }) first.1, more.2),
    )

slots_complete : (columns hidden : List ℕ) (span : Span) (ids slots before : List ℕ) → HasSlots columns ids slots
    → collected before (map (slot_for columns hidden span) ids) ≡ Ok (before ++ slots)
slots_complete _ _ _ [] [] before h = ok (sym (append-nil before))
slots_complete columns hidden span (id ∷ ids) (s ∷ slots) before h = ap (λ c. collected before (c ∷ map (slot_for columns hidden span) ids))
    (slot_complete columns hidden (record { id = id; span = span }) h.0)
    ∙ slots_complete columns hidden span ids slots (before ++ s ∷ []) h.1 ∙ ok (append_assoc before (s ∷ []) slots)
slots_complete _ _ _ _ _ _ h = absurd h

pub apart_sound : (ids others : List ℕ) → list_any (λ id. is_among id others) ids ≡ false → AreApart ids others
apart_sound [] _ e = tt
apart_sound (id ∷ ids) others e =
    let parts = or_parts (is_among id others) _ e in (among_new id others parts.0, apart_sound ids others parts.1)

pub apart_complete : (ids others : List ℕ) → AreApart ids others → list_any (λ id. is_among id others) ids ≡ false
apart_complete [] _ h = refl
apart_complete (id ∷ ids) others h = ap (λ b. b || list_any (λ id. is_among id others) ids) (new_among id others h.0)
    ∙ apart_complete ids others h.1

pub arguments_sound : {columns : List ℕ} (hidden : List ℕ) {keys : List ℕ} {f : FoldView} (span : Span) {slots : List ℕ}
    → arguments_of columns hidden keys f span ≡ Ok slots → HasArguments columns keys f slots
arguments_sound {columns} _ {f} _ e =
    let first = found_first _ _ _ e in
    let one = must_not_ok _ _ _ first.2 in
    let s = slots_sound _ _ _ _ _ first.1 in
    record { places = subst (λ z. HasSlots columns f.args z) (sym s.1 ∙ same_ok _ _ one.1) s.2; apart = apart_sound _ _ one.0 }

pub arguments_complete : {columns : List ℕ} (hidden : List ℕ) {keys : List ℕ} {f : FoldView} (span : Span) {slots : List ℕ}
    → HasArguments columns keys f slots
    → arguments_of columns hidden keys f span ≡ Ok slots
arguments_complete _ _ h = then_next _ (slots_complete _ _ _ _ _ _ h.places)
    ∙ must_not_holds _ _ (apart_complete _ _ h.apart)
