-- What a fault at the name of an item, at a new column, at a key and at a fold's arguments says.
use Rattle.std.proofs.Common.{◌≡◌, ℕ, suc, ◌≤◌, true, false, ◌||◌, List, [], ◌∷◌, ◌++◌, length, map, Option, Some, None, Ok, Err, refl, sym}
use Rattle.std.proofs.Common.{ap, subst, ◌∙◌, append_assoc, inl, inr, arith}
use Rattle.std.specs.{Prelude.{is_some, nat_lt}, List.list_any}
use Rattle.query_lang.specs.declared.typing.Meaning.TheVariants as meaning
use Rattle.query_laws.proofs.Terms.{UnknownName, WrongKind, QueryFault, Span, Name, Column, FoldView, StreamView, TableView, Known, Meaning}
use Rattle.query_laws.proofs.Terms.{NewColumns, Picked, and_then, must_not, collected, is_among, slot_of, word_of, meaning_of, as_stream}
use Rattle.query_laws.proofs.Terms.{stream_named, as_fold, fold_named, new_columns, keys_from, arguments_of, table_at, as_table}
use Rattle.query_laws.proofs.Terms.{table_named, quiet_fold, MAX_KEYS, NameStandsFor, IsFree, IsNew, new_names}
use Rattle.query_laws.proofs.{ExprFaults.{not_new, slot_told, word_told}, FaultSteps.{at_span, same_fault, no_fault, not_both, by_must}}
use Rattle.query_laws.proofs.FaultSteps.{by_must_not, by_next, told, Broken, by_collected, broken, broken_at, broken_in}
use Rattle.query_laws.proofs.NameLaws.{meaning_complete, free_sound, free_complete, taken_is, slot_for, apart_complete}
use Rattle.query_laws.specs.Asked.{ColumnsAsk, of_name, of_value, KeysAsk, of_key, of_new, of_limit, ArgumentsAsk, of_argument, of_states}
use Rattle.query_laws.specs.{Asked.ids_of, Demands.{AStream, ATable, AFold, AQuietFold, Sought, IsSought, Stands, Tells}}

-- ---- names of items

abbrev StandsTold : List Known → Sought → Name → QueryFault → Type 0
StandsTold known sought x fault = Tells known fault.kind fault.span (Stands sought x)

unknown_told : (known : List Known) (sought : Sought) (x : Name) (fault : QueryFault) → meaning_of known x.id ≡ None
    → at_span UnknownName x.span ≡ fault → StandsTold known sought x fault
unknown_told _ _ x _ is e = told _ _ e (refl, free_sound _ _ (ap is_some is))

pub not_free : (known : List Known) (id : ℕ) {m : Meaning} → meaning_of known id ≡ Some m → IsFree known id → ⊥
not_free _ _ is free = not_both _ (free_complete _ _ free) (ap is_some is)

other_told : (known : List Known) (sought : Sought) (x : Name) (fault : QueryFault) (m : Meaning) → meaning_of known x.id ≡ Some m
    → (IsSought known sought x.id → ⊥) → at_span WrongKind x.span ≡ fault → StandsTold known sought x fault
other_told _ _ x _ m is none e = told _ _ e (refl, not_free _ _ is, none)

pub one_meaning : (known : List Known) (id : ℕ) {m n : Meaning} → meaning_of known id ≡ Some m → meaning_of known id ≡ Some n → m ≡ n
one_meaning _ _ {m} {n} p q = let both : (let o : Option Meaning = Some m in o) ≡ Some n = sym p ∙ q in cc both

-- a name that has another meaning than this form
no_form : {X : Type 0} (form : X → Meaning) (known : List Known) (id : ℕ) {m : Meaning} → meaning_of known id ≡ Some m
    → ((x : X) → m ≡ form x → ⊥) → (x : X) × NameStandsFor known id (form x) → ⊥
no_form _ known id is none h = none h.0 (one_meaning known id is (meaning_complete known id h.1))

pub stream_told : (known : List Known) (x : Name) {fault : QueryFault} → stream_named known x ≡ Err fault → StandsTold known AStream x fault
stream_told known x {fault} e = go (meaning_of known x.id) refl e
  where
    go : (o : Option Meaning) → meaning_of known x.id ≡ o → as_stream o x.span ≡ Err fault → StandsTold known AStream x fault
    go None is e = unknown_told _ _ x _ is (same_fault e)
    go (Some (meaning.Stream s)) _ e = no_fault e
    go (Some m) is e = other_told _ _ x _ m is (no_form meaning.Stream _ _ is (λ s k. cc k)) (same_fault e)

pub fold_told : (known : List Known) (x : Name) {fault : QueryFault} → fold_named known x ≡ Err fault → StandsTold known AFold x fault
fold_told known x {fault} e = go (meaning_of known x.id) refl e
  where
    go : (o : Option Meaning) → meaning_of known x.id ≡ o → as_fold o x.span ≡ Err fault → StandsTold known AFold x fault
    go None is e = unknown_told _ _ x _ is (same_fault e)
    go (Some (meaning.Fold f)) _ e = no_fault e
    go (Some m) is e = other_told _ _ x _ m is (no_form meaning.Fold _ _ is (λ f k. cc k)) (same_fault e)

no_table : (known : List Known) (id : ℕ) (m : Meaning) → meaning_of known id ≡ Some m → ((t : TableView) → m ≡ meaning.Final t → ⊥)
    → ((s : StreamView) (t : TableView) → m ≡ meaning.Stream s → s.table ≡ Some t → ⊥) → IsSought known ATable id → ⊥
no_table known id m is final _ (t, inl h) = final t (one_meaning known id is (meaning_complete known id h))
no_table known id m is _ group (t, inr h) = group h.0 t (one_meaning known id is (meaning_complete known id h.1)) h.2

same_stream : (s r : StreamView) → meaning.Stream s ≡ meaning.Stream r → s ≡ r
same_stream s r e = cc e

pub table_told : (known : List Known) (x : Name) {fault : QueryFault} → table_named known x ≡ Err fault → StandsTold known ATable x fault
table_told known x {fault} e = go (meaning_of known x.id) refl e
  where
    at_stream : (s : StreamView) → meaning_of known x.id ≡ Some (meaning.Stream s) → (o : Option TableView) → s.table ≡ o
        → table_at o x.span ≡ Err fault → StandsTold known ATable x fault
    at_stream s is None none e = other_told _ _ x _ _ is (no_table _ _ _ is (λ t k. cc k)
        (λ r t k there.
        let both : (let o : Option TableView = None in o) ≡ Some t = sym none
        ∙ ap (λ (z : StreamView). z.table) (same_stream s r k) ∙ there in cc both)) (same_fault {g = fault} e)
    at_stream s _ (Some t) _ e = no_fault e

    go : (o : Option Meaning) → meaning_of known x.id ≡ o → as_table o x.span ≡ Err fault → StandsTold known ATable x fault
    go None is e = unknown_told _ _ x _ is (same_fault {g = fault} e)
    go (Some (meaning.Fold f)) is e =
        other_told _ _ x _ _ is (no_table _ _ _ is (λ t k. cc k) (λ s t k there. cc k)) (same_fault {g = fault} e)
    go (Some (meaning.Stream s)) is e = at_stream s is s.table refl e
    go (Some (meaning.Final t)) _ e = no_fault e

pub quiet_told : (known : List Known) (x : Name) {fault : QueryFault} → quiet_fold known x ≡ Err fault → StandsTold known AQuietFold x fault
quiet_told known x {fault} e = go (meaning_of known x.id) refl e
  where
    none : (m : Meaning) → meaning_of known x.id ≡ Some m → ((f : FoldView) → m ≡ meaning.Fold f → ⊥) → IsSought known AQuietFold x.id → ⊥
    none m is fold h = no_form meaning.Fold known x.id is fold (h.0, h.1)

    loud : (f : FoldView) → meaning_of known x.id ≡ Some (meaning.Fold f) → f.emits ≡ true → IsSought known AQuietFold x.id → ⊥
    loud f is emits h =
        let same : meaning.Fold f ≡ meaning.Fold h.0 = one_meaning known x.id is (meaning_complete known x.id h.1) in
        let one : f ≡ h.0 = cc same in
        not_both f.emits (ap (λ (z : FoldView). z.emits) one ∙ h.2) emits

    go : (o : Option Meaning) → meaning_of known x.id ≡ o → and_then (as_fold o x.span) (λ f. must_not f.emits WrongKind x.span (Ok f))
        ≡ Err fault → StandsTold known AQuietFold x fault
    go None is e = unknown_told _ _ x _ is (same_fault e)
    go (Some (meaning.Fold f)) is e = by_must_not f.emits e (λ emits same. other_told _ _ x _ _ is (loud f is emits) same)
        (λ no e. no_fault e)
    go (Some m) is e = other_told _ _ x _ m is (none m is (λ f k. cc k)) (same_fault e)

-- ---- new columns

new_names_last : (front : List Column) (column : Column) → new_names (front ++ column ∷ []) ≡ new_names front ++ column.name.id ∷ []
new_names_last [] _ = refl
new_names_last (c ∷ front) column = ap (λ z. c.name.id ∷ z) (new_names_last front column)

pub columns_told : {columns hidden : List ℕ} {all : List Column} (front new : List Column) (made : NewColumns) {known : List Known}
    {fault : QueryFault}
    → all ≡ front ++ new → made.names ≡ new_names front → new_columns columns hidden made new ≡ Err fault
    → Broken (ColumnsAsk columns hidden all) known fault
columns_told _ [] _ _ _ e = no_fault e
columns_told {columns} {hidden} front (c ∷ new) made split same e =
    by_must_not (is_among c.name.id columns || (is_among c.name.id hidden || is_among c.name.id made.names)) e
    (λ among at. broken_at _ (of_name front c new split) at (
      refl,
      λ fresh. not_new c.name.id (columns ++ (hidden ++ made.names)) (taken_is c.name.id columns hidden made.names ∙ among)
          (subst (λ z. IsNew c.name.id (columns ++ (hidden ++ z))) (sym same) fresh),
    )) (λ none e. by_next (word_of columns hidden c.value) e (λ is.
    broken_in (λ d asked. of_value front c new split asked) (word_told _ _ _ is)) (λ value is e.
    columns_told (front ++ c ∷ []) new (record {
      names = made.names ++ c.name.id ∷ [];
      values = made.values ++ value ∷ [];
    }) (split ∙ sym (append_assoc front (c ∷ []) new)) (ap (λ z. z ++ c.name.id ∷ []) same ∙ sym (new_names_last front c)) e))

-- ---- keys

pub at_least : {k l n : ℕ} → k ≡ l → nat_lt k n ≡ false → n ≤ l
at_least same e = grind (arith, same)

pub ids_last : (front : List Name) (x : Name) → ids_of (front ++ x ∷ []) ≡ ids_of front ++ x.id ∷ []
ids_last [] x = refl
ids_last (y ∷ front) x = ap (λ z. y.id ∷ z) (ids_last front x)

pub ids_long : (front : List Name) → length (ids_of front) ≡ length front
ids_long [] = refl
ids_long (x ∷ front) = ap suc (ids_long front)

pub keys_told : {columns hidden : List ℕ} {all : List Name} (front keys : List Name) (found : Picked) {known : List Known}
    {fault : QueryFault}
    → all ≡ front ++ keys → found.names ≡ ids_of front → keys_from columns hidden found keys ≡ Err fault
    → Broken (KeysAsk columns hidden all) known fault
keys_told _ [] _ _ _ e = no_fault e
keys_told {columns} {hidden} front (key ∷ keys) found split same e = by_next (slot_of columns hidden key) e
    (λ is. broken _ (of_key front key keys split) (slot_told _ _ key is _)) (λ slot is e.
    by_must_not (is_among key.id found.names) e (λ among at. broken_at _ (of_new front key keys split) at
    (refl, λ fresh. not_new key.id found.names among (subst (λ z. IsNew key.id z) (sym same) fresh))) (λ none e.
    by_must (nat_lt (length found.names) MAX_KEYS) _ e (λ full at.
    let long : length found.names ≡ length front = ap length same ∙ ids_long front in
    broken_at _ (of_limit front key keys split) at (refl, refl, at_least long full))
    (λ few e. keys_told (front ++ key ∷ []) keys (record { names = found.names ++ key.id ∷ []; slots = found.slots ++ slot ∷ [] })
    (split ∙ sym (append_assoc front (key ∷ []) keys)) (ap (λ z. z ++ key.id ∷ []) same ∙ sym (ids_last front key)) e)))

-- ---- arguments

argument_told : {columns hidden keys : List ℕ} {f : FoldView} {span : Span} (front ids before : List ℕ) {known : List Known}
    {fault : QueryFault} → f.args ≡ front ++ ids → collected before (map (slot_for columns hidden span) ids) ≡ Err fault
    → Broken (ArgumentsAsk columns hidden keys f span) known fault
argument_told _ [] _ _ e = no_fault e
argument_told {columns} {hidden} {span = span} front (id ∷ ids) before {known} split e =
    by_collected before (slot_for columns hidden span id) _ e
    (λ is. broken _ (of_argument front id ids split) (slot_told columns hidden (record { id = id; span = span }) is known))
    (λ x _ e. argument_told (front ++ id ∷ []) ids (before ++ x ∷ []) (split ∙ sym (append_assoc front (id ∷ []) ids)) e)

pub arguments_told : {columns hidden keys : List ℕ} {f : FoldView} {span : Span} {known : List Known} {fault : QueryFault}
    → arguments_of columns hidden keys f span ≡ Err fault → Broken (ArgumentsAsk columns hidden keys f span) known fault
arguments_told {columns} {hidden} {keys} {f} {span} e = by_next (collected [] (map (slot_for columns hidden span) f.args)) e
    (λ is. argument_told [] f.args [] refl is) (λ slots is e.
    by_must_not (list_any (λ state. is_among state keys) f.states) e (λ among at. broken_at _ of_states at
    (refl, λ apart. not_both _ (apart_complete _ _ apart) among)) (λ none e. no_fault e))
