-- The groupbys of the trial's query take from the packets themselves, and only words of fields that the query reads.
use Rattle.marple_laws.proofs.Words
use Words.{All-tail, AreWhole, Bool, Checked, FIELDS, Field, FieldSet, Geometry, GroupShape, List, None, Option, Some, Switch, Taking}
use Words.{TypedFold, TypedQuery, TypedStream, [], accepted, all_fields, and_parts, ap, ap₂, arith, by_test, false≢true, folding_of}
use Words.{group_table, group_tables, has_field, heading_of_shape, inl, inr, length, list_all, list_any, map, nat_tests, number_of, printed}
use Words.{query_groups, query_text, read_fields, reads_of, refl, slice_index, stream, subst, suc, sym, table_if, tables_from, taken_by}
use Words.{takings, trial_query, true, use_of, uses, values_at, with_finals, zero, zeroed, ℕ, ◌&&◌, ◌++◌, ◌==◌, ◌∙◌, ◌∷◌, ◌≡◌}
use Rattle.marple_laws.proofs.{Items.IsIn, Listed.in_set}
use Rattle.std.specs.Prelude.{Err, Ok, slice_get}
use Rattle.stage_plan.proofs.StreamRows.{Row, all_rows, row_at, row_made, rows_from, same_tuples, stream_rows, tuples}
use Rattle.accepted_query.proofs.TrialAccepted.{after_folds, trial_is}

-- ---- a query whose groupbys take from the packets, out of fields that it reads

abbrev is_slot_read : TypedQuery → ℕ → Bool
is_slot_read q slot = list_any (λ f. number_of f == slot) (read_fields q)

abbrev takes_packets : TypedQuery → Taking → Bool
takes_packets q t = (t.input == 0) && (list_all (is_slot_read q) t.keys && list_all (is_slot_read q) t.args)

abbrev pub is_plain : TypedQuery → Bool
is_plain q = list_all (takes_packets q) (takings q.streams)

-- ---- the trial's query is one, by computing the definitions

abbrev plain_in : Checked TypedQuery → Bool
plain_in (Ok q) = is_plain q
plain_in (Err fault) = true

plain : plain_in after_folds ≡ true
plain = refl

pub trial_is_plain : (q : TypedQuery) → accepted trial_query ≡ Ok q → is_plain q ≡ true
trial_is_plain q e = ap plain_in (sym e ∙ trial_is) ∙ plain

-- ---- the words of fields that are read stay

abbrev IsKeptAt : FieldSet → List ℕ → Field → Type 0
IsKeptAt reads words f = slice_index (zeroed reads all_fields words) (number_of f) ≡ slice_index words (number_of f)

word_kept : (reads : FieldSet) (words : List ℕ) → length words ≡ FIELDS → (f : Field) → has_field reads f ≡ true → IsKeptAt reads words f
word_kept reads (a ∷ b ∷ c ∷ d ∷ e ∷ g ∷ h ∷ i ∷ j ∷ k ∷ l ∷ m ∷ n ∷ o ∷ []) size f has = by f has
  where
    by : (f : Field) → has_field reads f ≡ true → IsKeptAt reads (a ∷ b ∷ c ∷ d ∷ e ∷ g ∷ h ∷ i ∷ j ∷ k ∷ l ∷ m ∷ n ∷ o ∷ []) f
    by Switch t = rw t
    by _ t = rw t
word_kept reads words size f has = absurd (omega arith)

found_field : (fields : List Field) {slot : ℕ} → list_any (λ f. number_of f == slot) fields ≡ true → (f : Field) × IsIn f fields
    × (number_of f ≡ slot)
found_field [] e = absurd (false≢true e)
found_field (f ∷ fields) {slot} e = by_test (number_of f == slot) (λ t. let same : number_of f ≡ slot =
    grind (arith, nat_tests) in (f, inl refl, same)) (λ t. let more = found_field fields (rw t at e) in (more.0, inr more.1, more.2))

module _ (q : TypedQuery) where
  abbrev kept : List ℕ → List ℕ
  kept words = zeroed (reads_of q) all_fields words

  slot_kept : (words : List ℕ) (slot : ℕ) → length words ≡ FIELDS → is_slot_read q slot ≡ true
      → slice_index (kept words) slot ≡ slice_index words slot
  slot_kept words slot size e =
      let f = found_field _ e in
      subst (λ k. slice_index (kept words) k ≡ slice_index words k) f.2
      (word_kept _ _ size _ (in_set _ _ f.1))

  values_kept : (words slots : List ℕ) → length words ≡ FIELDS → list_all (is_slot_read q) slots ≡ true
      → values_at (kept words) slots ≡ values_at words slots
  values_kept words [] size e = refl
  values_kept words (slot ∷ slots) size e =
      let both = and_parts (is_slot_read q slot) (list_all (is_slot_read q) slots) e in
      ap₂ (λ v vs. v ∷ vs) (slot_kept words slot size both.0) (values_kept words slots size both.1)

  -- ---- so what the groupbys take stays

  first_kept : (list : List TypedStream) (first : Row) (rows : List Row) → row_at (rows_from q.folds (first ∷ rows) list) 0 ≡ first
  first_kept [] first rows = refl
  first_kept (one ∷ list) first rows = first_kept list first (rows ++ row_made q.folds (first ∷ rows) one.op ∷ [])

  packets_stream : (packets : List (List ℕ)) → stream q 0 packets ≡ tuples (λ words. Some words) 1 packets
  packets_stream packets =
      stream_rows q 0 _
      ∙ same_tuples _ _ (λ words. first_kept q.streams (Some words) []) 1 _

  along : (t : Taking) → list_all (is_slot_read q) t.keys ≡ true → list_all (is_slot_read q) t.args ≡ true
      → (n : ℕ) (packets : List (List ℕ)) → AreWhole packets → map (use_of t) (tuples (λ words. Some words) n (map kept packets)) ≡ map
      (use_of t) (tuples (λ words. Some words) n packets)
  along t keys args n [] whole = refl
  along t keys args n (words ∷ packets) whole =
      let size : length words ≡ FIELDS = whole 0 words (omega arith) in
      ap₂ (λ u us. u ∷ us)
      (ap₂ (λ key row. record { packet = n; key = key; row = row }) (values_kept words t.keys size keys)
      (values_kept words t.args size args))
      (along t keys args (suc n) packets (All-tail (λ (ws : List ℕ). length ws ≡ FIELDS) words packets whole))

  taking_at : (list : List Taking) (i : ℕ) (t : Taking) → list_all (takes_packets q) list ≡ true → slice_get list i ≡ Some t
      → takes_packets q t ≡ true
  taking_at [] i t e found = cc
  taking_at (first ∷ list) zero t e found =
      let same : first ≡ t = cc in
      subst (λ one. takes_packets q one ≡ true) same (and_parts (takes_packets q first) (list_all (takes_packets q) list) e).0
  taking_at (first ∷ list) (suc i) t e found = taking_at list i t (and_parts (takes_packets q first) (list_all (takes_packets q) list) e).1
      found

  uses_kept : is_plain q ≡ true → (i : ℕ) (packets : List (List ℕ)) → AreWhole packets → uses q i (map kept packets) ≡ uses q i packets
  uses_kept all i packets whole = go _ refl
    where
      go : (o : Option Taking) → slice_get (takings q.streams) i ≡ o → taken_by q (map kept packets) o ≡ taken_by q packets o
      go None e = refl
      go (Some t) e =
          let takes = and_parts (t.input == 0) (list_all (is_slot_read q) t.keys && list_all (is_slot_read q) t.args)
          (taking_at _ i t all e) in
          let slots = and_parts (list_all (is_slot_read q) t.keys) (list_all (is_slot_read q) t.args) takes.1 in
          let first : (t.input == 0) ≡ true = takes.0 in
          let input : t.input ≡ 0 = grind arith in
          ap (λ n. map (use_of t) (stream q n (map kept packets))) input
          ∙ ap (map (use_of t)) (packets_stream _)
          ∙ along t slots.0 slots.1 1 packets whole
          ∙ ap (map (use_of t)) (sym (packets_stream _))
          ∙ ap (λ n. map (use_of t) (stream q n packets)) (sym input)

  -- ---- and what the query prints

  tables_same : (g : Geometry) (a b : List (List ℕ)) → ((i : ℕ) → uses q i a ≡ uses q i b) → (i : ℕ) (shapes : List GroupShape)
      → tables_from q g a i shapes ≡ tables_from q g b i shapes
  tables_same g a b same i [] = refl
  tables_same g a b same i (shape ∷ shapes) = ap₂ (λ x y. x ++ y) (go _) (tables_same g a b same (suc i) shapes)
    where
      go : (o : Option TypedFold) → table_if q g a i shape o ≡ table_if q g b i shape o
      go None = refl
      go (Some f) = ap (λ given. group_table (heading_of_shape shape) (folding_of f) g given ∷ []) (same i)

  text_same : (g : Geometry) (a b : List (List ℕ)) → ((i : ℕ) → uses q i a ≡ uses q i b) → query_text q g a ≡ query_text q g b
  unfolding query_text group_tables
  text_same g a b same = ap (λ tables. printed q (with_finals q.names q.folds tables q.finals)) (tables_same g a b same 0 (query_groups q))

  pub text_kept : is_plain q ≡ true → (g : Geometry) (packets : List (List ℕ)) → AreWhole packets
      → query_text q g (map (zeroed (reads_of q) all_fields) packets) ≡ query_text q g packets
  text_kept all g packets whole = text_same g _ _ (λ i. uses_kept all i _ whole)
