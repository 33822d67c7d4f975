-- The tables of the groupbys of a split text, over the whole and over its parts.
use Rattle.std.proofs.Common.{Bool, cond, ◌≡◌, ℕ, ◌+◌, ◌<◌, false, true, List, [], ◌∷◌, Option, Some, None, length, map, filter, flat_map}
use Rattle.std.proofs.{Common.{Ok, refl, sym, ap, ◌∙◌, subst, arith}, lemmas.List.{length-map, Elements.{All-nil, All-cons, All-append}}}
use Rattle.std.{proofs.lemmas.Option.{same_Some, slice_get-map}, specs.{Prelude.{All, slice_get, option_map}, List.range_with_len}}
use mathlib.Core.Path.{fun_ext}
use Rattle.epoch_entry.specs.Foldings.{folding_of, per_epoch}
use Rattle.epoch_model.specs.{Epochs.{Geometry, Use, epochs, is_use_of}, Keys.{Key, bucket_of}}
use Rattle.epoch_model.specs.Tables.{Folding, exact_row, group_rows, key_rows, keys_used}
use Rattle.accepted_query.specs.Accepted.{accepted}
use Rattle.final_queries.specs.declared.table.Table.{Table}
use Rattle.fold_class.specs.Kinds.{class_of}
use Rattle.marple_base.specs.declared.field.{Field.Field, Packet.Packet}
use Rattle.query_lang.specs.declared.{fold.TypedFold.TypedFold, typed.{Class.{Class, TheVariants.{Linear, Other}}, TypedQuery.TypedQuery}}
use Rattle.query_lang.specs.TypedQueries.{IsValidQuery}
use Rattle.query_tables.specs.Tables.{group_tables, query_table, tables_from}
use Rattle.stage_plan.specs.Uses.{uses}
use Rattle.stage_plan.specs.{Packets.AreWhole, Planned.fold_at, Shape.{GroupShape, query_groups}}
use Rattle.part_laws.specs.{AcceptedParts.AcceptedTablesInOrder, FinalParts.AreOfParts, PartLaws.but_for_epochs}
use Rattle.part_laws.specs.Parts.{HasFieldKey, part_at, part_by}
use Rattle.part_texts.specs.Texts.{packets_of_part, part_by_hash}
use Rattle.net_laws.specs.Fields.{makes_field}
use Rattle.split_laws.{specs.Merging.{Merge, NotMerged, by_class, group_merge, has_keys}, proofs.FinalWalk.{InParts, IsMerged, Stands}}
use Rattle.split_laws.proofs.Groupbys.{IsGroupby, field_keys, groupby_at, part_named, same_part, table_at, tables_long}
use Rattle.split_laws.proofs.{PartNumbers.{are_apart, are_the_parts, words_at_part}, PlainRows.IsRead}
use Rattle.trace_drive.specs.Drives.{words_of}

-- where each key has one row, finals read all rows
rows_read : (f : Folding) (g : Geometry) (us : List Use) (keys : List Key) → f.row_per_epoch ≡ false
    → All IsRead (flat_map (key_rows f g us) keys)
rows_read f g us [] one = All-nil IsRead
rows_read f g us (key ∷ keys) one =
    All-append IsRead (key_rows f g us key) (flat_map (key_rows f g us) keys) here (rows_read f g us keys one)
  where
    here : All IsRead (key_rows f g us key)
    here = rw one (All-cons IsRead (exact_row f key (length (epochs g us key)) (map (λ u. u.row) (filter (is_use_of key) us))) [] refl
        (All-nil IsRead))

module _ (in_order : AcceptedTablesInOrder) (text : List ℕ) (q : TypedQuery) (fields : List Field) (salt parts : ℕ)
    (sent : List Packet) (is_accepted : accepted text ≡ Ok q)
    (unmade : All (λ field. makes_field field q.names q.streams ≡ false) fields) (some : 0 < parts)
    (whole : AreWhole (words_of sent)) (valid : IsValidQuery q) where
  abbrev pub choose : List ℕ → ℕ
  choose words = bucket_of parts (salt ∷ words)

  -- the words of a part's packets
  abbrev pub part_words : ℕ → List (List ℕ)
  part_words n = words_of (packets_of_part (part_by_hash fields salt parts) n sent)

  module _ (g : Geometry) (caches : ℕ → Geometry) where
    have : (k : ℕ) (shape : GroupShape) → slice_get (query_groups q) k ≡ Some shape → (f : TypedFold) × (fold_at q (0 + k) ≡ Some f)
    have k shape e =
        let is = groupby_at q valid k shape e in
        let same : 0 + k ≡ k = omega arith in
        (is.f, ap (fold_at q) same ∙ is.fold)

    one_table : (k : ℕ) (shape : GroupShape) (is : IsGroupby q k shape) → has_keys fields shape.key_names ≡ true
        → per_epoch (class_of is.f) ≡ false
        → InParts (part_named fields choose) (range_with_len 0 parts) (are_apart 0 parts) shape.key_names
        (Some (query_table q g (words_of sent) k shape is.f)) (λ n. Some (query_table q (caches n) (part_words n) k shape is.f))
    one_table k shape is named exact =
        let f : Folding = folding_of is.f in
        let keys : All (HasFieldKey q k) fields = field_keys q k shape is fields named unmade in
        let found = in_order text q k fields choose is_accepted keys is.one is.at (words_of sent) (range_with_len 0 parts) whole
        (are_the_parts fields salt parts some (words_of sent)) f g caches exact in
        let same : (λ n. map but_for_epochs (group_rows f (caches n)
        (uses q k (part_at (part_by_hash fields salt parts) n (words_of sent))))) ≡
        (λ n. map but_for_epochs (group_rows f (caches n) (uses q k (part_words n)))) =
        fun_ext (λ n. ap (λ words. map but_for_epochs (group_rows f (caches n) (uses q k words)))
        (words_at_part fields salt parts some n sent)) in
        let names : part_by q.names is.one.columns fields choose ≡ part_named fields choose shape.key_names =
        same_part q.names is.one.columns fields choose ∙ ap (λ (s : GroupShape). part_named fields choose s.key_names) (sym is.is) in
        record {
          are = subst (λ part_of. AreOfParts part_of (range_with_len 0 parts)
              (map but_for_epochs (group_rows f g (uses q k (words_of sent))))
              (λ n. map but_for_epochs (group_rows f (caches n) (uses q k (part_words n))))) names
              (subst (AreOfParts (part_by q.names is.one.columns fields choose) (range_with_len 0 parts)
              (map but_for_epochs (group_rows f g (uses q k (words_of sent))))) same found);
          read = rows_read f g (uses q k (words_of sent)) (keys_used (uses q k (words_of sent))) exact;
          each = λ n. rows_read f (caches n) (uses q k (part_words n)) (keys_used (uses q k (part_words n))) exact;
        }

    by_kind : (k : ℕ) (shape : GroupShape) (is : IsGroupby q k shape) → has_keys fields shape.key_names ≡ true → (class : Class)
        → class_of is.f ≡ class
        → IsMerged (part_named fields choose) (range_with_len 0 parts) (are_apart 0 parts) (by_class class shape.key_names)
        (Some (query_table q g (words_of sent) k shape is.f)) (λ n. Some (query_table q (caches n) (part_words n) k shape is.f))
    by_kind k shape is named Other e = tt
    by_kind k shape is named Linear e = one_table k shape is named (ap per_epoch e)

    by_keys : (k : ℕ) (shape : GroupShape) (is : IsGroupby q k shape) (b : Bool) → has_keys fields shape.key_names ≡ b
        → class_of is.f ≡ shape.class
        → IsMerged (part_named fields choose) (range_with_len 0 parts) (are_apart 0 parts)
        (cond b (by_class shape.class shape.key_names) NotMerged) (Some (query_table q g (words_of sent) k shape is.f))
        (λ n. Some (query_table q (caches n) (part_words n) k shape is.f))
    by_keys k shape is false e class = tt
    by_keys k shape is true e class = by_kind k shape is e shape.class class

    one_merged : (k : ℕ) (shape : GroupShape) → slice_get (query_groups q) k ≡ Some shape
        → IsMerged (part_named fields choose) (range_with_len 0 parts) (are_apart 0 parts) (group_merge fields shape)
        (slice_get (tables_from q g (words_of sent) 0 (query_groups q)) k)
        (λ n. slice_get (tables_from q (caches n) (part_words n) 0 (query_groups q)) k)
    one_merged k shape e =
        let is = groupby_at q valid k shape e in
        let class : class_of is.f ≡ shape.class = ap (λ (s : GroupShape). s.class) (sym is.is) in
        let M : Option Table → (ℕ → Option Table) → Type 0 =
        IsMerged (part_named fields choose) (range_with_len 0 parts) (are_apart 0 parts) (group_merge fields shape) in
        let here : Some (query_table q g (words_of sent) k shape is.f) ≡ slice_get (tables_from q g (words_of sent) 0 (query_groups q)) k =
        sym (at g (words_of sent) is) in
        let there : (λ n. Some (query_table q (caches n) (part_words n) k shape is.f)) ≡
        (λ n. slice_get (tables_from q (caches n) (part_words n) 0 (query_groups q)) k) =
        fun_ext (λ n. sym (at (caches n) (part_words n) is)) in
        subst (λ ts. M (slice_get (tables_from q g (words_of sent) 0 (query_groups q)) k) ts) there
        (subst (λ w. M w (λ n. Some (query_table q (caches n) (part_words n) k shape is.f))) here
        (by_keys k shape is (has_keys fields shape.key_names) refl
        class))
      where
        at : (h : Geometry) (words : List (List ℕ)) (is : IsGroupby q k shape)
            → slice_get (tables_from q h words 0 (query_groups q)) k ≡ Some (query_table q h words k shape is.f)
        at h words is =
            let same : 0 + k ≡ k = omega arith in
            table_at q h words 0 (query_groups q) have k shape is.f e (ap (fold_at q) same ∙ is.fold)
            ∙ ap (λ n. Some (query_table q h words n shape is.f)) same

    by_shape : (k : ℕ) (how : Merge) (o : Option GroupShape) → slice_get (query_groups q) k ≡ o
        → option_map (group_merge fields) o ≡ Some how
        → IsMerged (part_named fields choose) (range_with_len 0 parts) (are_apart 0 parts) how
        (slice_get (tables_from q g (words_of sent) 0 (query_groups q)) k)
        (λ n. slice_get (tables_from q (caches n) (part_words n) 0 (query_groups q)) k)
    by_shape k how None at e = absurd (cc e)
    by_shape k how (Some shape) at e =
        subst (λ h. IsMerged (part_named fields choose) (range_with_len 0 parts) (are_apart 0 parts) h
        (slice_get (tables_from q g (words_of sent) 0 (query_groups q)) k)
        (λ n. slice_get (tables_from q (caches n) (part_words n) 0 (query_groups q)) k)) (same_Some (group_merge fields shape) how e)
        (one_merged k shape at)

    pub groups_stand : (names : List (List ℕ)) (folds : List TypedFold)
        → Stands (part_named fields choose) (range_with_len 0 parts) (are_apart 0 parts) names folds
        (map (group_merge fields) (query_groups q))
        (group_tables q g (words_of sent)) (λ n. group_tables q (caches n) (part_words n))
    unfolding group_tables
    groups_stand names folds =
        let many = length-map (query_groups q) (group_merge fields) in
        record {
          long = tables_long q g (words_of sent) 0 (query_groups q) have ∙ sym many;
          longs = λ n. tables_long q (caches n) (part_words n) 0 (query_groups q) have ∙ sym many;
          each = λ k how e. by_shape k how (slice_get (query_groups q) k) refl
              (sym (slice_get-map (group_merge fields) (query_groups q) k) ∙ e);
        }
