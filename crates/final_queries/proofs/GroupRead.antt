-- The table of a groupby may be read by finals: of each key at most one row is read.
use Rattle.std.proofs.Common.{◌≡◌, ℕ, suc, ◌-◌, ◌==◌, false, List, [], ◌∷◌, ◌++◌, ◌⊎◌, inl, inr, length, map, refl, ap, ◌∙◌, arith}
use Rattle.std.proofs.{Common.length-append, lemmas.{Bool.Decides.nat_tests, List.map-append}}
use Rattle.std.proofs.lemmas.List.Elements.{All-nil, All-cons, All-head, All-tail, All-append, All-map, filter-append}
use Rattle.std.specs.List.{All, filter, flat_map}
use Rattle.epoch_model.specs.{declared.tables.Row.Row, Keys.{Key, ArgRow, AreAbove, IsAscending}, Epochs.{Use, Geometry, is_use_of, epochs}}
use Rattle.epoch_model.specs.{Tables.{Folding, folded, mark_of, epoch_rows, key_rows, keys_used, group_rows}, TableLaws.KeysAscend}
use Rattle.epoch_model.proofs.KeyLists.{by_test}
use Rattle.final_queries.{specs.{Finals.{is_read, HasColumns}, FinalLaws.GroupTablesAreRead, Joining.reads}, proofs.KeyLists.all_ascending}

abbrev key_of : Row → Key
key_of row = row.key

abbrev keys_read : List Row → List Key
keys_read rows = map key_of (reads rows)

-- no row is read, or one of this key
abbrev pub HasOneAtMost : Key → List Row → Type 0
HasOneAtMost key rows = (keys_read rows ≡ []) ⊎ (keys_read rows ≡ key ∷ [])

none_read : (f : Folding) (key : Key) (count number : ℕ) (lists : List (List ArgRow)) → is_read (mark_of count) ≡ false
    → keys_read (epoch_rows f key count number lists) ≡ []
none_read f key count number [] e = refl
none_read f key count number (rows ∷ lists) e = rw e (none_read f key count (suc number) lists e)

several : (n : ℕ) → is_read (mark_of (suc (suc n))) ≡ false
several n =
    let e : (suc (suc n) == 1) ≡ false = grind (arith, nat_tests) in
    rw e refl

pub epochs_read : (f : Folding) (key : Key) (lists : List (List ArgRow)) → HasOneAtMost key (epoch_rows f key (length lists) 1 lists)
epochs_read f key [] = inl refl
epochs_read f key (rows ∷ []) = inr refl
epochs_read f key (rows ∷ more ∷ lists) = inl (none_read f key (suc (suc (length lists))) 1 (rows ∷ more ∷ lists) (several (length lists)))

key_read : (f : Folding) (g : Geometry) (uses : List Use) (key : Key) → HasOneAtMost key (key_rows f g uses key)
key_read f g uses key = by_test f.row_per_epoch
    (λ t. rw t (epochs_read f key (epochs g uses key)))
    (λ t. rw t (inr refl))

-- the rows of ascending keys that are read are in order
module _ (h : Key → List Row) (one : (key : Key) → HasOneAtMost key (h key)) where
  joined : (key : Key) (rest : List Row) → keys_read (h key ++ rest) ≡ keys_read (h key) ++ keys_read rest
  joined key rest = ap (map key_of) (filter-append (λ row. is_read row.mark) (h key) rest) ∙ map-append key_of (reads (h key)) (reads rest)

  all_above : (low : Key) (keys : List Key) → AreAbove low keys → AreAbove low (keys_read (flat_map h keys))
  all_above low [] above = tt
  all_above low (key ∷ keys) above =
      let more = all_above low keys above.1 in
      rw (joined key (flat_map h keys)) (elim (one key) [
        | inl e ↦ rw e more
        | inr e ↦ rw e (above.0, more)
      ])

  pub all_in_order : (keys : List Key) → IsAscending keys → IsAscending (keys_read (flat_map h keys))
  all_in_order [] order = tt
  all_in_order (key ∷ keys) order =
      let more = all_in_order keys order.1 in
      rw (joined key (flat_map h keys)) (elim (one key) [
        | inl e ↦ rw e more
        | inr e ↦ rw e (all_above key keys order.0, more)
      ])

-- the rows of keys with this many words have as many key words, and as many values as states have

all_flat : (P : Row → Type 0) (h : Key → List Row) (keys : List Key) → All (λ key. All P (h key)) keys → All P (flat_map h keys)
all_flat P h [] all = All-nil P
all_flat P h (key ∷ keys) all = All-append P (h key) (flat_map h keys) (All-head (λ k. All P (h k)) key keys all)
    (all_flat P h keys (All-tail (λ k. All P (h k)) key keys all))

module _ (words states : ℕ) (f : Folding) (long : (rows : List ArgRow) → length (folded f rows) ≡ states) where
  pub epochs_have : (key : Key) (count number : ℕ) (lists : List (List ArgRow)) → length key ≡ words
      → All (HasColumns words states) (epoch_rows f key count number lists)
  epochs_have key count number [] e = All-nil (HasColumns words states)
  epochs_have key count number (rows ∷ lists) e =
      All-cons (HasColumns words states) _ _ (record { key = e; values = long rows }) (epochs_have key count (suc number) lists e)

  key_has : (g : Geometry) (uses : List Use) (key : Key) → length key ≡ words → All (HasColumns words states) (key_rows f g uses key)
  key_has g uses key e =
      let pieces = epochs g uses key in
      let given = map (λ u. u.row) (filter (is_use_of key) uses) in
      by_test f.row_per_epoch
      (λ t. rw t (epochs_have key (length pieces) 1 pieces e))
      (λ t. rw t (All-cons (HasColumns words states) _ [] (record { key = e; values = long given }) (All-nil (HasColumns words states))))

  rows_have : (g : Geometry) (uses : List Use) → All (λ u. length u.key ≡ words) uses
      → All (HasColumns words states) (group_rows f g uses)
  rows_have g uses all =
      let keys = all_ascending (λ key. length key ≡ words) (map (λ u. u.key) uses)
      (All-map (λ key. length key ≡ words) (λ u. u.key) uses all) in
      all_flat (HasColumns words states) (key_rows f g uses) (keys_used uses) (λ k d within. key_has g uses _ (keys k d within))

pub group_read : KeysAscend → GroupTablesAreRead
group_read ascend heading f g uses keys states =
    let names = heading.key_names in
    let wide = length-append names heading.state_names in
    let others : length (names ++ heading.state_names) - length names ≡ length heading.state_names = omega arith in
    record {
      keys = omega arith;
      rows = rw others (rows_have (length names) (length heading.state_names) f states g uses keys);
      order = all_in_order (key_rows f g uses) (key_read f g uses) (keys_used uses) (ascend (map (λ u. u.key) uses)).0;
    }
