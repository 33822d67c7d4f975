-- Foldings that give the same states make the same tables.
use Rattle.std.{proofs.Common.{◌≡◌, ℕ, suc, List, [], ◌∷◌, length, map, refl}, specs.{List.{filter, flat_map}, Prelude.if◌then◌else◌}}
use Rattle.epoch_model.specs.{declared.tables.Row.Row, Keys.{Key, ArgRow}, Epochs.{Use, Geometry, is_use_of, epochs}}
use Rattle.epoch_model.specs.{Machine.{Epoch, lists_of}, Tables.{Folding, exact_row, epoch_rows, key_rows, keys_used, group_rows}}
use Rattle.epoch_model.specs.Tables.{closed_key_rows, closed_keys, closed_rows}
use Rattle.final_queries.specs.FinalLaws.{AreAlike, AlikeFoldingsMakeOneTable}

same_flat : (h k : Key → List Row) (keys : List Key) → ((key : Key) → h key ≡ k key) → flat_map h keys ≡ flat_map k keys
same_flat h k [] e = refl
same_flat h k (key ∷ keys) e = rw (e key, same_flat h k keys e) refl

same_epochs : (f g : Folding) (key : Key) (count number : ℕ) (lists : List (List ArgRow)) → AreAlike f g
    → epoch_rows f key count number lists ≡ epoch_rows g key count number lists
same_epochs f g key count number [] alike = refl
same_epochs f g key count number (rows ∷ lists) alike =
    rw (alike.states rows, same_epochs f g key count (suc number) lists alike) refl

-- the rows of a key with these pieces and these argument rows
same_rows : (f g : Folding) (key : Key) (pieces : List (List ArgRow)) (given : List ArgRow) → AreAlike f g
    → (if f.row_per_epoch then epoch_rows f key (length pieces) 1 pieces else (exact_row f key (length pieces) given ∷ []))
    ≡ (if g.row_per_epoch then epoch_rows g key (length pieces) 1 pieces else (exact_row g key (length pieces) given ∷ []))
same_rows f g key pieces given alike =
    rw (alike.row_per_epoch, same_epochs f g key (length pieces) 1 pieces alike, alike.states given) refl

same_group : (f g : Folding) (geometry : Geometry) (uses : List Use) → AreAlike f g
    → group_rows f geometry uses ≡ group_rows g geometry uses
same_group f g geometry uses alike = same_flat (key_rows f geometry uses) (key_rows g geometry uses) (keys_used uses)
    (λ key. same_rows f g key (epochs geometry uses key) (map (λ u. u.row) (filter (is_use_of key) uses)) alike)

same_closed : (f g : Folding) (closed : List Epoch) → AreAlike f g → closed_rows f closed ≡ closed_rows g closed
same_closed f g closed alike = same_flat (closed_key_rows f closed) (closed_key_rows g closed) (closed_keys closed)
    (λ key. same_rows f g key (lists_of key closed) (flat_map (λ rows. rows) (lists_of key closed)) alike)

pub alike_tables : AlikeFoldingsMakeOneTable
alike_tables = record {
  by_uses = λ heading f g geometry uses alike. rw (same_group f g geometry uses alike) refl;
  by_closed = λ heading f g closed alike. rw (same_closed f g closed alike) refl;
}
