-- What parts give of the groupbys of each accepted text.
use Rattle.std.specs.Prelude.{◌≡◌, ℕ, false, List, map, flat_map, slice_get, All, Some, Ok}
use Rattle.epoch_model.specs.{Keys.{Key, ascending}, Epochs.Geometry, Tables.{Folding, key_rows, keys_used, group_rows}}
use Rattle.marple_base.specs.declared.field.Field.{Field}
use Rattle.query_lang.specs.declared.typed.{TypedQuery.TypedQuery, TypedStream.TypedStream}
use Rattle.stage_plan.specs.Uses.{uses}
use Rattle.stage_plan.specs.Packets.{AreWhole}
use Rattle.accepted_query.specs.Accepted.{accepted}
use Rattle.part_laws.specs.{Parts.{KeepsKeys, AreTheParts, part_uses, by_fields, groupbys, part_by, HasFieldKey}, PartLaws.but_for_epochs}
use Rattle.part_laws.specs.FinalParts.{AreOfParts}

-- this holds of each groupby of an accepted text, and of each partition by fields that are keys of the groupby and that no `map`
-- makes
abbrev pub OfAcceptedTexts : (TypedQuery → ℕ → List Field → (List ℕ → ℕ) → Type 0) → Type 0
OfAcceptedTexts P = (text : List ℕ) (q : TypedQuery) (i : ℕ) (fields : List Field) (choose : List ℕ → ℕ)
    → accepted text ≡ Ok q → All (HasFieldKey q i) fields → P q i fields choose

-- Each such partition keeps the groupby's keys.
abbrev pub AcceptedFieldsKeepKeys : Type 0
AcceptedFieldsKeepKeys = OfAcceptedTexts (λ q i fields choose. KeepsKeys (by_fields fields choose) q i)

-- So each key has a part, and where each key has one row, the table of the whole trace has, for each key of the parts' tables in
-- ascending order, the row of the key's part, whatever the caches of each part.
abbrev pub AcceptedTablesJoin : Type 0
AcceptedTablesJoin = OfAcceptedTexts (λ q i fields choose. (part_of : Key → ℕ) ×
    ((packets : List (List ℕ)) (parts : List ℕ) → AreWhole packets → AreTheParts (by_fields fields choose) packets parts
    → (f : Folding) (g : Geometry) (caches : ℕ → Geometry) → f.row_per_epoch ≡ false
    → map but_for_epochs (group_rows f g (uses q i packets))
    ≡ flat_map (λ key. let n = part_of key in
    map but_for_epochs (key_rows f (caches n) (part_uses (by_fields fields choose) q i packets n) key))
    (ascending (flat_map (λ n. keys_used (part_uses (by_fields fields choose) q i packets n)) parts))))

-- The table of the whole trace is then the rows of the parts' tables in the order of their keys, and the part of a key is that of its
-- words of the fields: two groupbys whose keys have the same names have the same part for each key.
abbrev pub AcceptedTablesInOrder : Type 0
AcceptedTablesInOrder = OfAcceptedTexts (λ q i fields choose. (one : TypedStream) → slice_get (groupbys q) i ≡ Some one
    → (packets : List (List ℕ)) (parts : List ℕ) → AreWhole packets → AreTheParts (by_fields fields choose) packets parts
    → (f : Folding) (g : Geometry) (caches : ℕ → Geometry) → f.row_per_epoch ≡ false
    → AreOfParts (part_by q.names one.columns fields choose) parts (map but_for_epochs (group_rows f g (uses q i packets)))
    (λ n. map but_for_epochs (group_rows f (caches n) (part_uses (by_fields fields choose) q i packets n))))
