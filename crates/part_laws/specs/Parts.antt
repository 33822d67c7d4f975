-- The packets of a trace, split into parts by a function of each packet's words, and what it means that parts keep a key whole.
use Rattle.std.specs.Prelude.{◌≡◌, ℕ, ◌==◌, true, false, is_some, List, [], ◌∷◌, length, map, filter, All, suc, if◌then◌else◌, Some}
use Rattle.std.specs.Prelude.{slice_get, slice_index}
use Rattle.marple_base.specs.declared.field.{Field.Field, TheConstants.FIELDS}
use Rattle.query_lang.specs.{declared.typed.{TypedQuery.TypedQuery, TypedStream.TypedStream}, Streams.taking_of}
use Rattle.epoch_model.specs.{Keys.{Key, ArgRow}, Epochs.Use}
use Rattle.stage_plan.specs.Uses.{uses}
use Rattle.net_laws.specs.Fields.{is_named, makes_field, names_field, field_word}
use Rattle.additive_laws.specs.TraceLaws.{AreApart, has_number, rows_used}

-- the part that a packet with these words goes to
abbrev pub Partition : Type 0
Partition = List ℕ → ℕ

-- the packets of one part, in order
abbrev pub part_at : Partition → ℕ → List (List ℕ) → List (List ℕ)
part_at partition n packets = filter (λ words. partition words == n) packets

-- The partition keeps the keys of the query's groupby with this number: each packet that gives a key to the groupby goes to the
-- part of that key.
pub record KeepsKeys (partition : Partition) (q : TypedQuery) (i : ℕ) : Type 0 where
  pub part_of : Key → ℕ
  pub goes : (words : List ℕ) → length words ≡ FIELDS → All (λ u. partition words ≡ part_of u.key) (uses q i (words ∷ []))

-- the list has the part of each packet, and perhaps other parts, each once
pub record AreTheParts (partition : Partition) (packets : List (List ℕ)) (parts : List ℕ) : Type 0 where
  pub apart : AreApart parts
  pub each : All (λ words. has_number (partition words) parts ≡ true) packets

-- what the groupby takes of one part that runs by itself, and of the part of a key
abbrev pub part_uses : Partition → TypedQuery → ℕ → List (List ℕ) → ℕ → List Use
part_uses partition q i packets n = uses q i (part_at partition n packets)

abbrev pub own_uses : (partition : Partition) (q : TypedQuery) (i : ℕ) → KeepsKeys partition q i → List (List ℕ) → Key → List Use
own_uses partition q i kept packets key = part_uses partition q i packets (kept.part_of key)

-- the argument rows that the groupby gives the key: of the whole trace, and of one part that runs by itself
abbrev pub whole_rows : TypedQuery → ℕ → Key → List (List ℕ) → List ArgRow
whole_rows q i key packets = rows_used key (uses q i packets)

abbrev pub part_rows : Partition → TypedQuery → ℕ → Key → List (List ℕ) → ℕ → List ArgRow
part_rows partition q i key packets n = rows_used key (part_uses partition q i packets n)

-- ---- partitions by a field

-- by this function of that word
abbrev pub by_field : Field → (ℕ → ℕ) → Partition
by_field field choose words = choose (field_word field words)

-- by this function of the packet's words of these fields
abbrev pub by_fields : List Field → (List ℕ → ℕ) → Partition
by_fields fields choose words = choose (map (λ field. field_word field words) fields)

-- the place of the first of these columns that has the field's name
abbrev pub first_named : Field → List (List ℕ) → List ℕ → ℕ
first_named field names [] = 0
first_named field names (id ∷ columns) = if is_named field names id then 0 else suc (first_named field names columns)

-- the part of a key whose words are of these columns: by this function of its words of the fields
abbrev pub part_by : List (List ℕ) → List ℕ → List Field → (List ℕ → ℕ) → Key → ℕ
part_by names columns fields choose key = choose (map (λ field. slice_index key (first_named field names columns)) fields)

-- the groupbys of the query, in order
abbrev pub groupbys : TypedQuery → List TypedStream
groupbys q = filter (λ one. is_some (taking_of one.op)) q.streams

-- A key of the query's groupby with this number has the field's name, and no `map` makes a column of that name. The columns of a
-- groupby's stream are its keys.
pub record HasFieldKey (q : TypedQuery) (i : ℕ) (field : Field) : Type 0 where
  pub one : TypedStream
  pub groupby : slice_get (groupbys q) i ≡ Some one
  pub key : names_field field q.names one.columns ≡ true
  pub unmade : makes_field field q.names q.streams ≡ false
