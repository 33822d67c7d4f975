-- Laws of splitting.
use Rattle.std.specs.Prelude.{◌≡◌, ◌<◌, ℕ, true, List, [], ◌∷◌, ◌++◌, length, All, flat_map, Ok}
use Rattle.accepted_query.specs.Accepted.{accepted}
use Rattle.marple_base.specs.declared.field.{Field.Field, Packet.Packet}
use Rattle.part_laws.specs.Parts.{KeepsKeys, Partition, by_fields, groupbys}
use Rattle.part_texts.specs.Texts.{packets_of_part, part_by_hash}
use Rattle.query_lang.specs.declared.typed.TypedQuery.{TypedQuery}
use Rattle.split_fields.specs.Splits.{may_split}

-- In each accepted text a splitting by fields that each groupby has as keys, and that no `map` makes, keeps the keys of each
-- groupby, whatever the salt and the number of parts.
abbrev pub ByHashKeepsKeys : Type 0
ByHashKeepsKeys = (text : List ℕ) (q : TypedQuery) (i : ℕ) (fields : List Field) (salt parts : ℕ) → accepted text ≡ Ok q
    → i < length (groupbys q) → All (λ field. may_split q field ≡ true) fields → KeepsKeys (part_by_hash fields salt parts) q i

-- Whichever pieces a trace has, its part is the parts of the pieces, one after the other: so pieces may be split side by side.
abbrev pub SplitsAreOfPackets : Type 0
SplitsAreOfPackets = (partition : Partition) (n : ℕ) (pieces : List (List Packet))
    → packets_of_part partition n (flat_map (λ piece. piece) pieces) ≡ flat_map (λ piece. packets_of_part partition n piece) pieces
