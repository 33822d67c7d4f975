-- Laws of how a trace may be split.
use Rattle.std.specs.Prelude.{◌≡◌, ◌<◌, ℕ, true, List, length, Ok}
use Rattle.accepted_query.specs.Accepted.{accepted}
use Rattle.marple_base.specs.declared.field.Field.{Field}
use Rattle.part_laws.specs.Parts.{KeepsKeys, by_fields, groupbys}
use Rattle.query_facts.specs.{Needs.{is_one_of, needed_tables}, Parts.parts_of, declared.parts.Parts.TheVariants.By}
use Rattle.query_lang.specs.declared.typed.TypedQuery.{TypedQuery}

-- Where facts say that the trace of an accepted text may be split by some fields, a partition by any function of these fields keeps the
-- keys of each groupby that is printed, or that a needed final reads.
abbrev pub NeededKeysAreKept : Type 0
NeededKeysAreKept = (text : List ℕ) (q : TypedQuery) (i : ℕ) (fields : List Field) (choose : List ℕ → ℕ) → accepted text ≡ Ok q
    → parts_of q ≡ By fields → i < length (groupbys q) → is_one_of (needed_tables q) i ≡ true → KeepsKeys (by_fields fields choose) q i
