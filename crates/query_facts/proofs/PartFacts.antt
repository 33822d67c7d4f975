-- Facts on how a trace may be split.
use Rattle.std.proofs.Common.{◌≡◌, List, [], ◌∷◌, refl}
use Rattle.marple_base.specs.declared.field.Field.{Field}
use Rattle.query_facts.specs.declared.parts.Parts.{Parts}
use Rattle.query_facts.specs.declared.parts.Parts.TheVariants as parts
use Rattle.query_facts.specs.Parts.{by_or}

-- where there are fields, they are taken
pub some_fields : (fields : List Field) (others : Parts) → (fields ≡ [] → ⊥) → by_or fields others ≡ parts.By fields
some_fields [] others none = absurd (none refl)
some_fields (field ∷ fields) others none = refl
