-- How parts are stored in words: a mark, and then a word or an element.
use Rattle.std.specs.Prelude.{ℕ, ◌<◌, ◌==◌, if◌then◌else◌, List, take, drop, slice_index}
use Rattle.fold_code.specs.declared.instr.Instr.{Instr, TheVariants.Keep}
use Rattle.coeff_algebra.specs.Maps.{element_at}
use Rattle.fold_class.specs.Parts.{Part, Fixed, Share, Lost}

-- the part that three words hold, where an element has this many words
abbrev pub part_of : {C : Type 0} → (List ℕ → C) → ℕ → List ℕ → Part C
part_of from_words size ws =
    if slice_index ws 0 == 0 then Fixed (slice_index ws 1) else
    (if slice_index ws 0 == 1 then Share (from_words (take size (drop 1 ws))) else Lost)

abbrev pub part_at : {C : Type 0} → (List ℕ → C) → ℕ → List ℕ → ℕ → Part C
part_at from_words size ws place = element_at (part_of from_words size) 3 ws place

-- the variable that an instruction writes is one of this many
abbrev pub IfKeeps : Instr → ℕ → Type 0
IfKeeps (Keep v mask x) states = v < states
IfKeeps _ states = Unit {0}
