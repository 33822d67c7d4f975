-- The map that takes each variable to itself.
use Rattle.std.specs.Prelude.{ℕ, ◌==◌, if◌then◌else◌}
use Rattle.coeff_algebra.specs.Elements.{Elements}

-- its element in this row and column
abbrev pub unit_at : {C : Type 0} → Elements C → ℕ → ℕ → C
unit_at k row column = if column == row then k.one else k.zero
