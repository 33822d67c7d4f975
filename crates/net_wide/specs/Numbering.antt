-- The numbers of switches, by first appearance.
use Rattle.std.specs.Prelude.{ℕ, suc, ◌==◌, nat_lt, if◌then◌else◌, List, [], ◌∷◌, ◌++◌, length, Option, Some, None}

-- how many switches came before this one: its place among those that are known, or their number where it is new
abbrev pub place_among : List ℕ → ℕ → ℕ
place_among [] switch = 0
place_among (other ∷ known) switch = if other == switch then 0 else suc (place_among known switch)

-- the number of a switch, from 0; there are at most 64
abbrev pub switch_number : List ℕ → ℕ → Option ℕ
switch_number known switch = if nat_lt (place_among known switch) 64 then Some (place_among known switch) else None

-- the known switches with this one, which goes last where it is new and one of the first 64
abbrev pub with_switch : List ℕ → ℕ → List ℕ
with_switch known switch =
    if nat_lt (place_among known switch) (length known) then known
    else (if nat_lt (length known) 64 then known ++ switch ∷ [] else known)
