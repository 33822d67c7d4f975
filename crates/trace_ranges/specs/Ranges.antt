-- The header of a trace, and its records that begin in a range of its bytes.
use Rattle.std.specs.Prelude.{ℕ, ◌-◌, ◌==◌, ◌&&◌, Bool, true, false, nat_lt, not, List, [], ◌∷◌, fold, if◌then◌else◌, Option, None, Some}
use Rattle.std.specs.Option.{option_map}
use Rattle.marple_base.specs.{Inputs.Input, declared.inputs.Which.{Which, TheVariants.{Query, Trace}}}
use Rattle.trace_ranges.specs.{Spots.{is_cut, spot_after}, declared.ranged.{Range.Range, Ranged.Ranged}}
use Rattle.trace_ranges.specs.declared.spot.Spot.TheVariants as spot
use Rattle.trace_ranges.specs.declared.window.Window.{Window}

-- the byte before these, where it is kept
abbrev pub if_kept : Bool → ℕ → List ℕ → List ℕ
if_kept true byte bytes = byte ∷ bytes
if_kept false byte bytes = bytes

-- bytes from here on are kept where none is to go until the range begins, and some until it ends
abbrev pub begins : ℕ → ℕ → Bool
begins from to = (from == 0) && nat_lt 0 to

-- the window after this byte: between two records it is decided whether the bytes from there on are kept
abbrev pub window_after : Window → ℕ → Window
window_after window byte = record {
  spot = spot_after window.spot byte;
  keeps = if is_cut (spot_after window.spot byte) then begins (window.from - 1) (window.to - 1) else window.keeps;
  from = window.from - 1;
  to = window.to - 1;
}

-- the window after these bytes
abbrev pub window_over : Window → List ℕ → Window
window_over window bytes = fold window_after window bytes

-- the bytes that are kept
unfoldable pub kept : Window → List ℕ → List ℕ
kept window [] = []
kept window (byte ∷ rest) = if_kept window.keeps byte (kept (window_after window byte) rest)

-- nothing more is kept
abbrev pub is_past : Window → Bool
is_past window = not window.keeps && (window.to == 0)

-- before the first byte: the header is kept
abbrev pub first_window : ℕ → ℕ → Window
first_window from to = record { spot = spot.Start; keeps = true; from = from; to = to }

-- The header of a text, and its records that begin at byte FROM or later, counted from 0, and before byte TO.
abbrev pub range_text : ℕ → ℕ → List ℕ → List ℕ
range_text from to text = kept (first_window from to) text

-- the window of a range, and none of all bytes
abbrev pub window_for : Option Range → Option Window
window_for range = option_map (λ (own : Range). first_window own.from own.to) range

-- the input that gives what is kept of another
abbrev pub kept_input : Window → Input → Input
kept_input window given = record { left = option_map (kept window) given.left; is_open = given.is_open; faults = given.faults }

-- inputs that give of a trace what is kept, and the query as it is
abbrev pub ranged : Option Window → (Which → Input) → Which → Input
ranged None given which = given which
ranged (Some window) given Query = given Query
ranged (Some window) given Trace = kept_input window (given Trace)

-- the same inputs with this range from the beginning
abbrev pub windowed : {I : Type 0} → Option Range → Ranged I → Ranged I
windowed range given = record given { window = window_for range }

-- what inputs with this range from the beginning give
abbrev pub range_input : {I : Type 0} → (I → Which → Input) → Option Range → Ranged I → Which → Input
range_input input range given = ranged (window_for range) (input given.inputs)

-- the inputs of which a range is given
abbrev pub within : {I : Type 0} → (I → Which → Input) → Ranged I → Which → Input
within input given = input given.inputs
