-- The options of a splitting. They may stand anywhere among its operands, and each is named at most once.
use Rattle.std.specs.Prelude.{ℕ, ◌≤◌, Bool, true, false, ◌&&◌, ◌||◌, not, List, [], ◌∷◌, Option, None, Some, IfSome, bytes_eq, codes}
use Rattle.std.specs.{Prelude.{if◌then◌else◌, is_none, nat_eq}, List.starts_with, Option.{option_and_then, option_map}}
use Rattle.command_line.specs.Number.{number_within}
use Rattle.tools_cli.specs.declared.options.SplitOptions.{SplitOptions}
use Rattle.trace_ranges.specs.declared.ranged.Range.{Range}

abbrev pub no_options : SplitOptions
no_options = record { parts = None; salt = None; into = false; range = None }

-- the name of the option with two values
abbrev pub is_range : List ℕ → Bool
is_range word = bytes_eq word (codes "--range")

-- the name of an option with one value
abbrev pub is_option : List ℕ → Bool
is_option word = bytes_eq word (codes "--parts") || (bytes_eq word (codes "--into") || bytes_eq word (codes "--salt"))

-- a word that begins as a name of an option is no operand
abbrev pub is_dashed : List ℕ → Bool
is_dashed word = starts_with nat_eq word (codes "--")

-- the options with one more: 1 to 65,536 parts, a salt of at most 2^32-1, and any folder
abbrev pub with_option : SplitOptions → List ℕ → List ℕ → Option SplitOptions
with_option options name value =
    if bytes_eq name (codes "--parts") && is_none options.parts
    then option_map (λ n. record options { parts = Some n }) (number_within 1 65536 value)
    else if bytes_eq name (codes "--salt") && is_none options.salt
    then option_map (λ n. record options { salt = Some n }) (number_within 0 4294967295 value)
    else if bytes_eq name (codes "--into") && not options.into then Some (record options { into = true })
    else None

-- a range of bytes, both of at most 2^64-1, that doesn't end before it begins
abbrev pub range_of : List ℕ → List ℕ → Option Range
range_of first last =
    option_and_then (λ m. option_map (λ n. record { from = m; to = n }) (number_within m 18446744073709551615 last))
    (number_within 0 18446744073709551615 first)

-- the options with a range, if they have none
abbrev pub with_range : SplitOptions → List ℕ → List ℕ → Option SplitOptions
with_range options first last =
    if is_none options.range then option_map (λ range. record options { range = Some range }) (range_of first last) else None

-- the options with those of these words
abbrev pub options_from : SplitOptions → List (List ℕ) → Option SplitOptions
options_from options [] = Some options
options_from options (word ∷ []) =
    if is_range word then None else (if is_option word then None else (if is_dashed word then None else Some options))
options_from options (word ∷ next ∷ []) =
    if is_range word then None
    else (if is_option word then with_option options word next
    else (if is_dashed word then None else options_from options (next ∷ [])))
options_from options (word ∷ next ∷ third ∷ rest) =
    if is_range word then option_and_then (λ more. options_from more rest) (with_range options next third)
    else (if is_option word then option_and_then (λ more. options_from more (third ∷ rest)) (with_option options word next)
    else (if is_dashed word then None else options_from options (next ∷ third ∷ rest)))

-- the words that are neither names of options nor their values
abbrev pub operands : List (List ℕ) → List (List ℕ)
operands [] = []
operands (word ∷ []) = if is_range word then [] else (if is_option word then [] else (word ∷ []))
operands (word ∷ next ∷ []) =
    if is_range word then [] else (if is_option word then [] else (word ∷ operands (next ∷ [])))
operands (word ∷ next ∷ third ∷ rest) =
    if is_range word then operands rest
    else (if is_option word then operands (third ∷ rest) else (word ∷ operands (next ∷ third ∷ rest)))

-- there is a part, where the parts are told
abbrev pub AreWithin : SplitOptions → Type 0
AreWithin options = IfSome options.parts (λ n. 1 ≤ n)
