-- What the words of a command line ask the second program for.
use Rattle.std.specs.Prelude.{ℕ, ◌≤◌, Bool, true, false, not, is_some, List, [], ◌∷◌, Option, None, Some, bytes_eq, codes, if◌then◌else◌}
use Rattle.std.specs.{Prelude.{unwrap_or, ⊤}, Option.{option_and_then, option_map}}
use Rattle.tools_cli.specs.declared.command.{SplitSetting.SplitSetting, ToolCommand.{ToolCommand, TheVariants.{Facts, Split}}}
use Rattle.tools_cli.specs.{declared.options.SplitOptions.SplitOptions, Options.{no_options, operands, options_from}}

-- the setting of options that name the parts and their folder; the salt is 1 where they name none
abbrev pub setting_of : SplitOptions → Option SplitSetting
setting_of options =
    if options.into
    then option_map (λ n. record { parts = n; salt = unwrap_or options.salt 1; range = options.range }) options.parts else None

-- a query and traces: one at least, and only one where a range is named
abbrev pub has_traces : Bool → List (List ℕ) → Bool
has_traces only [] = false
has_traces only (query ∷ []) = false
has_traces only (query ∷ trace ∷ []) = true
has_traces only (query ∷ trace ∷ next ∷ more) = not only

abbrev pub setting_with : List (List ℕ) → SplitOptions → Option SplitSetting
setting_with words options = if has_traces (is_some options.range) (operands words) then setting_of options else None

-- QUERY TRACE .. --parts N --into FOLDER [--salt S] [--range FROM TO], the options anywhere
abbrev pub asked_split : List (List ℕ) → Option SplitSetting
asked_split words = option_and_then (setting_with words) (options_from no_options words)

-- QUERY
abbrev pub asked_facts : List (List ℕ) → Option ToolCommand
asked_facts (query ∷ []) = Some Facts
asked_facts words = None

-- The command that the words ask for.
abbrev pub asked : List (List ℕ) → Option ToolCommand
asked [] = None
asked (name ∷ words) =
    if bytes_eq name (codes "split")
    then option_map Split (asked_split words)
    else (if bytes_eq name (codes "facts") then asked_facts words else None)

-- there is a part
abbrev pub IsSplitSetting : SplitSetting → Type 0
IsSplitSetting setting = 1 ≤ setting.parts

abbrev pub IsToolCommand : ToolCommand → Type 0
IsToolCommand (Split setting) = IsSplitSetting setting
IsToolCommand Facts = ⊤
