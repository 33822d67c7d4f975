-- Folds whose assignments add to a variable what does not depend on the state.
use Rattle.std.specs.Prelude.{ℕ, Bool, true, false, ◌&&◌, ◌==◌, []}
use Rattle.query_lang.specs.{declared.fold.{Op.{Op, TheVariants.{Add, Sub}}, TypedFold.TypedFold}, Terms.{Term, Read, Operation}}
use Rattle.query_lang.specs.{Blocks.Block, Folds.{fold_states, fold_block}}
use Rattle.fold_code.specs.Checks.{is_in, names_known, all_pass}

-- no state variable counts as known
abbrev pub no_variable : ℕ → Bool
no_variable = is_in []

-- whether an expression names no state variable
abbrev pub names_no_state : ℕ → Term → Bool
names_no_state states e = names_known states no_variable e

abbrev pub adds_or_subtracts : Op → Bool
adds_or_subtracts Add = true
adds_or_subtracts Sub = true
adds_or_subtracts _ = false

-- whether an expression is this variable and nothing else
abbrev pub is_variable : ℕ → Term → Bool
is_variable v (Read s) = s == v
is_variable v _ = false

-- whether an expression is the variable as the whole left operand, plus or minus what names known variables and arguments alone
abbrev pub adds_known : ℕ → (ℕ → Bool) → ℕ → Term → Bool
adds_known states known v (Operation op a b) = adds_or_subtracts op && (is_variable v a && names_known states known b)
adds_known states known v _ = false

-- plus or minus what names no state variable
abbrev pub is_increment : ℕ → ℕ → Term → Bool
is_increment states v e = adds_known states no_variable v e

-- whether each assignment is an increment under conditions that name no state variable; `free` says so of those around the block
abbrev pub is_additive_block : ℕ → Bool → Block → Bool
is_additive_block states free b = all_pass states no_variable (is_increment states) free b

-- whether a fold is additive
abbrev pub is_additive : TypedFold → Bool
is_additive f = is_additive_block (fold_states f) true (fold_block f)
