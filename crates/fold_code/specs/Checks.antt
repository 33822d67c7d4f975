-- A check of a block: each assignment passes a test, and stands under known conditions.
use Rattle.std.specs.Prelude.{ℕ, Bool, true, false, not, ◌&&◌, ◌||◌, ◌==◌, nat_lt, List, [], ◌∷◌}
use Rattle.query_lang.specs.{Terms.{Term, Literal, Read, Negation, Operation}, Blocks.{Block, End, Set, Fork}}

-- whether a number is in a list
abbrev pub is_in : List ℕ → ℕ → Bool
is_in [] v = false
is_in (place ∷ rest) v = (v == place) || is_in rest v

-- whether an expression over this many state variables names known ones and arguments alone
abbrev pub names_known : ℕ → (ℕ → Bool) → Term → Bool
names_known states known (Literal n) = true
names_known states known (Read s) = not (nat_lt s states) || known s
names_known states known (Negation e) = names_known states known e
names_known states known (Operation op a b) = names_known states known a && names_known states known b

-- whether each assignment passes, under conditions that are known; `free` says so of those around the block
abbrev pub all_pass : ℕ → (ℕ → Bool) → (ℕ → Term → Bool) → Bool → Block → Bool
all_pass states known passes free End = true
all_pass states known passes free (Set v e rest) = (free && passes v e) && all_pass states known passes free rest
all_pass states known passes free (Fork c a b rest) =
    (all_pass states known passes (free && names_known states known c) a && all_pass states known passes
    (free && names_known states known c) b) && all_pass states known passes free rest
