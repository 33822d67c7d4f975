-- How many nodes and statements tokens write, and where an expression or a block ends.
use Rattle.std.specs.Prelude.{ℕ, ◌+◌, ◌≤◌, Bool, true, false, List, [], ◌∷◌, ◌++◌, count_by}
use Rattle.query_lang.specs.Terms.{Term, Literal, Read, Negation, Operation}
use Rattle.plan_file.specs.declared.lexemes.Lexeme.{Lexeme}
use Rattle.plan_file.specs.declared.lexemes.Lexeme.TheVariants as word
use Rattle.query_lang.specs.Blocks.{Block, End, Set, Fork}
use Rattle.plan_file.specs.Bodies.{slot_lexeme, written, written_block}

abbrev pub is_node : Lexeme → Bool
is_node word.Not = true
is_node (word.Function op) = true
is_node (word.Number n) = true
is_node (word.State s) = true
is_node (word.Argument a) = true
is_node _ = false

abbrev pub is_set : Lexeme → Bool
is_set word.Set = true
is_set _ = false

abbrev pub is_if : Lexeme → Bool
is_if word.If = true
is_if _ = false

-- Tokens write a statement for each `set` and each `if`, and a node for each token of an expression. The variable of a `set` isn't a node.
pub record AreSmall (words : List Lexeme) (nodes statements : ℕ) : Type 0 where
  pub few_statements : count_by is_set words + count_by is_if words ≤ statements
  pub few_nodes : count_by is_node words ≤ nodes + count_by is_set words

abbrev pub is_leaf : Term → Bool
is_leaf (Literal n) = true
is_leaf (Read s) = true
is_leaf _ = false

-- the first token of an expression
abbrev pub first_of : ℕ → Term → Lexeme
first_of states (Literal n) = word.Number n
first_of states (Read s) = slot_lexeme states s
first_of states (Negation e) = word.Not
first_of states (Operation op a b) = word.Function op

-- tokens before which a block ends: none, or a closing brace first
abbrev pub Closes : List Lexeme → Type 0
Closes [] = Unit {0}
Closes (word.Close ∷ rest) = Unit {0}
Closes _ = ⊥

-- a brace that opens or closes
abbrev pub brace : Bool → Lexeme
brace true = word.Open
brace false = word.Close

-- a choice after its `if`
abbrev pub written_choice : ℕ → Term → Block → Block → List Lexeme
written_choice states c a b =
    written states c ++ (word.Open
    ∷ (written_block states a ++ (word.Close ∷ word.Open ∷ (written_block states b ++ word.Close ∷ []))))

-- one statement
abbrev pub IsStatement : Block → Type 0
IsStatement (Set v e End) = Unit {0}
IsStatement (Fork c a b End) = Unit {0}
IsStatement _ = ⊥

abbrev pub begins_statement : List Lexeme → Bool
begins_statement (word.Set ∷ rest) = true
begins_statement (word.If ∷ rest) = true
begins_statement _ = false
