-- The line `body`: the statements of a fold in prefix form.
use Rattle.std.specs.Prelude.{◌≡◌, ℕ, ◌+◌, ◌-◌, ◌≤◌, max, nat_lt, if◌then◌else◌, List, [], ◌∷◌, ◌++◌, map, codes}
use Rattle.query_lang.specs.{Blocks.{Block, End, Set, Fork}, Terms.{Term, Literal, Read, Negation, Operation}, Folds.IsValidBlock}
use Rattle.query_lang.specs.declared.fault.TheConstants.{MAX_NESTING}
use Rattle.plan_file.specs.declared.lexemes.Lexeme.{Lexeme}
use Rattle.plan_file.specs.declared.lexemes.Lexeme.TheVariants as word
use Rattle.plan_file.specs.{Lexis.tokens, Lexemes.lexeme_of}

-- `sI` is a state variable, and `aI` an argument, whose slot comes after those of the variables
abbrev pub slot_lexeme : ℕ → ℕ → Lexeme
slot_lexeme states s = if nat_lt s states then word.State s else word.Argument (s - states)

-- An expression in prefix form: `sI`, `aI`, `#N`, `not` and an expression, or another function and two expressions.
abbrev pub written : ℕ → Term → List Lexeme
written states (Literal n) = word.Number n ∷ []
written states (Read s) = slot_lexeme states s ∷ []
written states (Negation e) = word.Not ∷ written states e
written states (Operation op a b) = word.Function op ∷ (written states a ++ written states b)

-- Statements: each is `set sI EXPR`, or `if EXPR { STATEMENTS } { STATEMENTS }`.
abbrev pub written_block : ℕ → Block → List Lexeme
written_block states End = []
written_block states (Set v e next) = word.Set ∷ word.State v ∷ (written states e ++ written_block states next)
written_block states (Fork c a b next) =
    word.If ∷ (written states c
    ++ (word.Open ∷ (written_block states a
    ++ (word.Close ∷ word.Open ∷ (written_block states b
    ++ (word.Close ∷ written_block states next))))))

-- the most braces that are open at once
abbrev pub open_braces : Block → ℕ
open_braces End = 0
open_braces (Set v e next) = open_braces next
open_braces (Fork c a b next) = max (1 + max (open_braces a) (open_braces b)) (open_braces next)

-- these tokens are the statements of a body with these numbers of state variables and arguments, typed as a fold's body is, with at most
-- MAX_NESTING braces open at once
pub record IsBody (states args : ℕ) (words : List Lexeme) (body : Block) : Type 0 where
  pub statements : words ≡ written_block states body
  pub typed : IsValidBlock states args body
  pub nesting : open_braces body ≤ MAX_NESTING

-- `body` and the tokens of a body
pub record IsBodyLine (states args : ℕ) (line : List ℕ) (words : List Lexeme) : Type 0 where
  pub rest : List (List ℕ)
  pub begins : tokens line ≡ codes "body" ∷ rest
  pub are : words ≡ map lexeme_of rest
  pub body : Block
  pub is_body : IsBody states args words body
