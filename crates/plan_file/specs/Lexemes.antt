-- The tokens of a `body` line.
use Rattle.std.specs.{Prelude.{ℕ, List, codes, Option, Some, None, if◌then◌else◌}, Str.bytes_eq}
use Rattle.query_lang.specs.declared.fold.Op.{Op}
use Rattle.plan_file.specs.declared.lexemes.Lexeme.{Lexeme}
use Rattle.plan_file.specs.declared.lexemes.Lexeme.TheVariants.{Set, If, Open, Close, Not, Function, Number, State, Argument, Other}
use Rattle.plan_file.specs.Lexis.{literal, state_number, argument_number, function_named}

-- a token that isn't a keyword of a statement: a function of two operands, a number, a state variable or an argument
abbrev pub lexeme_among : Option Op → Option ℕ → Option ℕ → Option ℕ → Lexeme
lexeme_among (Some op) n s a = Function op
lexeme_among None (Some n) s a = Number n
lexeme_among None None (Some s) a = State s
lexeme_among None None None (Some a) = Argument a
lexeme_among None None None None = Other

-- what a token of a body is
unfoldable pub lexeme_of : List ℕ → Lexeme
lexeme_of token =
    if bytes_eq token (codes "set") then Set else
    if bytes_eq token (codes "if") then If else
    if bytes_eq token (codes "{") then Open else
    if bytes_eq token (codes "}") then Close else
    if bytes_eq token (codes "not") then Not else
    lexeme_among (function_named token) (literal token) (state_number token) (argument_number token)
