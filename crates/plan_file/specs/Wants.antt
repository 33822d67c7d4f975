-- What is still expected while the tokens of a body are read one by one.
use Rattle.std.specs.Prelude.{◌≡◌, ℕ, zero, suc, ◌+◌, ◌^◌, ◌++◌, Bool, true, false, not, ◌&&◌, nat_lt, List, [], ◌∷◌, Option, Some, None}
use Rattle.query_lang.specs.{declared.fold.Op.{Op, TheVariants.{Div, Rem, Shl, Shr, Decay, Both, Either}}, Folds.gives_condition}
use Rattle.plan_file.specs.declared.lexemes.Lexeme.{Lexeme}
use Rattle.plan_file.specs.declared.lexemes.Lexeme.TheVariants as word
use Rattle.plan_file.specs.declared.wants.Want.{Want, TheVariants.{Word, Condition, Divisor, Shift, Target, Open, Block}}

-- the operands of a function, the right one first
abbrev pub operands : Op → List Want
operands Div = Divisor ∷ Word ∷ []
operands Rem = Divisor ∷ Word ∷ []
operands Shl = Shift ∷ Word ∷ []
operands Shr = Shift ∷ Word ∷ []
operands Decay = Shift ∷ Word ∷ []
operands Both = Condition ∷ Condition ∷ []
operands Either = Condition ∷ Condition ∷ []
operands _ = Word ∷ Word ∷ []

abbrev pub where_true : Bool → List Want → Option (List Want)
where_true true wants = Some wants
where_true false wants = None

-- what is expected after the first token of an expression whose value is a word
abbrev pub past_word : ℕ → ℕ → Lexeme → Option (List Want)
past_word states slots (word.Number n) = where_true (nat_lt n (2 ^ 64)) []
past_word states slots (word.State s) = where_true (nat_lt s states) []
past_word states slots (word.Argument a) = where_true (nat_lt (states + a) slots) []
past_word states slots (word.Function op) = where_true (not (gives_condition op)) (operands op)
past_word states slots _ = None

-- the same where its value is a condition
abbrev pub after_condition : Lexeme → Option (List Want)
after_condition word.Not = Some (Condition ∷ [])
after_condition (word.Function op) = where_true (gives_condition op) (operands op)
after_condition _ = None

abbrev pub after_number : (ℕ → Bool) → Lexeme → Option (List Want)
after_number test (word.Number n) = where_true (nat_lt n (2 ^ 64) && test n) []
after_number test _ = None

abbrev pub after_target : ℕ → Lexeme → Option (List Want)
after_target states (word.State s) = where_true (nat_lt s states) []
after_target states _ = None

-- what is expected after `if`, where this many braces may still be opened: the block continues after the two blocks of the choice
abbrev pub after_if : ℕ → Option (List Want)
after_if zero = None
after_if (suc room) = Some (Block (suc room) ∷ Block room ∷ Open ∷ Block room ∷ Open ∷ Condition ∷ [])

abbrev pub after_open : Lexeme → Option (List Want)
after_open word.Open = Some []
after_open _ = None

-- what is expected after the first token of a block: of its first statement, or its closing brace
abbrev pub after_block : ℕ → Lexeme → Option (List Want)
after_block room word.Close = Some []
after_block room word.Set = Some (Block room ∷ Word ∷ Target ∷ [])
after_block room word.If = after_if room
after_block room _ = None

-- what is expected after a token that begins what was expected, the nearest one last, where the token can begin it
abbrev pub past : ℕ → ℕ → Want → Lexeme → Option (List Want)
past states slots Word word = past_word states slots word
past states slots Condition word = after_condition word
past states slots Divisor word = after_number (λ n. nat_lt 0 n) word
past states slots Shift word = after_number (λ n. nat_lt n 64) word
past states slots Target word = after_target states word
past states slots Open word = after_open word
past states slots (Block room) word = after_block room word

-- whether a token fits, and the stack after it, where this is what is expected after it
abbrev pub GoesOn : Option (List Want) → List Want → Bool → List Want → Type 0
GoesOn None old fits new = fits ≡ false
GoesOn (Some wants) old fits new = (fits ≡ true) × (new ≡ old ++ wants)

-- a token begins what was expected next, and this is the stack after it
pub record Steps (states slots : ℕ) (word : Lexeme) (old new : List Want) : Type 0 where
  pub front : List Want
  pub want : Want
  pub wants : List Want
  pub old_is : old ≡ front ++ want ∷ []
  pub after_is : past states slots want word ≡ Some wants
  pub new_is : new ≡ front ++ wants

-- a token begins nothing that was expected next
pub record Sticks (states slots : ℕ) (word : Lexeme) (old : List Want) : Type 0 where
  pub none : (front : List Want) (want : Want) → old ≡ front ++ want ∷ [] → past states slots want word ≡ None
