-- The first words of lines.
use Rattle.std.specs.{Prelude.{ℕ, List, [], ◌∷◌, codes, if◌then◌else◌}, Str.bytes_eq}
use Rattle.plan_file.specs.declared.line_word.LineWord.{LineWord}
use Rattle.plan_file.specs.declared.line_word.LineWord.TheVariants as words
use Rattle.plan_file.specs.Lexis.{tokens}

unfoldable pub word_named : List ℕ → LineWord
word_named token =
    if bytes_eq token (codes "marple-plan") then words.Plan else
    if bytes_eq token (codes "reads") then words.Reads else
    if bytes_eq token (codes "op") then words.Op else
    if bytes_eq token (codes "group") then words.Group else
    if bytes_eq token (codes "key") then words.Key else
    if bytes_eq token (codes "arg") then words.Arg else
    if bytes_eq token (codes "state") then words.State else
    if bytes_eq token (codes "body") then words.Body else
    if bytes_eq token (codes "fold") then words.Fold else
    if bytes_eq token (codes "print") then words.Print else
    words.Other

abbrev pub first_line_word : List (List ℕ) → List ℕ
first_line_word [] = []
first_line_word (token ∷ rest) = token

-- the kind of a line by its first word
abbrev pub line_word : List ℕ → LineWord
line_word line = word_named (first_line_word (tokens line))
