-- By its first token the tokens are those of a `not`, a function or a leaf, whose operands are read one after another.
use Rattle.std.proofs.{Common.{◌≡◌, ◌++◌, ◌-◌, List, length, take, drop, ◌∙◌, arith}, lemmas.List.{take_all, length-drop}}
use Rattle.query_lang.proofs.TreeLemmas.{term_not, term_binary}
use Rattle.plan_file.specs.{declared.lexemes.Lexeme.{Lexeme, TheVariants.Set}, Bodies.written}
use Rattle.plan_file.proofs.TreeFacts.{no_words, not_case, function_case}
use Rattle.plan_file.proofs.tree.+expression.Goals as goal

-- all tokens but the first
after_first : (words : List Lexeme) → take (length words - 1) (drop 1 words) ≡ drop 1 words
after_first words = take_all (length words - 1) (drop 1 words) (omega (arith, length-drop 1 words))

pub returns-in-empty-clause-found : goal.returns-in-empty-clause-found
returns-in-empty-clause-found t c e rest v is =
    absurd (no_words c.args.reader.states c.args.words.now e rest (omega (arith, c.in-empty.len_below)) is)

pub returns-in-Err-clause-found : goal.returns-in-Err-clause-found
returns-in-Err-clause-found t c e rest v is =
    let f = not_case c.args.reader.states c.args.reader.slots Set _ e rest c.in-len1-up.len_at_least c.in-Not.is v is in
    c.in-Err.ensures.found f.0 rest f.2 (after_first c.args.words.now ∙ f.3)

pub returns-in_ok-new-in-Not-clause-found : goal.returns-in_ok-new-in-Not-clause-found
returns-in_ok-new-in-Not-clause-found t c e rest v is =
    let f = not_case c.args.reader.states c.args.reader.slots Set _ e rest c.in-len1-up.len_at_least c.in-Not.is v is in
    let h = c.in-Ok.ensures.found f.0 rest f.2 (after_first c.args.words.now ∙ f.3) in
    let n = term_not c.in_ok-new-in-Not.field-0 in
    (cc (n, h.0, c.in_ok-new-in-Not.ensures, f.1), h.1)

pub returns-in-Err-expression-clause-found : goal.returns-in-Err-expression-clause-found
returns-in-Err-expression-clause-found t c e rest v is =
    let f = function_case c.args.reader.states c.args.reader.slots Set _ _ e rest c.in-len1-up.len_at_least c.in-Function.is v is in
    c.in-Err-expression.ensures.found f.0 (written c.args.reader.states f.1 ++ rest) f.3 (after_first c.args.words.now ∙ f.5)

pub returns-in-Err-expression-2-clause-found : goal.returns-in-Err-expression-2-clause-found
returns-in-Err-expression-2-clause-found t c e rest v is =
    let f = function_case c.args.reader.states c.args.reader.slots Set _ _ e rest c.in-len1-up.len_at_least c.in-Function.is v is in
    let h = c.in-Ok-expression.ensures.found f.0 (written c.args.reader.states f.1 ++ rest) f.3 (after_first c.args.words.now ∙ f.5) in
    c.in-Err-expression-2.ensures.found f.1 rest f.4 h.1

pub returns-in_ok-new-in-Function-clause-found : goal.returns-in_ok-new-in-Function-clause-found
returns-in_ok-new-in-Function-clause-found t c e rest v is =
    let f = function_case c.args.reader.states c.args.reader.slots Set _ _ e rest c.in-len1-up.len_at_least c.in-Function.is v is in
    let h = c.in-Ok-expression.ensures.found f.0 (written c.args.reader.states f.1 ++ rest) f.3 (after_first c.args.words.now ∙ f.5) in
    let g = c.in-Ok-expression-2.ensures.found f.1 rest f.4 h.1 in
    let n = term_binary c.in-Function.op c.in_ok-left-in-Function.left c.in_ok-new-in-Function.field-0 in
    (cc (n, h.0, g.0, c.in_ok-left-in-Function.ensures, c.in_ok-new-in-Function.ensures, f.2), g.1)
