-- Tokens written of valid statements give those statements back, a choice by its condition and its two braced blocks.
use Rattle.std.proofs.Common.{◌≡◌, ◌-◌, true, false, List, ◌∷◌, ◌++◌, sym, ap, subst, ◌∙◌, arith}
use Rattle.query_lang.{specs.Blocks.{End, Fork, block_of}, proofs.TreeLemmas.block_if}
use Rattle.plan_file.specs.{Bodies.{written, written_block}, Trees.{begins_statement, brace}, declared.lexemes.Lexeme.Lexeme}
use Rattle.plan_file.proofs.TreeFacts.{choice_front, IsLeft, left_last, left_ahead, left_more}
use Rattle.plan_file.proofs.tree.+statements.Goals as goal

-- what the tokens after the first brace are, where tokens written of a block in its braces come first
inside : {first left : List Lexeme} (more rest : List Lexeme) → first ≡ brace true ∷ left
    → first ≡ brace true ∷ (more ++ brace false ∷ rest) → left ≡ more ++ brace false ∷ rest
inside more rest e is = cc

pub braced-returns-in-Err-clause-found : goal.braced-returns-in-Err-clause-found
braced-returns-in-Err-clause-found t c b rest valid is = absurd (c.in-Err.ensures _ is)

pub braced-returns-in-Err-statements-clause-found : goal.braced-returns-in-Err-statements-clause-found
braced-returns-in-Err-statements-clause-found t c b rest valid is =
    c.in-Err-statements.ensures.found b (brace false ∷ rest) tt valid (inside _ rest c.in-Ok.ensures is)

pub braced-returns-in-Err-after_brace-clause-found : goal.braced-returns-in-Err-after_brace-clause-found
braced-returns-in-Err-after_brace-clause-found t c b rest valid is =
    let h = c.in-Ok-statements.ensures.found b (brace false ∷ rest) tt valid (inside _ rest c.in-Ok.ensures is) in
    absurd (c.in-Err-after_brace.ensures _ h.1)

pub braced-returns-clause-found : goal.braced-returns-clause-found
braced-returns-clause-found t c b rest valid is =
    let h = c.in-Ok-statements.ensures.found b (brace false ∷ rest) tt valid (inside _ rest c.in-Ok.ensures is) in
    (h.0, cc (h.1, c.in-Ok-after_brace.ensures))

pub choice-returns-in-Err-clause-found : goal.choice-returns-in-Err-clause-found
choice-returns-in-Err-clause-found t c t' a b rest vc va vb is =
    let states = c.args.reader.states in
    c.in-Err.ensures.found t' _ vc (is ∙ choice_front (written states t') (written_block states a) (written_block states b) rest)

pub choice-returns-in-Err-braced-clause-found : goal.choice-returns-in-Err-braced-clause-found
choice-returns-in-Err-braced-clause-found t c t' a b rest vc va vb is =
    let states = c.args.reader.states in
    let h1 = c.in-Ok.ensures.found t' _ vc
    (is ∙ choice_front (written states t') (written_block states a) (written_block states b) rest) in
    c.in-Err-braced.ensures.found a _ va h1.1

pub choice-returns-in-Err-braced-2-clause-found : goal.choice-returns-in-Err-braced-2-clause-found
choice-returns-in-Err-braced-2-clause-found t c t' a b rest vc va vb is =
    let states = c.args.reader.states in
    let h1 = c.in-Ok.ensures.found t' _ vc
    (is ∙ choice_front (written states t') (written_block states a) (written_block states b) rest) in
    let h2 = c.in-Ok-braced.ensures.found a _ va h1.1 in
    c.in-Err-braced-2.ensures.found b rest vb h2.1

pub choice-returns-clause-found : goal.choice-returns-clause-found
choice-returns-clause-found t c t' a b rest vc va vb is =
    let states = c.args.reader.states in
    let then_block = c.in-Ok-braced.found.0 in
    let else_block = c.in-Ok-braced-2.found.0 in
    let h1 = c.in-Ok.ensures.found t' _ vc
    (is ∙ choice_front (written states t') (written_block states a) (written_block states b) rest) in
    let h2 = c.in-Ok-braced.ensures.found a _ va h1.1 in
    let h3 = c.in-Ok-braced-2.ensures.found b rest vb h2.1 in (
      block_if c.in-Ok.found.0 then_block else_block
          ∙ ap (λ x. Fork x (block_of then_block) (block_of else_block) End) h1.0
          ∙ ap (λ x. Fork t' x (block_of else_block) End) h2.0 ∙ ap (λ x. Fork t' a x End) h3.0,
      h3.1,
    )

pub statements-statements-preserved : goal.statements-statements-preserved
statements-statements-preserved t c = record {
  size = omega (arith, c.statements.invariant.size, c.in-Ok.ensures.shorter);
  goes = λ b rest closes v is.
      let states = c.args.reader.states in
      let args = c.args.reader.slots - c.args.reader.states in
      let left = c.statements.invariant.goes b rest closes v is in
      let test : begins_statement c.statements.left.now ≡ true = sym c.begins_statement.ensures ∙ c.statements-test.true in
      let a = left_ahead states args c.statements.found c.statements.left.now b rest closes test left in
      let h = c.in-Ok.ensures.found a.one (written_block states a.next ++ rest) a.is_one a.valid_one a.left_is in
      subst (λ found. IsLeft states args found c.in-Ok.found.1.now b rest) (sym c.in_ok-push.ensures.ok)
      (left_more states args c.statements.found c.statements.left.now c.in-Ok.found.1.now c.in-Ok.found.0 b rest a h.0 h.1);
}

pub statements-returns-in-Err-clause-found : goal.statements-returns-in-Err-clause-found
statements-returns-in-Err-clause-found t c b rest closes v is =
    let states = c.args.reader.states in
    let args = c.args.reader.slots - c.args.reader.states in
    let left = c.statements.invariant.goes b rest closes v is in
    let test : begins_statement c.statements.left.now ≡ true = sym c.begins_statement.ensures ∙ c.statements-test.true in
    let a = left_ahead states args c.statements.found c.statements.left.now b rest closes test left in
    c.in-Err.ensures.found a.one (written_block states a.next ++ rest) a.is_one a.valid_one a.left_is

pub statements-returns-clause-found : goal.statements-returns-clause-found
statements-returns-clause-found t c b rest closes v is =
    let test : begins_statement c.statements.left.now ≡ false = sym c.begins_statement.ensures ∙ c.statements-test.false in
    left_last c.args.reader.states (c.args.reader.slots - c.args.reader.states) c.statements.found c.statements.left.now b rest test
    (c.statements.invariant.goes b rest closes v is)
