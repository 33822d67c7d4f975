-- A number has at most 20 digits, so it fits with its comma before the place and goes on with the text there.
use Rattle.std.proofs.Common.{◌≡◌, ◌+◌, ◌-◌, ◌<◌, ◌≤◌, ◌∙◌, ◌++◌, ◌∷◌, ap, append-nil, arith, decimal, drop, length, rules, sym}
use Rattle.std.proofs.lemmas.{Fmt.length-decimal-le, List.drop-set}
use Rattle.table_printer.proofs.backwards.word_before.Goals as goal

pub write_digits-at-requires : goal.write_digits-at-requires
write_digits-at-requires c =
    let short : length (decimal c.args.word) ≤ 20 = search (rules, length-decimal-le 20) in
    (omega (arith, short, c.requires.0), c.requires.1)

pub overflow_sub-at : goal.overflow_sub-at
overflow_sub-at c =
    let short : length (decimal c.args.word) ≤ 20 = search (rules, length-decimal-le 20) in
    omega (arith, short, c.write_digits-at.ensures.start, c.requires.0)

pub returns-clause-start : goal.returns-clause-start
returns-clause-start c =
    let short : length (decimal c.args.word) ≤ 20 = search (rules, length-decimal-le 20) in
    let start = c.write_digits-at.ensures.start in
    (omega (arith, short, start, c.requires.0), omega (arith, short, start, c.requires.0))

pub returns-clause-written : goal.returns-clause-written
returns-clause-written c =
    let short : length (decimal c.args.word) ≤ 20 = search (rules, length-decimal-le 20) in
    let digits = c.write_digits-at.result in
    let room = c.write_digits-at.new.buf in
    let start = c.write_digits-at.ensures.start in
    let within : digits - 1 < length room = omega (arith, short, start, c.requires.0, c.requires.1, c.write_digits-at.auto.buf) in
    let next : digits - 1 + 1 ≡ digits = omega (arith, short, start, c.requires.0) in
    drop-set room (digits - 1) 44 within
    ∙ ap (λ text. 44 ∷ text) (ap (λ n. drop n room) next ∙ (c.write_digits-at.ensures.written
    ∙ ap (λ text. text ++ drop c.args.end c.args.room.now) (sym (append-nil (decimal c.args.word)))))
