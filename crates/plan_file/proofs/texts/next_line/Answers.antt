-- The bytes up to the next line feed are the next line, and without a line feed no line is left.
use Rattle.std.proofs.{Common.{◌-◌, drop, length, arith}, lemmas.List.{take_all, length-drop}}
use Rattle.plan_file.proofs.TextFacts.{after_lines, next_start}
use Rattle.plan_file.proofs.texts.next_line.Goals as goal

pub returns-in_err-line-clause-line : goal.returns-in_err-line-clause-line
returns-in_err-line-clause-line c i start =
    let text = c.args.text.now in
    let whole = take_all (length text - c.args.at) (drop c.args.at text) (omega (arith, length-drop c.args.at text)) in
    rw c.from_residual.ensures (after_lines text i c.args.at start (rw whole at c.in_err-line.ensures.parts))

pub returns-clause-line : goal.returns-clause-line
returns-clause-line c i start =
    let text = c.args.text.now in
    let whole = take_all (length text - c.args.at) (drop c.args.at text) (omega (arith, length-drop c.args.at text)) in
    next_start text i c.args.at c.in_ok-line.line.now c.in_ok-line.field-0-1.now start (rw whole at c.in_ok-line.ensures.parts)
    (rw whole at c.in_ok-line.ensures.place.1) (rw whole at c.in_ok-line.ensures.place.0)

pub returns-clause-later : goal.returns-clause-later
returns-clause-later c =
    let text = c.args.text.now in
    let whole = take_all (length text - c.args.at) (drop c.args.at text) (omega (arith, length-drop c.args.at text)) in
    let size = rw whole at c.in_ok-line.ensures.place.0 in
    (omega arith, omega (arith, size, length-drop c.args.at text))
