use Rattle.std.proofs.{Common.{◌+◌, ◌-◌, drop, length, arith, rules}, lemmas.List.{take_all, length-drop}}
use Rattle.plan_file.{specs.Lexis.is_byte, proofs.LexisFacts.{split_first, split_none}}
use Rattle.plan_file.proofs.lexis.cut_at.Goals as goal

pub returns-then-one-byte-clause-parts : goal.returns-then-one-byte-clause-parts
returns-then-one-byte-clause-parts c =
    let text = c.args.text.now in
    let i = c.loop-i.i in
    let all = take_all (length text - (i + 1)) (drop (i + 1) text) (omega (arith, length-drop (i + 1) text)) in
    rw all (split_first (is_byte c.args.byte) text i c.loop-i-test.true c.loop-i.invariant (search rules))

pub returns-clause-parts : goal.returns-clause-parts
returns-clause-parts c = split_none (is_byte c.args.byte) c.args.text.now c.loop-i.i c.loop-i-test.false c.loop-i.invariant
