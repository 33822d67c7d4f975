-- The number so far is that of the digits read, which are few enough for one digit more.
use Rattle.std.proofs.Common.{◌≡◌, ◌^◌, ◌≤◌, get_or, true, arith, rules, ◌∙◌, ap, sym, Some}
use Rattle.std.{proofs.lemmas.{List.take_all, Bool.Decides.nat_tests}, specs.Char.is_ascii_digit}
use Rattle.trace_reader.proofs.{BlockFacts.front_below, NumberFacts.{digits_below, digits_value_digit, list_all_digit, number_some}}
use Rattle.trace_reader.proofs.number.rest_of_digits.Goals as goal

pub overflow_mul-number : goal.overflow_mul-number
overflow_mul-number c =
    omega (arith, front_below c.args.text.now c.loop-i.i 18 c.loop-i.number c.loop-i.invariant (omega arith) (omega arith))

pub overflow_add-number : goal.overflow_add-number
overflow_add-number c =
    let text = c.args.text.now in
    let i = c.loop-i.i in
    let digit : is_ascii_digit (get_or text i 0) ≡ true = search rules in
    let small : get_or text i 0 ≤ 57 = grind (arith, nat_tests) in
    omega (arith, front_below text i 18 c.loop-i.number c.loop-i.invariant (omega arith) (omega arith), c.from.ensures, small)

pub loop-i-preserved : goal.loop-i-preserved
loop-i-preserved c =
    let text = c.args.text.now in
    let i = c.loop-i.i in
    let digit : is_ascii_digit (get_or text i 0) ≡ true = search rules in
    record {
      digits = list_all_digit text i c.loop-i-test.true c.loop-i.invariant.digits digit;
      value = grind (arith, digits_value_digit text i c.loop-i-test.true digit);
    }

pub returns : goal.returns
returns c =
    let text = c.args.text.now in
    let all = take_all c.loop-i.i text c.loop-i-test.false in
    let digits = rw all at c.loop-i.invariant.digits in
    let value = rw all at c.loop-i.invariant.value in
    sym (number_some 19 (10 ^ 19) text c.requires.some c.requires.few digits (digits_below text 19 digits c.requires.few)
    ∙ ap Some (sym value))
