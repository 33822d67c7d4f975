use Rattle.std.{proofs.{Common.{◌+◌, ◌%◌, ◌^◌, refl, arith}, lemmas.Nat.trailing_le}, specs.{Prelude.bit_and, Int.{bit_not, w64}}}
use Rattle.std.specs.Int.Bits.{and_lt}
use Rattle.trace_reader.proofs.StopFacts.{going_on}
use Rattle.trace_reader.proofs.plain.going.Goals as goal

pub returns-clause-above : goal.returns-clause-above
returns-clause-above c k low high =
    let word = c.from_le_bytes-word.result in
    let rest = (word + 15191436295996101331) % 2 ^ 64 in
    going_on c.args.text.now c.args.at word rest _ _
    (λ i. let f = c.type_inv.text i in omega arith) (omega (arith, c.from_le_bytes-word.ensures)) refl refl
    (and_lt 64 (bit_and rest (bit_not w64 word)) 9259542123273814144 (and_lt 64 rest (bit_not w64 word) (omega arith) (omega arith))
    (omega arith)) refl (trailing_le 64 _) k low high
