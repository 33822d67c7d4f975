-- Four bytes that pass the test are digits, so the number before them and their value make the number of all.
use Rattle.std.proofs.Common.{◌+◌, ◌%◌, ◌^◌, refl, arith}
use Rattle.trace_reader.proofs.BlockFacts.{four_read, front_below}
use Rattle.trace_reader.proofs.blocks.with_four.Goals as goal

pub overflow_mul-result : goal.overflow_mul-result
overflow_mul-result c = omega (
  arith,
  front_below c.args.text.now c.args.read 15 c.args.number c.requires.front (omega (arith, c.requires.room)) c.requires.few,
)

pub overflow_add-result : goal.overflow_add-result
overflow_add-result c = omega (
  arith,
  front_below c.args.text.now c.args.read 15 c.args.number c.requires.front (omega (arith, c.requires.room)) c.requires.few,
  c.from.ensures,
)

pub returns : goal.returns
returns c =
    let word = c.from_le_bytes-word.result in
    rw c.from.ensures (
    four_read c.args.text.now c.args.read c.args.number word ((word + 1179010630) % 2 ^ 32) ((word + 3486502864) % 2 ^ 32) _
    c.requires.front c.requires.room
    (λ i. let f = c.type_inv.text i in omega arith) (omega (arith, c.from_le_bytes-word.ensures)) refl refl c.if-word-digits-ne0.false refl)
