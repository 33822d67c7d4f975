use Rattle.std.proofs.Common.{◌+◌, ◌%◌, ◌^◌, refl, arith}
use Rattle.trace_reader.proofs.BlockFacts.{eight_read}
use Rattle.trace_reader.proofs.blocks.eight.Goals as goal

pub returns : goal.returns
returns c =
    let word = c.from_le_bytes-word.result in
    eight_read c.args.text.now word ((word + 5063812098665367110) % 2 ^ 64) ((word + 14974415777481871312) % 2 ^ 64) _ c.requires
    (λ i. let f = c.type_inv.text i in omega arith) (omega (arith, c.from_le_bytes-word.ensures)) refl refl c.if-word-digits-ne0.false refl
