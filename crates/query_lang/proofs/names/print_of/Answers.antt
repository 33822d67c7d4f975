-- One byte more is taken into the word.
use Rattle.std.{proofs.Common.{refl, ap, sym, ◌∙◌, ◌*◌, ◌%◌, ◌^◌, get_or}, specs.Int.RustNames.bit_xor}
use Rattle.query_lang.{specs.Names.print_of, proofs.NameFacts.print_more}
use Rattle.query_lang.proofs.names.print_of.Goals as goal

pub loop-byte-init : goal.loop-byte-init
unfolding print_of
loop-byte-init c = refl

pub loop-byte-preserved : goal.loop-byte-preserved
loop-byte-preserved c =
    ap (λ print. (bit_xor print (get_or c.args.text.now c.loop-byte.byte-index 0) * 0x100_0000_01b3) % 2 ^ 64) c.loop-byte.invariant
    ∙ sym (print_more c.args.text.now c.loop-byte.byte-index c.loop-byte-test.true)
