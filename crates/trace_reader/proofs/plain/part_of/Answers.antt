-- a span within a text is one of which the text has all
use Rattle.std.{proofs.{Common.{◌≡◌, length, true, arith}, lemmas.Bool.Decides.nat_tests}, specs.Prelude.nat_le}
use Rattle.trace_reader.proofs.plain.part_of.Goals as goal

pub returns : goal.returns
returns c =
    let span = c.args.span in
    let ordered : nat_le span.start span.end ≡ true = grind (arith, nat_tests, c.requires.ordered) in
    let within : nat_le span.end (length c.args.text.now) ≡ true = grind (arith, nat_tests, c.requires.within) in
    rw (ordered, within)
