use Rattle.trace_reader.proofs.NumberFacts.{number_kept}
use Rattle.trace_reader.proofs.number.word.Goals as goal

pub returns-in-Some : goal.returns-in-Some
returns-in-Some c =
    let number = c.in-Some.ensures in
    rw (number_kept c.args.text.now c.in-Some.number number, number)
