use Rattle.std.proofs.{Common.{◌≡◌, ◌-◌, ◌∙◌, ap, arith, get_or, rules, true}, lemmas.List.take_rest}
use Rattle.trace_reader.{specs.{Plain.ends_line, Reading.records}, proofs.MarkFacts.after_line}
use Rattle.trace_reader.proofs.records.reader_at.Goals as goal

pub returns-then-ends_line-clause-all : goal.returns-then-ends_line-clause-all
returns-then-ends_line-clause-all c =
    let text = c.args.text.now in
    let at = c.args.at in
    let ends : ends_line (get_or text (at - 1) 0) ≡ true = search rules in
    c.reader_of-then-ends_line.ensures.all ∙ ap records (take_rest text (at - 1))
    ∙ after_line text at (omega arith) c.requires.within ends
