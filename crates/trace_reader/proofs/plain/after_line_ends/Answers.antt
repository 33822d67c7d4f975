-- A line end between two records is no part of a record, so past it the same records are left.
use Rattle.std.proofs.Common.{◌≡◌, ◌∙◌, ap, arith, drop, get_or, length, rules, sym, true}
use Rattle.csv.specs.declared.parser.State.TheVariants as st
use Rattle.trace_reader.{specs.{Plain.ends_line, Reading.records_after}, proofs.PlainFacts.skip_line_end}
use Rattle.trace_reader.proofs.plain.after_line_ends.Goals as goal

pub loop-at-preserved : goal.loop-at-preserved
loop-at-preserved c =
    let text = c.args.text.now in
    let ends : ends_line (get_or text c.loop-at.at 0) ≡ true = search rules in
    sym (skip_line_end text c.loop-at.at c.loop-at-test.true ends) ∙ c.loop-at.invariant

pub returns-clause-same : goal.returns-clause-same
returns-clause-same c =
    let text = c.args.text.now in
    let all : length text ≡ c.loop-at.at = omega arith in
    ap (λ n. records_after st.StartRecord (drop n text)) all ∙ c.loop-at.invariant
