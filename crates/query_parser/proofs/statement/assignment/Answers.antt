-- A name, the sign, a value and the semicolon are read one after another, and what fails among them is the fault of all.
use Rattle.std.proofs.Common.{refl}
use Rattle.query_parser.proofs.Loops.{fails_in, stops_in}
use Rattle.query_parser.proofs.statement.assignment.Goals as goal

pub returns-in-Err : goal.returns-in-Err
returns-in-Err c = stops_in _ _ (λ k rest e. rw e refl) _ c.name.new.self c.in-Err.ensures

pub returns-in-Err-mark : goal.returns-in-Err-mark
returns-in-Err-mark c = stops_in _ _ (λ k rest e. rw (c.in-Ok.ensures, e) refl) _ c.mark.new.self c.in-Err-mark.ensures

pub returns-in-Err-expression : goal.returns-in-Err-expression
returns-in-Err-expression c =
    fails_in _ _ (λ k rest e. rw (c.in-Ok.ensures, c.in-Ok-mark.ensures, e) refl) _ c.expression.new.reader c.in-Err-expression.ensures
