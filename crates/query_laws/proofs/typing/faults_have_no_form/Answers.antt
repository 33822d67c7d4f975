use Rattle.query_laws.proofs.QueryLaws.{no_form}
use Rattle.query_laws.proofs.typing.faults_have_no_form.Goals as goal

pub returns : goal.returns
returns c = λ q fault t e h. no_form e h
