use Rattle.query_laws.proofs.QueryLaws.{one_form}
use Rattle.query_laws.proofs.typing.one_typed_form.Goals as goal

pub returns : goal.returns
returns c = λ q t u h k. one_form h k
