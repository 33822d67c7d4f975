use Rattle.query_laws.proofs.Valid.{accepted_valid}
use Rattle.query_laws.proofs.validity.accepted_are_valid.Goals as goal

pub returns : goal.returns
returns c = accepted_valid
