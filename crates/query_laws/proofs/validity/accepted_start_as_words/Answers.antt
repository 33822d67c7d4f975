use Rattle.query_laws.proofs.Valid.{accepted_starts}
use Rattle.query_laws.proofs.validity.accepted_start_as_words.Goals as goal

pub returns : goal.returns
returns c = accepted_starts
