use Rattle.query_grammar.proofs.Numbered.{readable}
use Rattle.query_grammar.proofs.laws.query_is_readable.Goals as goal

pub returns : goal.returns
returns c = λ text q h. readable text q h
