use Rattle.query_grammar.proofs.Whole as lemmas
use Rattle.query_grammar.proofs.laws.query_is_found.Goals as goal

pub returns : goal.returns
returns c = λ ts q h. lemmas.accepted_parsed ts q h
