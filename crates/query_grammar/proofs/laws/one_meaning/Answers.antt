use Rattle.query_grammar.proofs.Runs as lemmas
use Rattle.query_grammar.proofs.laws.one_meaning.Goals as goal

pub returns : goal.returns
returns c = λ ts p q f g. lemmas.one_meaning ts p q f g
