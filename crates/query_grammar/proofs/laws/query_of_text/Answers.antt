use Rattle.query_grammar.proofs.TextFaults as lemmas
use Rattle.query_grammar.proofs.laws.query_of_text.Goals as goal

pub returns : goal.returns
returns c = λ text x. (lemmas.query_of_text text x, lemmas.text_of_query text x)
