use Rattle.query_grammar.proofs.TextFaults as lemmas
use Rattle.query_grammar.proofs.laws.fault_of_text.Goals as goal

pub returns : goal.returns
returns c = λ text x. (lemmas.fault_of_text text x, lemmas.text_of_fault text x)
