use Rattle.query_grammar.proofs.Parsed as lemmas
use Rattle.query_grammar.proofs.laws.first_fault.Goals as goal

pub returns : goal.returns
returns c = λ ts end. lemmas.parsed_says ts end
