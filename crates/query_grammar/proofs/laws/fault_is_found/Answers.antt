use Rattle.query_grammar.proofs.Whole as lemmas
use Rattle.query_grammar.proofs.laws.fault_is_found.Goals as goal

pub returns : goal.returns
returns c = λ k front t more h. lemmas.fault_found k front t more h
