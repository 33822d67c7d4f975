use Rattle.query_grammar.proofs.FoldTokens.{fold_nodes_are, fold_statements_are}
use Rattle.query_grammar.proofs.laws.fold_tokens_are_counted.Goals as goal

pub returns : goal.returns
returns c = record { nodes = fold_nodes_are; statements = fold_statements_are }
