-- The tokens of a fold that the limits count.
use Rattle.std.specs.Prelude.{ℕ, Bool, true, false, List, count_by}
use Rattle.query_grammar.specs.Language.{Role, Plain, Node, Statement, Opening, Leaf}

abbrev pub counts_as_node : Role → Bool
counts_as_node Plain = false
counts_as_node Node = true
counts_as_node Statement = false
counts_as_node Opening = false

abbrev pub begins_statement : Role → Bool
begins_statement Plain = false
begins_statement Node = false
begins_statement Statement = true
begins_statement Opening = false

-- how many of these tokens are nodes, and how many begin a statement
abbrev pub nodes_among : List Leaf → ℕ
nodes_among leaves = count_by (λ leaf. counts_as_node leaf.role) leaves

abbrev pub statements_among : List Leaf → ℕ
statements_among leaves = count_by (λ leaf. begins_statement leaf.role) leaves
