use Rattle.std.proofs.Common.{◌≡◌, map, drop}
use Rattle.query_grammar.specs.Kinds.{sign}
use Rattle.query_parser.specs.Reads.{op_among, ops_of}
use Rattle.query_parser.proofs.operators.level_op.Given as goal

abbrev pub invariant-loop-one : goal.invariant-loop-one
invariant-loop-one l =
    op_among (map (λ one. (sign one.0, one.1)) (drop l.one-index l.one-items)) l.kind ≡ op_among (ops_of l.fn.level) l.kind
