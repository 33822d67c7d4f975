-- Each branch taken off the end becomes an `if` before what else there is, which leaves the whole block the same.
use Rattle.std.proofs.Common.{List, Some, refl, ap, sym, ◌∙◌}
use Rattle.query_lang.specs.declared.query.{Expr.Expr, Stmt.Stmt}
use Rattle.query_grammar.specs.Grammar.{else_of}
use Rattle.query_parser.proofs.Statements.{else_none, else_more}
use Rattle.query_parser.proofs.statement.else_of.Goals as goal
use Rattle.query_parser.proofs.statement.else_of.Goals.{in-Some, in-None}

pub branches-init : goal.branches-init
branches-init c = elim c.match-last.branch [
  | in-Some w ↦ rw (w.otherwise-is, c.into_vec-branches.ensures, w.in-Some.is) refl
  | in-None w ↦ rw (w.otherwise-is, c.into_vec-branches.ensures, w.in-None.is, w.new-otherwise.ensures) (sym (else_none c.args.branches))
]

pub branches-preserved : goal.branches-preserved
branches-preserved c = rw c.in_ok-otherwise.ensures (sym (else_more c.pop.new.self.items c.in-Some-pop.branch c.branches.otherwise)
    ∙ sym (ap (λ (all : List (Expr × List Stmt)). else_of all (Some c.branches.otherwise)) c.in-Some-pop.ensures.items)
    ∙ c.branches.invariant)
