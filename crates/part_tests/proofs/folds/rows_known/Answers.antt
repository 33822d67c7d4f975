-- A program is that of one fold, so its rows and its layout have the same variables, arguments and size of elements.
use Rattle.std.proofs.{Common.{sym, ap, ◌∙◌}, Math.Logic.{∥∥₁_elim}, Props.props}
use Rattle.fold_class.specs.Rows.{element_size}
use Rattle.part_tests.proofs.folds.rows_known.Goals as goal

pub returns-clause-linear : goal.returns-clause-linear
returns-clause-linear c = ∥∥₁_elim c.requires (hlevel props) (λ h. h.1.rows.linear ∙ sym h.1.layout.linear)

pub returns-clause-history : goal.returns-clause-history
returns-clause-history c = ∥∥₁_elim c.requires (hlevel props) (λ h. h.1.rows.history ∙ sym h.1.layout.history)

pub returns-clause-args : goal.returns-clause-args
returns-clause-args c = ∥∥₁_elim c.requires (hlevel props) (λ h. h.1.rows.args ∙ sym h.1.layout.args)

pub returns-clause-size : goal.returns-clause-size
returns-clause-size c = ∥∥₁_elim c.requires (hlevel props) (λ h. ap element_size (h.1.rows.algebra ∙ sym h.1.algebra))
