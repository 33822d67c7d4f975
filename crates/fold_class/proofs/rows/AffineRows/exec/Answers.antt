use Rattle.std.proofs.Common.{subst, sym, ap, ◌∙◌}
use Rattle.fold_class.specs.Rows.{leaves_in}
use Rattle.fold_class.proofs.rows.AffineRows.exec.Goals as goal

pub returns-in-Sums-clause-leaves : goal.returns-in-Sums-clause-leaves
returns-in-Sums-clause-leaves g c =
    subst (λ a. leaves_in a c.args.self.now c.args.history.now c.args.args.now c.map_into.new.map c.map_into.new.history)
    (sym (ap (λ r. r.algebra) (sym c.self.view_is) ∙ c.in-Sums.is)) c.map_into.ensures.leaves

pub returns-in-Maxima-clause-leaves : goal.returns-in-Maxima-clause-leaves
returns-in-Maxima-clause-leaves g c =
    let r = c.map_into-in-Maxima in
    subst (λ a. leaves_in a c.args.self.now c.args.history.now c.args.args.now r.new.map r.new.history)
    (sym (ap (λ r. r.algebra) (sym c.self.view_is) ∙ c.in-Maxima.is)) r.ensures.leaves
