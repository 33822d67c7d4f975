use Rattle.std.proofs.Common.{◌∙◌}
use Rattle.fold_class.{specs.{Depth.is_history, Kinds.role, Walk.flag_in}, proofs.LinearLemmas.same_fixed}
use Rattle.fold_class.proofs.classifier.is_linear.Goals as goal

pub returns : goal.returns
returns c = c.has_no_other.ensures ∙ same_fixed (role c.args.algebra) c.args.f.now (flag_in c.args.history.now) (is_history c.args.f.now)
    c.requires.history
