-- A groupby without a switch has an empty store of its widths, and no front of which anything has to hold.
use Rattle.std.{proofs.{Common.{length, sym, ap, ◌∙◌, subst}, Math.Logic.{∥∥₁_elim}, Props.props}, specs.Prelude.slice_get}
use Rattle.fold_class.specs.Program.{IsProgram, IsProgramOf}
use Rattle.epoch_entry.specs.Foldings.{per_epoch}
use Rattle.network.proofs.GroupSteps.{none_there}
use Rattle.network.proofs.group.Group.new.Goals as goal

pub of-kind-requires : goal.of-kind-requires
of-kind-requires g c = subst IsProgram (sym c.in_ok-copy.ensures) c.requires.program

pub returns-clause-is : goal.returns-clause-is
returns-clause-is g c _ = record {
  keys = ap (λ s. s.key_words) c.new-store.ensures ∙ c.len.ensures;
  states = ap (λ s. s.state_words) c.new-store.ensures ∙ c.state_words.ensures;
  class = ∥∥₁_elim c.requires.program (hlevel props) (λ h. (c.of-kind.ensures.kind h.0
      (subst (IsProgramOf h.0) (sym c.in_ok-copy.ensures) h.1)).row_per_epoch ∙ ap per_epoch (sym h.1.class));
  kind = λ f program. c.of-kind.ensures.kind f (subst (IsProgramOf f) (sym c.in_ok-copy.ensures) program);
  kinds = λ s front e. absurd (none_there s front (ap (λ xs. slice_get xs s) (sym c.new.ensures.items) ∙ e));
  count = ap length c.new.ensures.items;
  shares = λ s front e. absurd (none_there s front (ap (λ xs. slice_get xs s) (sym c.new.ensures.items) ∙ e));
}
