-- The groupbys of a sound plan, and the headings of their tables.
use Rattle.std.proofs.Common.{ℕ, length, ap, ◌∙◌}
use Rattle.query_lang.specs.declared.fold.TypedFold.{TypedFold}
use Rattle.fold_class.specs.Program.{IsProgramOf}
use Rattle.stage_plan.specs.{declared.group.{GroupPlan.GroupPlan, GroupWiring.GroupWiring}, Sound.IsSoundGroup}
use Rattle.switch_core.specs.Pipelines.{heading_of}
use Rattle.enclosure_folds.specs.Shown.{IsHeadingOf}

pub heading_is : (registers : ℕ) (group : GroupPlan) (wiring : GroupWiring) (f : TypedFold) → IsSoundGroup registers group wiring
    → IsProgramOf f group.program → IsHeadingOf f (heading_of group)
heading_is registers group wiring f known program = record {
  class = program.class;
  states = known.states ∙ (ap (λ l. length l) program.layout.initial ∙ program.valid.starts);
  some_keys = known.some_keys;
  most_keys = known.most_keys;
}
