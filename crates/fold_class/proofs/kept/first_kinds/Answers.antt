use Rattle.std.proofs.Common.{ℕ, if◌then◌else◌, arith, rules, length-set, ◌∙◌}
use Rattle.fold_class.{specs.{declared.class.Kind.TheVariants.{Pure, Affine}, Walk.flag_in}, proofs.LinearLemmas.kind_step}
use Rattle.fold_class.proofs.kept.first_kinds.Goals as goal

pub loop-v-preserved : goal.loop-v-preserved
loop-v-preserved c = record {
  kinds = kind_step c.loop-v.kinds (λ (s : ℕ). if flag_in c.args.fixed.now s then Pure else Affine) c.loop-v.v c.start_kind.result
      (omega arith) (search rules) c.loop-v.invariant.kinds;
  long = length-set c.loop-v.kinds c.loop-v.v c.start_kind.result ∙ c.loop-v.invariant.long;
}
