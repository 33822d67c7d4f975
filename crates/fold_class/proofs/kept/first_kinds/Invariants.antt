use Rattle.std.proofs.Common.{◌≡◌, ℕ, nat_lt, if◌then◌else◌, length}
use Rattle.query_lang.specs.declared.fault.TheConstants.{MAX_STATES}
use Rattle.fold_class.specs.{declared.class.Kind.TheVariants.{Pure, Affine}, Walk.{kinds_in, flag_in}}
use Rattle.fold_class.proofs.kept.first_kinds.Given as goal

abbrev pub invariant-loop-v : goal.invariant-loop-v
invariant-loop-v l = record {
  kinds : (s : ℕ) → kinds_in l.kinds s ≡ (if nat_lt s l.v then (if flag_in l.fixed s then Pure else Affine) else Pure);
  long : length l.kinds ≡ MAX_STATES;
}
