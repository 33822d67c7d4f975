use Rattle.std.proofs.Common.{◌≡◌}
use Rattle.epoch_entry.specs.declared.purpose.Entries.TheVariants.{Bounds}
use Rattle.part_tests.proofs.enclosed_rows.make_all.Given as goal

-- the pipeline still has entries for bounds
abbrev pub invariant-loop-event : goal.invariant-loop-event
invariant-loop-event g l = l.one.pipeline.entries ≡ Bounds
