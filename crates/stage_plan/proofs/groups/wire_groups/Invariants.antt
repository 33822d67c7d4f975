use Rattle.std.{proofs.Common.{◌≡◌, ◌++◌, drop}, specs.Prelude.map}
use Rattle.query_lang.specs.Streams.{takings}
use Rattle.stage_plan.specs.Ordering.{wiring_of}
use Rattle.stage_plan.proofs.groups.wire_groups.Given as goal

abbrev pub invariant-loop-one : goal.invariant-loop-one
invariant-loop-one l = l.all ++ map (wiring_of l.registers l.wires) (takings (drop l.one-index l.streams)) ≡ map
    (wiring_of l.registers l.wires) (takings l.streams)
