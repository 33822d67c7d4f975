use Rattle.std.proofs.Common.{All}
use Rattle.marple_base.specs.{Inputs.IsClosed, MemoryInputs.memory_input, declared.inputs.Which.TheVariants.Trace}
use Rattle.tools_tests.proofs.memory.ranged_traces_of.Given as goal

-- no trace is open yet
abbrev pub invariant-loop-text : goal.invariant-loop-text
invariant-loop-text l = record { closed : All (λ trace. IsClosed (memory_input trace.inputs Trace)) l.traces.items }
