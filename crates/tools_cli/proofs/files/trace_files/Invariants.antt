use Rattle.std.proofs.Common.{All}
use Rattle.marple_base.specs.{Inputs.IsClosed, declared.inputs.Which.TheVariants.Trace}
use Rattle.tools_cli.specs.Files.{trace_input}
use Rattle.tools_cli.proofs.files.trace_files.Given as goal

-- no file is open yet
abbrev pub invariant-loop-name : goal.invariant-loop-name
invariant-loop-name l = record { closed : All (λ file. IsClosed (trace_input file.inputs Trace)) l.files.items }
