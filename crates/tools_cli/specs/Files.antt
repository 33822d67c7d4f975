-- What the files of traces and parts mean: nothing is said about their bytes.
use Rattle.std.specs.Prelude.{ℕ, ◌-◌, ◌^◌, false, None}
use Rattle.marple_base.specs.{Inputs.Input, declared.inputs.Which.{Which, TheVariants.{Query, Trace}}}
use Rattle.tools_cli.specs.declared.files.{FileParts.FileParts, TraceFile.TraceFile}

-- the file is the trace's; a query can't be opened
abbrev pub trace_input : TraceFile → Which → Input
trace_input trace Query = record { left = None; is_open = false; faults = 2 ^ 64 - 1 }
trace_input trace Trace = record { left = None; is_open = trace.is_open; faults = trace.faults }

-- the count of faults of the files of parts
abbrev pub part_faults : FileParts → ℕ
part_faults parts = parts.faults
