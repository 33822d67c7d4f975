-- How the fields of a `Trace` show what is still to come.
use Rattle.std.specs.Prelude.{◌+◌, ◌≤◌, ⊤, [], Some, None}
use Rattle.trace_reader.specs.{Columns.AreWithin, Faults.IsLate, Traces.{Contents, contents_from}, Upcoming.Upcoming}
use Rattle.trace_reader.specs.declared.fault.TheConstants.{MAX_RECORDS}
use Rattle.trace_reader.specs.declared.fault.TraceAnswer.TheVariants as answer
use Rattle.trace_reader.specs.declared.trace.Progress.{Progress}
use Rattle.trace_reader.specs.declared.trace.Progress.TheVariants as progress
use Rattle.trace_reader.specs.declared.trace.Trace.TheInside.{Inside}

abbrev pub upcoming_by : Progress → Contents → Upcoming
upcoming_by progress.Reading rest = record { packets = rest.packets; fault = rest.fault; stopped = None }
upcoming_by progress.Ended rest = record { packets = []; fault = None; stopped = None }
upcoming_by (progress.Stopped (answer.Refused found)) rest = record {
  packets = [];
  fault = Some found;
  stopped = Some (answer.Refused found);
}
upcoming_by (progress.Stopped answer.Memory) rest = record { packets = []; fault = None; stopped = Some answer.Memory }

abbrev pub upcoming_in : Inside → Upcoming
upcoming_in trace =
    upcoming_by trace.progress (contents_from (record { width = trace.width; columns = trace.columns }) (trace.given + 1)
    trace.records.left)

-- while a trace is read, no more packets were given than a trace may have, and each column is within its records;
-- where a fault stopped it, a data record has that fault
abbrev pub IsSoundAt : Progress → Inside → Type 0
IsSoundAt progress.Reading trace = (trace.given ≤ MAX_RECORDS) × AreWithin trace.width trace.columns
IsSoundAt progress.Ended trace = ⊤
IsSoundAt (progress.Stopped (answer.Refused found)) trace = IsLate found
IsSoundAt (progress.Stopped answer.Memory) trace = ⊤

abbrev pub IsSound : Inside → Type 0
IsSound trace = IsSoundAt trace.progress trace
