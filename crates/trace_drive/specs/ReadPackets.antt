-- What is known of the packets that are read from a trace.
use Rattle.std.specs.Prelude.{◌≡◌, ◌≤◌, ℕ, List, length, All}
use Rattle.query_lang.specs.Words.{AreWords}
use Rattle.marple_base.specs.declared.field.FieldSet.{FieldSet}
use Rattle.stage_plan.specs.Packets.{AreWhole}
use Rattle.trace_reader.specs.{Traces.packets, declared.fault.TheConstants.MAX_RECORDS}
use Rattle.trace_drive.specs.{Drives.words_of, Kept.kept_of}

-- Each field of each packet that is read from a trace is a word.
abbrev pub ReadPacketsAreOfWords : Type 0
ReadPacketsAreOfWords = (text : List ℕ) (reads : FieldSet) → All AreWords (words_of (packets text reads))

-- The packets of a trace have the words of all fields.
abbrev pub ReadPacketsAreWhole : Type 0
ReadPacketsAreWhole = (text : List ℕ) (reads : FieldSet) → AreWhole (words_of (packets text reads))

-- A trace has no more packets than it may have records.
abbrev pub ReadPacketsAreFew : Type 0
ReadPacketsAreFew = (text : List ℕ) (reads : FieldSet) → length (packets text reads) ≤ MAX_RECORDS

-- The packets of a trace have 0 in the fields that aren't read: where the others are kept, nothing of them is lost.
abbrev pub ReadPacketsAreKept : Type 0
ReadPacketsAreKept = (text : List ℕ) (reads : FieldSet) → All (λ packet. kept_of reads packet ≡ packet) (packets text reads)
