-- What the trial's query prints over the text of generated packets.
use Rattle.std.specs.Prelude.{◌≡◌, ℕ, ◌≤◌, List, None, Ok}
use Rattle.epoch_model.specs.Epochs.{Geometry}
use Rattle.marple_base.specs.declared.field.Packet.{Packet}
use Rattle.query_lang.specs.declared.typed.TypedQuery.{TypedQuery}
use Rattle.accepted_query.specs.{Accepted.accepted, TrialQuery.trial_query}
use Rattle.query_tables.specs.Tables.{query_text}
use Rattle.queue_sim.specs.{Generator.simulated, TraceText.trace_text}
use Rattle.stage_plan.specs.Fields.{reads_of}
use Rattle.trace_drive.specs.Drives.{words_of}
use Rattle.trace_reader.specs.Traces.{packets, trace_fault}

-- the query accepts the packets' text as a trace, and prints over what it reads there what it prints over the packets
pub record RunsOverTheText (q : TypedQuery) (made : List Packet) : Type 0 where
  pub accepted : trace_fault (trace_text made) (reads_of q) ≡ None
  pub written : (g : Geometry) → query_text q g (words_of (packets (trace_text made) (reads_of q))) ≡ query_text q g (words_of made)

-- So it is for the trial's query and all packets of the generator, of which there are at most a million.
abbrev pub TrialsRunOverTexts : Type 0
TrialsRunOverTexts = (q : TypedQuery) (count start capacity : ℕ) → accepted trial_query ≡ Ok q → count ≤ 1000000
    → RunsOverTheText q (simulated count start capacity)
