-- Pieces of a trace that are cut after ends of lines.
use Rattle.std.specs.Prelude.{◌≡◌, ◌<◌, ◌+◌, ◌==◌, ℕ, true, List, ◌++◌, All, None, flat_map, get_or, length, option_map}
use Rattle.marple_base.specs.declared.field.{FieldSet.FieldSet, Packet.Packet}
use Rattle.trace_pieces.specs.{Faults.after_records, Machine.IsHead, Wholes.{all_contents, all_packets, first_fault}}
use Rattle.trace_reader.specs.Traces.{Contents}

-- Lines without quotes, of which the last one has its end too.
pub record AreLines (text : List ℕ) : Type 0 where
  pub plain : (k : ℕ) → k < length text → (get_or text k 0 == 34) ≡ true → ⊥
  pub ended : (n : ℕ) → length text ≡ n + 1 → get_or text n 0 ≡ 10

-- the text of all pieces, one after the other
abbrev pub joined_text : List (List ℕ) → List ℕ
joined_text pieces = flat_map (λ piece. piece) pieces

-- the packets of pieces, of each as of a trace with this header
abbrev pub packets_of_pieces : List ℕ → List (List ℕ) → FieldSet → List Packet
packets_of_pieces header pieces reads = flat_map (λ piece. all_packets (header ++ piece) reads) pieces

-- this after these packets, and a fault after as many records more
abbrev pub after_packets : List Packet → Contents → Contents
after_packets sent rest = record { packets = sent ++ rest.packets; fault = option_map (after_records (length sent)) rest.fault }

-- A trace that begins with lines without quotes may be cut after the end of each line: with the header before it each piece is a
-- trace, and the packets of these traces, one after the other, are those of the whole. The rest may have quotes.
abbrev pub LinesMayBeCut : Type 0
LinesMayBeCut = (header : List ℕ) (pieces : List (List ℕ)) (rest : List ℕ) (reads : FieldSet) → IsHead header → All AreLines pieces
    → All (λ piece. first_fault (header ++ piece) reads ≡ None) pieces
    → all_contents (header ++ (joined_text pieces ++ rest)) reads
    ≡ after_packets (packets_of_pieces header pieces reads) (all_contents (header ++ rest) reads)
