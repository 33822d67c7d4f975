-- Traces, one after the other.
use Rattle.std.specs.{Prelude.{◌≡◌, ◌≤◌, ℕ, List, [], ◌∷◌, Option, None, Some, flat_map, get_or, map}, Option.option_or}
use Rattle.marple_base.specs.{Faults.Rose, Inputs.Input, declared.{field.{FieldSet.FieldSet, Packet.Packet}, inputs.Which.Which}}
use Rattle.marple_base.specs.declared.inputs.Which.TheVariants.{Trace}
use Rattle.trace_reader.specs.declared.fault.TraceFault.{TraceFault}
use Rattle.trace_pieces.specs.Wholes.{all_packets, first_fault}

-- the packets of each trace before its first fault
abbrev pub packets_of_all : List (List ℕ) → FieldSet → List Packet
packets_of_all traces reads = flat_map (λ trace. all_packets trace reads) traces

-- the first fault of the first trace that has one
abbrev pub fault_of_all : List (List ℕ) → FieldSet → Option TraceFault
fault_of_all [] reads = None
fault_of_all (trace ∷ rest) reads = option_or (first_fault trace reads) (fault_of_all rest reads)

module _ {T : Type 0} (input : T → Which → Input) where
  -- the counts of faults of the traces
  abbrev pub faults_of : List T → List ℕ
  faults_of traces = map (λ trace. (input trace Trace).faults) traces

  -- these are the bytes of the traces
  abbrev pub AreLeft : List T → List (List ℕ) → Type 0
  AreLeft traces all = map (λ trace. (input trace Trace).left) traces ≡ map Some all

-- one of the counts rose
abbrev pub OneRose : List ℕ → List ℕ → Type 0
OneRose before now = (i : ℕ) × Rose (get_or before i 0) (get_or now i 0)

-- none of the counts fell
abbrev pub NoneFell : List ℕ → List ℕ → Type 0
NoneFell before now = (i : ℕ) → get_or before i 0 ≤ get_or now i 0
