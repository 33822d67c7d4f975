-- The packets of the traces before this one are in their parts without a fault, and the other traces are untouched.
use Rattle.std.proofs.Common.{◌≡◌, ◌≤◌, List, ℕ, [], None, drop, length, take}
use Rattle.trace_split.specs.{Holding.Taken, PartTexts.{HoldsPackets, SameSetting, is_setting}}
use Rattle.trace_split.specs.Traces.{AreLeft, NoneFell, fault_of_all, faults_of, packets_of_all}
use Rattle.trace_split.proofs.traces.send_traces.Given as goal

-- the packets of the traces so far are in their parts, and the traces from here on are as they were
abbrev pub invariant-loop-i : goal.invariant-loop-i
invariant-loop-i g l =
    let taken = g.P.Parts.taken in
    let input = g.I.Inputs.input in
    record {
      size : length l.traces ≡ length l.fn.traces;
      rest : drop l.i l.traces ≡ drop l.i l.fn.traces;
      setting : is_setting l.texts;
      same : SameSetting l.fn.texts l.texts;
      none : (all : List (List ℕ)) → AreLeft input l.fn.traces all → fault_of_all (take l.i all) l.reads ≡ None;
      sent : (all : List (List ℕ)) (first : Taken) → AreLeft input l.fn.traces all
          → HoldsPackets first (taken l.fn.parts) l.fn.texts []
          → HoldsPackets first (taken l.parts) l.texts (packets_of_all (take l.i all) l.reads);
      input_later : NoneFell (faults_of input l.fn.traces) (faults_of input l.traces);
      output_later : g.P.Parts.faults l.fn.parts ≤ g.P.Parts.faults l.parts;
      steps : l.fn.steps ≤ l.steps;
    }
