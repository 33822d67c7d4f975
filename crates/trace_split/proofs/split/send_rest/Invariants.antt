-- The packets of the bytes that are gone are in their parts, and what is held begins with the header.
use Rattle.std.proofs.Common.{◌≡◌, ◌≤◌, ◌++◌, List, ℕ, Some, length, take}
use Rattle.marple_base.specs.{Inputs.IsOpen, declared.inputs.Which.TheVariants.{Query, Trace}}
use Rattle.trace_pieces.specs.{Machine.IsHead, Wholes.all_contents}
use Rattle.trace_split.{specs.PartTexts.{SameSetting, is_setting}, proofs.{ReachFacts.Reached, SendFacts.Adds}}
use Rattle.trace_split.proofs.split.send_rest.Given as goal

-- the packets of the bytes that are gone are in their parts
abbrev pub invariant-pieces : goal.invariant-pieces
invariant-pieces g l =
    let taken = g.P.Parts.taken in
    let before = g.I.Inputs.input l.fn.inputs Trace in
    let now = g.I.Inputs.input l.inputs Trace in
    record {
      opened : IsOpen now;
      within : l.head ≤ length l.bytes.items;
      head : IsHead (take l.head l.bytes.items);
      setting : is_setting l.texts;
      same : SameSetting l.fn.texts l.texts;
      reached : (rest : List ℕ) → before.left ≡ Some rest
          → Reached (all_contents (l.fn.bytes.items ++ rest) l.reads) l.reads now.left l.bytes.items l.given
          (Adds (taken l.fn.parts) l.fn.texts (taken l.parts) l.texts);
      input_later : before.faults ≤ now.faults;
      output_later : g.P.Parts.faults l.fn.parts ≤ g.P.Parts.faults l.parts;
      query : g.I.Inputs.input l.inputs Query ≡ g.I.Inputs.input l.fn.inputs Query;
      steps : l.fn.steps ≤ l.steps;
    }
