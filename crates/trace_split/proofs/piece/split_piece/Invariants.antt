-- The packets given so far of the piece are in their parts, with the setting of the texts as at first.
use Rattle.std.proofs.Common.{◌≤◌}
use Rattle.trace_split.{specs.PartTexts.{SameSetting, is_setting}, proofs.SendFacts.{Adds, SoFar}}
use Rattle.trace_split.proofs.piece.split_piece.Given as goal

-- the packets that were given are in their parts
abbrev pub invariant-packets : goal.invariant-packets
invariant-packets g l =
    let taken = g.P.Parts.taken in
    record {
      setting : is_setting l.texts;
      same : SameSetting l.fn.texts l.texts;
      so_far : SoFar l.piece l.fn.reads l.trace l.count (Adds (taken l.fn.parts) l.fn.texts (taken l.parts) l.texts);
      later : g.P.Parts.faults l.fn.parts ≤ g.P.Parts.faults l.parts;
      steps : l.fn.steps ≤ l.steps;
    }
