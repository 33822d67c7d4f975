use Rattle.std.proofs.Common.{◌≡◌, ◌+◌, drop}
use Rattle.net_wide.specs.Numbering.{place_among}
use Rattle.net_wide.proofs.numbering.place_among.Given as goal

-- the switch is none of those so far, and a step was taken for each
abbrev pub invariant-loop-at : goal.invariant-loop-at
invariant-loop-at g l = record {
  place : l.at + place_among (drop l.at l.known) l.switch ≡ place_among l.known l.switch;
  steps : l.steps ≡ l.initial.steps + l.at;
}
