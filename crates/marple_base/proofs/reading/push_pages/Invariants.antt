use Rattle.std.proofs.Common.{◌≡◌, ◌++◌, ◌-◌, ◌≤◌, length, take}
use Rattle.marple_base.proofs.reading.push_pages.Given as goal

-- what was read up to this place is at the end of the text
abbrev pub invariant-pages : goal.invariant-pages
invariant-pages l = record {
  within : l.at ≤ length l.block;
  pushed : l.text ≡ l.initial.text ++ take l.at l.block;
}

abbrev pub decreases-pages : goal.decreases-pages
decreases-pages l = length l.block - l.at
