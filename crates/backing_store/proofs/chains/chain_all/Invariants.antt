use Rattle.std.proofs.Common.{◌≡◌, length}
use Rattle.backing_store.specs.Prints.{LinksAreChained, prints_of}
use Rattle.backing_store.proofs.chains.chain_all.Given as goal

-- the keys so far are in chains
abbrev pub invariant-loop-number : goal.invariant-loop-number
invariant-loop-number l = record {
  chained : LinksAreChained l.number l.links l.homes;
  prints : prints_of l.links ≡ prints_of l.initial.links;
  homes : length l.homes ≡ length l.initial.homes;
}
