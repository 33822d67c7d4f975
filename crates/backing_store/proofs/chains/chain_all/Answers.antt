-- Where there is no home's key yet, no key is in a chain.
use Rattle.std.proofs.Common.{refl}
use Rattle.backing_store.proofs.LinkFacts.{none_linked}
use Rattle.backing_store.proofs.chains.chain_all.Goals as goal

pub loop-number-init : goal.loop-number-init
loop-number-init c = record {
  chained = none_linked c.args.links.now c.args.homes.now c.requires.free;
  prints = refl;
  homes = refl;
}
