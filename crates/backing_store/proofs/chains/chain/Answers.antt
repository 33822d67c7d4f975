-- Of the links only the one of the key changes.
use Rattle.std.proofs.Common.{get_or, arith}
use Rattle.backing_store.{specs.Prints.no_home, proofs.LinkFacts.{link_put, prints_kept}}
use Rattle.backing_store.proofs.chains.chain.Goals as goal

pub returns-clause-chained : goal.returns-clause-chained
returns-clause-chained c =
    link_put c.args.links.now c.args.homes.now c.args.number c.home_of-at.result _ c.requires.number c.requires.homes
    c.home_of-at.ensures.value (omega (arith, c.requires.few)) (omega arith, omega arith)
    (λ tag told. (omega (arith, told.0), omega (arith, told.1))) c.requires.chained

pub returns-clause-prints : goal.returns-clause-prints
returns-clause-prints c = prints_kept c.args.links.now c.args.number (get_or c.args.homes.now c.home_of-at.result no_home).last
