-- The new link is in no chain until its key is put in one.
use Rattle.std.proofs.Common.{◌≡◌, length, ◌∙◌, arith}
use Rattle.backing_store.proofs.LinkFacts.{link_pushed}
use Rattle.backing_store.proofs.chains.push_link.Goals as goal

pub chain-requires-clause-chained : goal.chain-requires-clause-chained
chain-requires-clause-chained c =
    let number : c.len-number.result ≡ length c.args.links.now.items = omega (arith, c.len-number.ensures) in
    rw (number, c.as_mut_slice.ensures.value ∙ c.push_reserved.ensures.items, c.as_mut_slice-2.ensures.value)
    (link_pushed c.args.links.now.items c.args.homes.now.items c.args.print c.requires.chained)
