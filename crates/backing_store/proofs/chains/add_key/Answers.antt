-- One key more keeps all keys, and is found by its fingerprint.
use Rattle.std.proofs.Common.{◌≡◌, ◌++◌, ◌∷◌, ◌≤◌, [], length, ap, ◌∙◌, arith}
use Rattle.backing_store.{specs.Prints.{fingerprint, prints_of}, proofs.SearchFacts.{as_many, keys_more, one_more}}
use Rattle.backing_store.proofs.chains.add_key.Goals as goal

pub returns-clause-keys : goal.returns-clause-keys
returns-clause-keys c =
    let links = c.args.links.now.items in
    let others = c.push_link.new.links.items in
    let prints : prints_of others ≡ prints_of links ++ fingerprint c.args.key.now ∷ [] =
    rw (← c.requires.print) (c.push_link.ensures.prints
    ∙ ap (λ known. known ++ c.args.print ∷ [])
    (ap prints_of c.in_ok-reserve-2.ensures.items ∙ c.in_ok-make_room.ensures.prints)) in
    let many = one_more links others (fingerprint c.args.key.now) prints in
    let kept = as_many links c.make_room.new.links.items c.in_ok-make_room.ensures.prints in
    let room : length others ≤ length c.push_link.new.homes.items =
    omega (arith, many, kept, c.in_ok-make_room.ensures.room, c.push_link.ensures.homes) in
    rw (c.push_few.ensures.items, c.in_ok-reserve.ensures.items)
    (keys_more c.args.width c.args.words.now.items links others c.args.homes.now.items c.push_link.new.homes.items c.args.key.now
    c.requires.keys c.requires.width prints c.push_link.ensures.chained room)
