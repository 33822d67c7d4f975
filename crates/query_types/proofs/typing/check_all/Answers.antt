use Rattle.query_lang.specs.Typing.{given_of, start_of, items_checked}
use Rattle.query_types.proofs.CheckLemmas.{same_checked}
use Rattle.query_types.proofs.typing.check_all.Goals as goal

pub returns-clause-given : goal.returns-clause-given
returns-clause-given c =
    let names = c.args.names.now in
    let items = c.args.items.now in
    same_checked c.check_items.result (λ given. items_checked given (start_of names) items) c.in_ok-given.given (given_of names items)
    c.in_ok-given.ensures
    (same_checked c.check_items.result (λ start. items_checked c.in_ok-given.given start items) c.in_ok-start.start (start_of names)
    c.in_ok-start.ensures c.check_items.ensures.given)
