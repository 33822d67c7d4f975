-- The typed query is that of the query with the names of all fields, and it is valid.
use Rattle.query_lang.specs.Typing.{typed_names}
use Rattle.query_types.{specs.CheckedItems.checked_with, proofs.{CheckLemmas.same_checked, StartLaws.all_ready}}
use Rattle.query_types.proofs.ValidLaws.{answer_valid, answer_named}
use Rattle.query_types.proofs.typing.check.Goals as goal

pub check_with-requires : goal.check_with-requires
check_with-requires c = rw c.as_slice.ensures (all_ready c.args.q c.in_ok-all.all c.requires c.in_ok-all.ensures)

pub returns-clause-given : goal.returns-clause-given
returns-clause-given c =
    same_checked c.check_with.result (λ names. checked_with names c.args.q.items c.args.q.end) c.in_ok-all.all (typed_names c.args.q.names)
    c.in_ok-all.ensures
    (same_checked c.check_with.result (λ items. checked_with c.in_ok-all.all items c.args.q.end) c.as_slice.result.now c.args.q.items
    c.as_slice.ensures c.check_with.ensures.given)

pub returns-clause-valid : goal.returns-clause-valid
returns-clause-valid c = answer_valid c.args.q c.check_with.result c.requires (rw c.as_slice.ensures at c.check_with.ensures.numbers)
    (returns-clause-given c)

pub returns-clause-names : goal.returns-clause-names
returns-clause-names c = answer_named c.args.q c.check_with.result (returns-clause-given c)
