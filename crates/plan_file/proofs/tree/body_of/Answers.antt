-- A body is read only where its tokens are few, and what is read has no more nodes and statements than allowed.
use Rattle.std.proofs.Common.{[], sym, ◌∙◌, append-nil}
use Rattle.plan_file.{specs.Bodies.written_block, proofs.TreeFacts.{small_body, body_small, same_args}}
use Rattle.plan_file.proofs.tree.body_of.Goals as goal

pub returns-then-not-are_small : goal.returns-then-not-are_small
returns-then-not-are_small c b is n s =
    let small = c.are_small.ensures.1 (body_small c.args.states c.args.words.now b c.args.nodes c.args.most is.statements n s) in
    cc (c.if-not-are_small.true, small)

pub returns-in-Ok : goal.returns-in-Ok
returns-in-Ok c b is =
    let h = c.in-Ok.ensures.found b [] tt (same_args c.args.states c.args.args b is.typed)
    (is.statements ∙ sym (append-nil (written_block c.args.states b))) in
    let small = small_body c.args.states c.args.words.now b c.args.nodes c.args.most is.statements
    (c.are_small.ensures.0 c.if-not-are_small.false) in
    (h.0, small.0, small.1)

pub returns-in-Err-Other : goal.returns-in-Err-Other
returns-in-Err-Other c b is n s =
    let h = c.in-Err-Other.ensures.found b [] tt (same_args c.args.states c.args.args b is.typed)
    (is.statements ∙ sym (append-nil (written_block c.args.states b))) in
    cc
