-- The first right row whose key isn't smaller is joined with the left one if its key is the same, and else none is.
use Rattle.std.proofs.Common.{◌∙◌, ◌++◌, sym, ap, refl, append-nil}
use Rattle.table_rows.{specs.LentRows.row_of, proofs.LentFacts.rows_from}
use Rattle.final_queries.specs.Joining.{joined_first}
use Rattle.final_queries.proofs.joined.push_joined.Goals as goal

pub returns-in_ok-push_both-clause-made : goal.returns-in_ok-push_both-clause-made
returns-in_ok-push_both-clause-made g c =
    let next = rows_from c.args.right.now c.args.at (row_of c.get-other.result) c.get-other.ensures in
    let same = sym c.is_same_key.ensures ∙ c.if-is_same_key.true in
    c.in_ok-push_both.ensures.row
    ∙ ap (λ rows. c.args.made.now ++ rows) (sym (ap (joined_first (row_of c.args.left.now)) next ∙ rw same refl))

pub returns-else-is_same_key-clause-made : goal.returns-else-is_same_key-clause-made
returns-else-is_same_key-clause-made g c =
    let next = rows_from c.args.right.now c.args.at (row_of c.get-other.result) c.get-other.ensures in
    let differs = sym c.is_same_key.ensures ∙ c.if-is_same_key.false in
    sym (append-nil c.args.made.now)
    ∙ ap (λ rows. c.args.made.now ++ rows) (sym (ap (joined_first (row_of c.args.left.now)) next ∙ rw differs refl))
