-- The rows that were passed aren't read or have smaller keys, and the next one is read with a key that is no smaller.
use Rattle.std.proofs.{Common.{◌≡◌, ◌∙◌, ◌+◌, ◌-◌, ℕ, true, false, sym, ap, subst, take, drop, rules, arith}, lemmas.List.drop-drop}
use Rattle.std.specs.Ordering.{is_lt}
use Rattle.epoch_model.specs.Keys.{key_cmp}
use Rattle.table_rows.{specs.LentRows.row_of, proofs.LentFacts.rows_from}
use Rattle.final_queries.{specs.{Finals.is_read, Joining.{AreSmaller, StartsAtLeast}}, proofs.JoinSteps.smaller_more}
use Rattle.final_queries.proofs.joined.first_at_least.Goals.{else-is_read-via-then-is_read+else-not-is_smaller_key}
use Rattle.final_queries.proofs.joined.first_at_least.Goals.{else-is_read-via-else-is_read}
use Rattle.final_queries.proofs.joined.first_at_least.Goals as goal

pub returns-then-not-is_smaller_key-clause-least :
    goal.returns-then-not-is_smaller_key-clause-least
returns-then-not-is_smaller_key-clause-least g c =
    let row = row_of c.get-row.result in
    let read : is_read row.mark ≡ true = search rules in
    let least : is_lt (key_cmp row.key c.args.key.now) ≡ false = search rules in
    subst (StartsAtLeast c.args.key.now) (sym (rows_from c.args.rows.now c.loop-at.at row c.get-row.ensures)) (read, least)

pub loop-at-preserved : goal.loop-at-preserved
loop-at-preserved g c =
    let key = c.args.key.now in
    let rows = c.args.rows.now in
    let from = c.args.from in
    let at = c.loop-at.at in
    let row = row_of c.get-row.result in
    let passed : ℕ = at - from in
    let here : from + passed ≡ at = omega arith in
    let one_more : passed + 1 ≡ at + 1 - from = omega arith in
    let next = drop-drop passed from rows ∙ (ap (λ k. drop k rows) here ∙ rows_from rows at row c.get-row.ensures) in
    record {
      smaller = subst (λ k. AreSmaller key (take k (drop from rows))) one_more
          (smaller_more key (drop from rows) passed row (drop (at + 1) rows) next (elim c.else-is_read.branch [
            | else-is_read-via-then-is_read+else-not-is_smaller_key w ↦ λ h. search rules
            | else-is_read-via-else-is_read w ↦ λ h. search rules
          ]) c.loop-at.invariant.smaller);
      steps = let i = c.loop-at.invariant.steps in let t = c.tick_many.ensures in omega arith;
    }
