-- The right rows that were passed have keys below the left one's, so no later left row is joined with them either.
use Rattle.std.proofs.{Common.{◌≡◌, ◌∙◌, ◌+◌, ◌-◌, ◌++◌, ℕ, sym, ap, take, drop, arith}, lemmas.List.{take-append-drop, drop-drop}}
use Rattle.table_rows.specs.LentRows.{row_of}
use Rattle.final_queries.proofs.{JoinSteps.joined_turn, ReadRows.{read_first, left_out}}
use Rattle.final_queries.proofs.joined.joined.Goals.{then-is_read+in_ok-push_joined, else-is_read}
use Rattle.final_queries.proofs.joined.joined.Goals as goal

pub loop-at-preserved : goal.loop-at-preserved
loop-at-preserved g c =
    let i = c.loop-at.at in
    let left = c.args.left.now in
    let right = c.args.right.now in
    let from = c.loop-at.next in
    let row = row_of c.get-row.result in
    elim c.if-is_read.branch [
      | then-is_read+in_ok-push_joined w ↦
          let to = w.first_at_least-next.result in
          let passed : ℕ = to - from in
          let here : from + passed ≡ to = let after = w.first_at_least-next.ensures.after in omega arith in
          let split = sym (take-append-drop passed (drop from right)) ∙ ap (λ rows. take passed (drop from right) ++ rows)
          (drop-drop passed from right ∙ ap (λ k. drop k right) here) in
          let turn = joined_turn _ c.loop-at.made w.push_joined.new.made left (drop from right) (take passed (drop from right))
          (drop to right) i row (read_first left i row c.get-row.ensures (sym c.is_read.ensures ∙ w.if-is_read.true))
          c.requires.left c.loop-at.invariant.order split
          w.first_at_least-next.ensures.smaller w.first_at_least-next.ensures.least w.in_ok-push_joined.ensures.made
          c.loop-at.invariant.made in
          rw (w.made-is, w.next-is, w.steps-is) record {
            made = turn.0;
            within = w.first_at_least-next.ensures.within;
            order = turn.1;
            steps = let a = w.first_at_least-next.ensures.steps in let b = w.push_joined.ensures.steps in let s =
                c.loop-at.invariant.steps in omega arith;
          }
      | else-is_read w ↦ rw (w.made-is, w.next-is, w.steps-is) record {
        made = rw (← left_out left i row c.get-row.ensures (sym c.is_read.ensures ∙ w.if-is_read.false)) c.loop-at.invariant.made;
        within = c.loop-at.invariant.within;
        order = c.loop-at.invariant.order;
        steps = c.loop-at.invariant.steps;
      }
    ]
