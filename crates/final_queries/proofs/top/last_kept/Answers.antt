use Rattle.std.proofs.Common.{rules}
use Rattle.final_queries.proofs.TopSteps.{split_count}
use Rattle.final_queries.proofs.top.last_kept.Goals as goal

pub returns : goal.returns
returns c rank = split_count c.args.ranks.now _ _ c.select_nth_unstable-last.result.1.now rank c.args.kept
    c.select_nth_unstable-last.ensures.permutation c.select_nth_unstable-last.ensures.front_len c.requires
    (λ k d within. let h = c.select_nth_unstable-last.ensures.partitioned.0 k d within in search rules)
    (λ k d within. let h = c.select_nth_unstable-last.ensures.partitioned.1 k d within in search rules)
