use Rattle.marple_laws.proofs.{Words.{subst, AreLanesOf}, LeftTables.{of_query, of_plan}}
use Rattle.marple_laws.proofs.left.closed_tables.Goals as goal

pub returns-clause-query : goal.returns-clause-query
returns-clause-query g c =
    let p = c.args.pipeline.now in
    of_query p (subst (λ entries. AreLanesOf entries p.plan p.buckets p.lanes) c.requires.entries c.invariant.ensures)
    _ c.in_ok-tables.ensures.closed c.accepted_are_valid.ensures c.ends_are_the_querys.ensures

pub returns-clause-plan : goal.returns-clause-plan
returns-clause-plan g c =
    let p = c.args.pipeline.now in
    of_plan p (subst (λ entries. AreLanesOf entries p.plan p.buckets p.lanes) c.requires.entries c.invariant.ensures)
    c.in_ok-tables.tables c.in_ok-tables.ensures.closed c.ends_are_the_texts.ensures
