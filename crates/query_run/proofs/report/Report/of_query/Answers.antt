use Rattle.query_run.proofs.QueryEnds.{query_reports}
use Rattle.query_run.proofs.report.Report.of_query.Goals as goal

pub returns-clause-reports : goal.returns-clause-reports
returns-clause-reports c plan of_query = query_reports c.ends_are_the_querys.ensures c.query_tables_are_read.ensures c.args.typed plan
    c.requires.valid of_query
