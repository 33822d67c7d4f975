use Rattle.query_run.proofs.PlanEnds.{plan_reports}
use Rattle.query_run.proofs.report.Report.of_plan.Goals as goal

pub returns-clause-reports : goal.returns-clause-reports
returns-clause-reports c made plan sound from same = plan_reports c.ends_are_the_texts.ensures made plan c.args.prints sound from same
