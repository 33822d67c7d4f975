use Rattle.query_run.proofs.ViewTexts.{tables_alone}
use Rattle.query_run.proofs.laws.no_views_without_number.Goals as goal

pub returns : goal.returns
returns c = tables_alone
