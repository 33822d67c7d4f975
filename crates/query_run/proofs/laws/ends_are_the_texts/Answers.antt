use Rattle.query_run.proofs.PlanEnds.{ends_are}
use Rattle.query_run.proofs.laws.ends_are_the_texts.Goals as goal

pub returns : goal.returns
returns c = ends_are c.alike_foldings_make_one_table.ensures c.closed_give_the_group_table.ensures c.taken_uses_are_in_trace.ensures
