use Rattle.trace_pieces.proofs.ContentFacts.{runs_read_the_whole_lem}
use Rattle.trace_pieces.proofs.laws.runs_read_the_whole.Goals as goal

pub returns : goal.returns
returns c = runs_read_the_whole_lem
