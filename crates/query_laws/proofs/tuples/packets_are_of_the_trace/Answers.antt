use Rattle.query_laws.proofs.Ascents.{within, stream_rises}
use Rattle.query_laws.proofs.tuples.packets_are_of_the_trace.Goals as goal

pub returns : goal.returns
returns c = λ q number packets. within _ (stream_rises q _ _)
