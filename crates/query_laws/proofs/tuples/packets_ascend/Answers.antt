use Rattle.query_laws.proofs.Ascents.{increasing, stream_rises}
use Rattle.query_laws.proofs.tuples.packets_ascend.Goals as goal

pub returns : goal.returns
returns c = λ q number packets. increasing 1 _ _ (stream_rises q _ _)
