-- The columns of an earlier stream have slots.
use Rattle.query_types.proofs.NamedFits.{stream_narrow}
use Rattle.query_types.proofs.streams.check_zip.Goals as goal

pub slots_of_right-requires : goal.slots_of_right-requires
slots_of_right-requires c = stream_narrow c.args.earlier.now c.args.second c.in_ok-right.right.now c.requires c.in_ok-right.ensures
