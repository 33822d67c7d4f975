-- The columns of an earlier stream have slots.
use Rattle.query_types.proofs.NamedFits.{stream_narrow}
use Rattle.query_types.proofs.streams.check_filter.Goals as goal

pub stream_condition-requires : goal.stream_condition-requires
stream_condition-requires c = stream_narrow c.args.earlier.now c.args.input c.in_ok-source.source.now c.requires c.in_ok-source.ensures
