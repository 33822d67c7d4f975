-- The columns of an earlier stream have slots.
use Rattle.query_types.proofs.NamedFits.{stream_narrow}
use Rattle.query_types.proofs.groupbys.check_group.Goals as goal

pub stream_keys-requires : goal.stream_keys-requires
stream_keys-requires c = stream_narrow c.args.earlier.now c.args.input c.in_ok-source.source.now c.requires c.in_ok-source.ensures

pub stream_arguments-requires : goal.stream_arguments-requires
stream_arguments-requires c = stream_narrow c.args.earlier.now c.args.input c.in_ok-source.source.now c.requires c.in_ok-source.ensures
