-- The columns of an earlier stream have slots.
use Rattle.query_types.proofs.NamedFits.{stream_narrow}
use Rattle.query_types.proofs.streams.check_map.Goals as goal

pub stream_columns-requires : goal.stream_columns-requires
stream_columns-requires c = stream_narrow c.args.earlier.now c.args.input c.in_ok-source.source.now c.requires.fits c.in_ok-source.ensures
