use Rattle.std.proofs.Common.{refl}
use Rattle.query_types.proofs.streams.made_filter.Goals as goal

pub returns : goal.returns
returns c = rw (c.in_ok-columns.ensures, c.in_ok-hidden.ensures, c.as_slice.ensures, c.as_slice-2.ensures) refl
