use Rattle.std.proofs.Common.{refl}
use Rattle.query_types.proofs.streams.made_zip.Goals as goal

pub returns : goal.returns
returns c = rw (
  c.in_ok-columns.ensures,
  c.in_ok-hidden.ensures,
  c.as_slice-3.ensures,
  c.as_slice-4.ensures,
  c.in_ok-taken.ensures,
  c.as_slice.ensures,
  c.as_slice-2.ensures,
  c.as_slice-5.ensures,
  c.as_slice-6.ensures,
) refl
