use Rattle.std.proofs.Common.{refl}
use Rattle.query_types.proofs.groupbys.made_group.Goals as goal

pub returns : goal.returns
returns c = rw (
  c.in_ok-table.ensures,
  c.in_ok-columns.ensures,
  c.in_ok-hidden.ensures,
  c.as_slice.ensures,
  c.as_slice-2.ensures,
  c.as_slice-3.ensures,
) refl
