use Rattle.std.proofs.Common.{refl}
use Rattle.query_types.proofs.typing.start_from.Goals as goal

pub returns : goal.returns
returns c = rw (
  c.in_ok-push.ensures.ok,
  c.new-known.ensures,
  c.in_ok-stream.ensures,
  c.find-name.ensures,
  c.requires.fields,
  c.new.ensures,
  c.new-2.ensures,
  c.new-3.ensures,
  c.new-4.ensures,
  c.new-5.ensures,
) refl
