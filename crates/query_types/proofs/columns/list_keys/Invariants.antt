use Rattle.std.proofs.Common.{◌≡◌, ◌++◌, drop, flat_map}
use Rattle.query_lang.specs.TypedStreams.{key_names}
use Rattle.query_types.proofs.columns.list_keys.Given as goal

abbrev pub invariant-loop-key : goal.invariant-loop-key
invariant-loop-key l = l.names ++ flat_map (key_names l.five) (drop l.key-index l.keys) ≡ flat_map (key_names l.five) l.keys
