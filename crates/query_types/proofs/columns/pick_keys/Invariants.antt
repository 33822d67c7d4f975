use Rattle.std.proofs.Common.{◌≡◌, ◌≤◌, [], drop, length}
use Rattle.query_lang.specs.{TypedStreams.keys_from, declared.fault.TheConstants.MAX_KEYS}
use Rattle.query_types.proofs.columns.pick_keys.Given as goal

abbrev pub invariant-loop-key : goal.invariant-loop-key
invariant-loop-key l = record {
  given : keys_from l.columns l.hidden l.found (drop l.key-index l.keys) ≡ keys_from l.columns l.hidden (record { names = []; slots = [] })
      l.keys;
  most : length l.found.names ≤ MAX_KEYS;
}
