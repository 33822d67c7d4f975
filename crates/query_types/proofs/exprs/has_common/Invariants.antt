use Rattle.std.{proofs.Common.{◌≡◌, drop}, specs.List.list_any}
use Rattle.query_lang.specs.Checks.{is_among}
use Rattle.query_types.proofs.exprs.has_common.Given as goal

abbrev pub invariant-loop-name : goal.invariant-loop-name
invariant-loop-name l =
    list_any (λ name. is_among name l.others) (drop l.name-index l.names) ≡ list_any (λ name. is_among name l.others) l.names
