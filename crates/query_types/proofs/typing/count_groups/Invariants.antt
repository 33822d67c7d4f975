use Rattle.std.{proofs.Common.{◌≡◌, ◌≤◌, take}, specs.Prelude.count_by}
use Rattle.query_lang.specs.Typing.{is_groupby}
use Rattle.query_types.proofs.typing.count_groups.Given as goal

abbrev pub invariant-loop-item : goal.invariant-loop-item
invariant-loop-item l = record { groups : l.count ≡ count_by is_groupby (take l.item-index l.items); few : l.count ≤ l.item-index }
