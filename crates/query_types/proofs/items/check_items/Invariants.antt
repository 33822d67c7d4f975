use Rattle.std.proofs.Common.{◌≡◌, ◌<◌, ◌^◌, map, drop}
use Rattle.query_lang.specs.Typing.{items_checked}
use Rattle.query_types.specs.{Fitting.Fits, Numbers.{greatest_of, item_number}}
use Rattle.query_types.proofs.items.check_items.Given as goal

abbrev pub invariant-loop-item : goal.invariant-loop-item
invariant-loop-item l = record {
  checked : items_checked l.given l.earlier (drop l.item-index l.items) ≡ items_checked l.given l.fn.start l.items;
  numbers : greatest_of (map item_number (drop l.item-index l.items)) < 2 ^ 64 → greatest_of (map item_number l.items) < 2 ^ 64;
  fits : Fits l.earlier;
}
