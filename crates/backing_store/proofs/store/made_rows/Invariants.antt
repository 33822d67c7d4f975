use Rattle.std.{proofs.Common.{◌≡◌, ◌-◌, ◌<◌, get_or, length, map, take}, specs.List.zip}
use Rattle.backing_store.specs.{Places.{key_there, rows_there}, SortedRows.IsMade, Store.states_at, Stored.stored}
use Rattle.backing_store.{specs.declared.order.Place.Place, proofs.PlaceFacts.place_number}
use Rattle.backing_store.proofs.store.made_rows.Given as goal

abbrev pub invariant-loop-place : goal.invariant-loop-place
invariant-loop-place l = record {
  made : IsMade (map stored (zip l.keys.keys l.merged.items)) l.made (rows_there l.states.rows (take l.place-index l.places));
  keys : map (λ row. row.key) l.made ≡ map (key_there l.keys.keys l.states.rows) (take l.place-index l.places);
  before : (d : Place) → 0 < l.place-index → l.last ≡ place_number l.states.rows (get_or l.places (l.place-index - 1) d);
  begins : l.place-index ≡ 0 → l.last ≡ length l.keys.keys;
  counted : 0 < l.place-index → l.epoch ≡ length (states_at (rows_there l.states.rows (take l.place-index l.places)) l.last);
}
