-- What is shown of closed epochs, whatever events closed them.
use Rattle.std.specs.Prelude.{◌≡◌, ℕ, ◌<◌, true, List, All, length, map}
use Rattle.query_lang.specs.declared.{fold.TypedFold.TypedFold, typed.Class.Class}
use Rattle.query_lang.specs.declared.typed.Class.TheVariants as class
use Rattle.query_lang.specs.{Folds.{folded, initial_state, IsValidFold}, Words.AreWords}
use Rattle.epoch_model.specs.{Epochs.Geometry, Keys.Key, Laws.{HasRoom, rows_given}, Machine.{Epoch, Event, empty_machine, lists_of, run}}
use Rattle.epoch_model.specs.{Tables.{Folding, closed_epochs, closed_keys}, Timeline.IsSwept}
use Rattle.fold_class.specs.Kinds.{class_of}
use Rattle.enclosure_folds.specs.{Kinds.is_monotone, declared.table.{BoundsRow.BoundsRow, BoundsTable.BoundsTable, Enclosed.Enclosed}}
use Rattle.epoch_entry.specs.{declared.purpose.Entries.TheVariants.Bounds, Foldings.folding_of, Kinds.Sizes, Purposes.IsKindFor}
use Rattle.final_queries.specs.GroupTable.{Heading, closed_table}
use Rattle.enclosure_folds.specs.declared.table.Enclosed.TheVariants as enclosed
use Rattle.enclosure_folds.specs.{Bounds.Encloses, Check.is_bounded, Holding.{HoldsAfter, TakesWords}, KeyBounds.listed_bounds}
use Rattle.enclosure_folds.specs.Shown.{IsHeadingOf, MayBeShown, shown}

-- the row of a key
abbrev pub closed_bounds : TypedFold → List Epoch → Key → BoundsRow
closed_bounds f closed key = listed_bounds f key (lists_of key closed)

-- The table of bounds of closed epochs: a row for each of their keys, in ascending order.
abbrev pub closed_bounds_table : Heading → TypedFold → List Epoch → BoundsTable
closed_bounds_table heading f closed = record {
  name = heading.name;
  key_names = heading.key_names;
  state_names = heading.state_names;
  depth = heading.depth;
  epochs = closed_epochs closed;
  rows = map (closed_bounds f closed) (closed_keys closed);
}

-- What is shown of closed epochs: a linear fold has its table, and any other fold a table of bounds.
abbrev pub closed_by : Class → Heading → TypedFold → List Epoch → Enclosed
closed_by class.Linear heading f closed = enclosed.Linear (closed_table heading (folding_of f) closed)
closed_by class.Other heading f closed = enclosed.Bounds (closed_bounds_table heading f closed)

abbrev pub closed_shown : Heading → TypedFold → List Epoch → Enclosed
closed_shown heading f closed = closed_by (class_of f) heading f closed

-- The table of any closed epochs by entries for bounds may be shown, where their keys have a word for each name of the heading, and
-- gives what is shown of them by their fold.
pub record ClosedTablesGiveBounds : Type 0 where
  pub shown : (heading : Heading) (f : TypedFold) (sizes : Sizes) (folding : Folding) (opening absorbing : ℕ)
      (closed : List Epoch)
      → IsKindFor Bounds f sizes folding opening absorbing → IsHeadingOf f heading
      → shown (closed_table heading folding closed) ≡ closed_shown heading f closed
  pub may : (heading : Heading) (f : TypedFold) (sizes : Sizes) (folding : Folding) (opening absorbing : ℕ)
      (closed : List Epoch)
      → IsKindFor Bounds f sizes folding opening absorbing → IsHeadingOf f heading → IsValidFold f
      → All (λ epoch. length epoch.key ≡ length heading.key_names) closed
      → MayBeShown (closed_table heading folding closed)

-- After any events from an empty machine that leave no epoch open: the bounds of each key that has a packet enclose the fold of a
-- monotone fold over the rows of all its packets, word by word. Where they are equal, both are that fold.
abbrev pub ClosedBoundsEnclose : Type 0
ClosedBoundsEnclose = (f : TypedFold) (g : Geometry) (events : List Event) (key : Key) → HasRoom g
    → IsSwept (run g events (empty_machine g)) → IsValidFold f → is_monotone f ≡ true → AreWords (initial_state f)
    → All AreWords (rows_given key events) → 0 < length (rows_given key events)
    → Encloses (closed_bounds f (run g events (empty_machine g)).closed key).low
    (closed_bounds f (run g events (empty_machine g)).closed key).high (folded f (initial_state f) (rows_given key events))

-- After such events what is shown of the closed epochs of a linear or monotone fold holds over the rows of all packets.
abbrev pub ClosedTablesHold : Type 0
ClosedTablesHold = (heading : Heading) (f : TypedFold) (sizes : Sizes) (folding : Folding) (opening absorbing : ℕ)
    (g : Geometry) (events : List Event) → HasRoom g → IsSwept (run g events (empty_machine g))
    → IsKindFor Bounds f sizes folding opening absorbing → IsHeadingOf f heading → IsValidFold f
    → is_bounded (class_of f) f ≡ true → AreWords (initial_state f) → TakesWords events
    → HoldsAfter f events (shown (closed_table heading folding (run g events (empty_machine g)).closed))
