-- What is shown of a groupby, by the table that a lane for bounds gives.
use Rattle.std.specs.Prelude.{◌≡◌, ℕ, ◌<◌, ◌≤◌, List, All, length}
use Rattle.query_lang.specs.declared.fold.TypedFold.{TypedFold}
use Rattle.query_lang.specs.declared.typed.Class.TheVariants as class
use Rattle.query_lang.specs.{Folds.{fold_states, IsValidFold}, declared.fault.TheConstants.MAX_KEYS}
use Rattle.epoch_model.specs.{Epochs.{Use, Geometry}, Tables.Folding}
use Rattle.fold_class.specs.Kinds.{class_of}
use Rattle.epoch_entry.specs.{declared.purpose.Entries.TheVariants.Bounds, Kinds.Sizes, Purposes.IsKindFor}
use Rattle.final_queries.specs.{declared.table.{Table.Table, TableKind.{TableKind, TheVariants.Group}}, GroupTable.{Heading, group_table}}
use Rattle.enclosure_folds.specs.declared.table.Enclosed.{Enclosed}
use Rattle.enclosure_folds.specs.declared.table.Enclosed.TheVariants as enclosed
use Rattle.enclosure_folds.specs.KeyBounds.{HasTriples, table_bounds, enclosed_table}

-- a table of a fold that isn't linear has its bounds, and any other table is shown unchanged
abbrev pub shown_by : TableKind → Table → Enclosed
shown_by (Group class.Other depth epochs) t = enclosed.Bounds (table_bounds t)
shown_by _ t = enclosed.Linear t

abbrev pub shown : Table → Enclosed
shown t = shown_by t.kind t

-- a table of a fold that isn't linear has three states in each of its rows, and 1 to 8 keys
pub record HasBoundsRows (t : Table) : Type 0 where
  pub triples : HasTriples t
  pub some_keys : 0 < t.keys
  pub most_keys : t.keys ≤ MAX_KEYS

abbrev pub MayBeShownBy : TableKind → Table → Type 0
MayBeShownBy (Group class.Other depth epochs) t = HasBoundsRows t
MayBeShownBy _ t = Unit {0}

abbrev pub MayBeShown : Table → Type 0
MayBeShown t = MayBeShownBy t.kind t

-- a heading of a groupby of this fold, with 1 to 8 keys
pub record IsHeadingOf (f : TypedFold) (heading : Heading) : Type 0 where
  pub class : heading.class ≡ class_of f
  pub states : length heading.state_names ≡ fold_states f
  pub some_keys : 0 < length heading.key_names
  pub most_keys : length heading.key_names ≤ MAX_KEYS

-- The table of a groupby's uses by entries for bounds gives what is shown of the groupby by its fold.
pub record TablesGiveBounds : Type 0 where
  pub shown : (heading : Heading) (f : TypedFold) (sizes : Sizes) (folding : Folding) (opening absorbing : ℕ)
      (g : Geometry) (uses : List Use)
      → IsKindFor Bounds f sizes folding opening absorbing → IsHeadingOf f heading
      → shown (group_table heading folding g uses) ≡ enclosed_table heading f g uses
  pub may : (heading : Heading) (f : TypedFold) (sizes : Sizes) (folding : Folding) (opening absorbing : ℕ) (g : Geometry)
      (uses : List Use)
      → IsKindFor Bounds f sizes folding opening absorbing → IsHeadingOf f heading → IsValidFold f
      → All (λ u. length u.key ≡ length heading.key_names) uses
      → MayBeShown (group_table heading folding g uses)
