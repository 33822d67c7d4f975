-- The check of items whose names are known.
use Rattle.std.specs.Prelude.{ℕ, List}
use Rattle.query_lang.specs.{declared.{fault.Span.Span, query.Item.Item, typed.TypedQuery.TypedQuery}, Checks.{Checked, and_then}}
use Rattle.query_lang.specs.Typing.{given_of, start_of, items_checked, ended}

-- the typed query of these items, whose names are these and those of all fields
abbrev pub checked_with : List (List ℕ) → List Item → Span → Checked TypedQuery
checked_with names items end = and_then (items_checked (given_of names items) (start_of names) items) (ended names end)
