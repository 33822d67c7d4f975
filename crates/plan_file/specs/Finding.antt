-- What is found, or that there is nothing to find.
use Rattle.std.specs.Prelude.{Option, MatchOption}

module _ {T : Type 0} where
  -- The property holds of what was found, and where nothing was found it holds of nothing.
  abbrev pub Finds : Option T → (T → Type 0) → Type 0
  Finds found P = MatchOption found ((x : T) → P x → ⊥) P
