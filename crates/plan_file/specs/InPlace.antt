-- What is made in place of what was there.
use Rattle.std.specs.Prelude.{Bool, true, false}

module _ {T : Type 0} where
  -- Where the answer is yes, the property holds of what was made, and otherwise it holds of nothing.
  abbrev pub Makes : Bool → T → (T → Type 0) → Type 0
  Makes true made P = P made
  Makes false made P = (x : T) → P x → ⊥
