-- How many steps a use of the cache takes.
use Rattle.std.specs.Prelude.{ℕ, ◌+◌, ◌*◌, ◌<◌, ◌≤◌}
use Rattle.bucket_cache.specs.{declared.bucket.Touch.{Touch, TheVariants.Full}, Touches.{touch_cost, replace_cost}}

-- A touch, or a touch that finds the bucket full and the replacement after it, takes at most 2 × ways × (key words + 1) steps.
pub record AreBounded (ways key_words : ℕ) : Type 0 where
  pub touch : (answer : Touch) → touch_cost ways key_words answer ≤ 2 * ways * (key_words + 1)
  pub touch_and_replace : (place : ℕ)
      → touch_cost ways key_words (Full place) + replace_cost ways key_words ≤ 2 * ways * (key_words + 1)

abbrev pub UsesAreBounded : Type 0
UsesAreBounded = (ways key_words : ℕ) → 0 < ways → AreBounded ways key_words
