-- The words of one key are at most those of all ways, so no touch, nor one with a replacement, costs more than the bound.
use Rattle.std.proofs.Common.{◌≤◌, ◌*◌, ◌+◌, ℕ, arith}
use Rattle.bucket_cache.specs.{declared.bucket.Touch.{Touch, TheVariants.{Hit, Free, Full}}, Touches.touch_cost, Bounds.UsesAreBounded}
use Rattle.bucket_cache.proofs.FlatRows.{row_fits}
use Rattle.bucket_cache.proofs.uses_are_bounded.Goals as goal

touch_bound : (ways key_words : ℕ) (answer : Touch) → key_words ≤ ways * key_words → touch_cost ways key_words answer ≤ 2 * ways
    * (key_words + 1)
touch_bound ways key_words (Hit place) h = omega arith
touch_bound ways key_words (Free place) h = omega arith
touch_bound ways key_words (Full place) h = omega arith

bounded : UsesAreBounded
bounded ways key_words some =
    let fits = row_fits 0 ways key_words some in
    let one : key_words ≤ ways * key_words = omega arith in
    record {
      touch = λ answer. touch_bound ways key_words answer one;
      touch_and_replace = λ place. omega arith;
    }

pub returns : goal.returns
returns c = bounded
