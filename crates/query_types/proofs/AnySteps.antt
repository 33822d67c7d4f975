-- Whether something holds of one of a list, asked of one item after another.
use Rattle.std.proofs.Common.{◌≡◌, ℕ, ◌+◌, ◌<◌, ◌≤◌, Bool, true, false, ◌||◌, List, length, get_or, drop, sym, ap, ◌∙◌}
use Rattle.std.{proofs.lemmas.List.{drop_more, at_drop_all}, specs.List.list_any}

module _ {X : Type 0} (f : X → Bool) (xs : List X) (i : ℕ) {all : Bool} (so : list_any f (drop i xs) ≡ all) where
  -- it holds of the item
  pub any_found : (x : X) → i < length xs → f (get_or xs i x) ≡ true → true ≡ all
  any_found x h here = sym (ap (list_any f) (drop_more xs i x h) ∙ ap (λ b. b || list_any f (drop (i + 1) xs)) here) ∙ so

  -- it doesn't, and the rest is asked
  pub any_goes_on : (x : X) → i < length xs → f (get_or xs i x) ≡ false → list_any f (drop (i + 1) xs) ≡ all
  any_goes_on x h other = sym (ap (list_any f) (drop_more xs i x h) ∙ ap (λ b. b || list_any f (drop (i + 1) xs)) other) ∙ so

  -- there is no further item
  pub any_ends : length xs ≤ i → false ≡ all
  any_ends h = sym (at_drop_all (list_any f) xs i h) ∙ so
