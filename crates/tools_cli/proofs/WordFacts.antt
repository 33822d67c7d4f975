-- Options, word by word.
use Rattle.std.{proofs.Common.{◌≡◌, ℕ, false, true, List, [], ◌∷◌, map, Some, refl, ap, ◌∙◌}, specs.Option.option_and_then}
use Rattle.tools_cli.specs.Options.{is_dashed, is_option, is_range, options_from, with_option, with_range}
use Rattle.tools_cli.specs.declared.options.SplitOptions.{SplitOptions}

module _ {W : Type 0} (bytes : W → List ℕ) where
  -- an operand is passed over
  pub past_operand : (options : SplitOptions) (words more : List W) (word : W) → words ≡ word ∷ more → is_range (bytes word) ≡ false
      → is_option (bytes word) ≡ false → is_dashed (bytes word) ≡ false
      → options_from options (map bytes words) ≡ options_from options (map bytes more)
  past_operand options words more word is single plain bare = ap (λ ws. options_from options (map bytes ws)) is ∙ by more
    where
      by : (more : List W) → options_from options (map bytes (word ∷ more)) ≡ options_from options (map bytes more)
      by [] = rw (single, plain, bare) refl
      by (next ∷ []) = rw (single, plain, bare) refl
      by (next ∷ third ∷ rest) = rw (single, plain, bare) refl

  -- an option is taken with its value
  pub past_option : (options more : SplitOptions) (words values rest : List W) (name value : W) → words ≡ name ∷ values
      → values ≡ value ∷ rest → is_range (bytes name) ≡ false → is_option (bytes name) ≡ true
      → with_option options (bytes name) (bytes value) ≡ Some more
      → options_from options (map bytes words) ≡ options_from more (map bytes rest)
  past_option options more words values rest name value first second single named is =
      ap (λ ws. options_from options (map bytes ws)) (first ∙ ap (λ vs. name ∷ vs) second) ∙ by rest
    where
      by : (rest : List W) → options_from options (map bytes (name ∷ value ∷ rest)) ≡ options_from more (map bytes rest)
      by [] = rw (single, named) is
      by (next ∷ others) = rw (single, named) (ap (option_and_then (λ o. options_from o (map bytes (next ∷ others)))) is)

  -- and a range with both of its values
  pub past_range : (options more : SplitOptions) (words values others rest : List W) (name first last : W) → words ≡ name ∷ values
      → values ≡ first ∷ others → others ≡ last ∷ rest → is_range (bytes name) ≡ true
      → with_range options (bytes first) (bytes last) ≡ Some more
      → options_from options (map bytes words) ≡ options_from more (map bytes rest)
  past_range options more words values others rest name first last one two three named is =
      ap (λ ws. options_from options (map bytes ws))
      (one ∙ (ap (λ vs. name ∷ vs) two ∙ ap (λ vs. name ∷ first ∷ vs) three))
      ∙ rw named (ap (option_and_then (λ o. options_from o (map bytes rest))) is)
