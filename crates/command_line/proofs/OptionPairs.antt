-- Options, pair by pair.
use Rattle.std.{proofs.Common.{◌≡◌, ℕ, List, ◌∷◌, map, Some, ap, ◌∙◌}, specs.Option.option_and_then}
use Rattle.command_line.specs.{Command.{options_from, with_option}, declared.options.Options.Options}

-- one pair more, and then the others
pub options_from_pair : {W : Type 0} (bytes : W → List ℕ) (options more : Options) (words values rest : List W) (name value : W)
    → words ≡ name ∷ values → values ≡ value ∷ rest → with_option options (bytes name) (bytes value) ≡ Some more
    → options_from options (map bytes words) ≡ options_from more (map bytes rest)
options_from_pair bytes options more words values rest name value first second named =
    ap (λ ws. options_from options (map bytes ws)) (first ∙ ap (λ vs. name ∷ vs) second)
    ∙ ap (option_and_then (λ o. options_from o (map bytes rest))) named
