-- The bounds of the key of an example, from their definition.
use Rattle.std.{proofs.Common.{◌≡◌, ℕ, ◌-◌, ◌^◌, Bool, List, [], ◌∷◌, map, replicate, ap, ◌∙◌}, specs.Prelude.fold}
use Rattle.query_lang.specs.{declared.fold.TypedFold.TypedFold, Blocks.Block, Folds.{after, fold_block, initial_state}}
use Rattle.epoch_model.specs.Keys.{ArgRow}
use Rattle.enclosure_folds.specs.{MonotoneExamples.HasBody, Bounds.{low_bound, high_bound, is_exact}, Examples.AreKeyBounds}
use Rattle.epoch_entry.specs.{Triples.beside, Bounds.bounds_after}

abbrev triple_by : ℕ → Block → List ℕ → List ArgRow → List ℕ
triple_by n b start rows = beside (fold (λ s a. after b a s) start rows) (fold (λ s a. after b a s) (replicate n 0) rows)
    (fold (λ s a. after b a s) (replicate n (2 ^ 64 - 1)) rows)

triples_are : (b : Block) (f : TypedFold) (lists : List (List ArgRow)) → HasBody f 1 b → initial_state f ≡ 0 ∷ []
    → map (bounds_after f) lists ≡ map (triple_by 1 b (0 ∷ [])) lists
triples_are b f lists h e =
    ap (λ z. map (triple_by z (fold_block f) (initial_state f)) lists) h.0
    ∙ ap (λ z. map (triple_by 1 z (initial_state f)) lists) h.1
    ∙ ap (λ z. map (triple_by 1 b z) lists) e

pub key_bounds : (b : Block) (lists : List (List ArgRow)) (low high : ℕ) (mark : Bool)
    → low_bound 1 (map (triple_by 1 b (0 ∷ [])) lists) ≡ low ∷ [] → high_bound 1 (map (triple_by 1 b (0 ∷ [])) lists) ≡ high ∷ []
    → is_exact (low ∷ []) (high ∷ []) ≡ mark → AreKeyBounds b lists low high mark
key_bounds b lists low high mark el eh em f h e =
    let t = triples_are b f lists h e in
    let l = ap (low_bound 1) t ∙ el in
    let u = ap (high_bound 1) t ∙ eh in
    (l, u, ap (λ z. is_exact z (high_bound 1 (map (bounds_after f) lists))) l ∙ ap (is_exact (low ∷ [])) u ∙ em)
