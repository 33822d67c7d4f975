-- The names of the keys, the table's own and those of the bounds of states follow one another, joined as cells.
use Rattle.std.proofs.Common.{◌≡◌, ℕ, ◌<◌, ◌==◌, false, List, length, [], ◌∷◌, ap, sym, ◌∙◌, ◌++◌, append_assoc, codes, inl, inr, arith}
use Rattle.std.{proofs.lemmas.Bool.Decides.eqb_tells, specs.List.flat_map}
use Rattle.table_printer.{specs.TableText.{cells_joined, cells_continued}, proofs.Joined.joined_three}
use Rattle.enclosure_folds.specs.BoundsTables.{bound_names}
use Rattle.enclosure_folds.proofs.printer.push_columns.Goals as goal

abbrev own : List (List ℕ)
own = codes "epochs" ∷ []

some : (keys : List (List ℕ)) → 0 < length keys → false ≡ (length keys == 0)
some keys lt = elim (eqb_tells (length keys) 0) [
  | inl same ↦ absurd (omega (arith, same.1, lt))
  | inr differs ↦ sym differs.0
]

pub returns : goal.returns
returns c =
    let keys = cells_joined c.args.keys.now in
    let middle = cells_continued (codes "mark" ∷ own) in
    let others = cells_continued (flat_map bound_names c.args.states.now) in
    c.in_ok-push_states.ensures
    ∙ ap (λ text. text ++ others) (c.in_ok-push_own_names.ensures ∙ ap (λ text. text ++ middle) c.in_ok-push_names.ensures)
    ∙ ap (λ text. text ++ others) (append_assoc c.args.text.now keys middle)
    ∙ append_assoc c.args.text.now (keys ++ middle) others
    ∙ ap (λ text. c.args.text.now ++ text) (sym (joined_three _ _ _ _
    _ (some _ c.requires)))
