-- The keys, the table's own names and the others follow one another, joined as the cells of a heading.
use Rattle.std.proofs.Common.{List, ℕ, [], ◌∷◌, ap, sym, ◌∙◌, ◌++◌, append_assoc, codes}
use Rattle.table_printer.{specs.{TableText.{cells_joined, cells_continued}, Parts.parts_from}, proofs.Joined.joined_three}
use Rattle.table_printer.proofs.printer.push_group_names.Goals as goal

abbrev own : List (List ℕ)
own = codes "epoch" ∷ codes "epochs" ∷ []

pub returns : goal.returns
returns c =
    let keys = cells_joined c.args.keys.now in
    let middle = parts_from c.is_empty.result (codes "mark" ∷ own) in
    c.in_ok-push_names-2.ensures
    ∙ ap (λ text. text ++ cells_continued c.args.others.now) (c.in_ok-push_epoch_names.ensures
    ∙ ap (λ text. text ++ middle) c.in_ok-push_names.ensures)
    ∙ ap (λ text. text ++ cells_continued c.args.others.now) (append_assoc c.args.text.now keys middle)
    ∙ append_assoc c.args.text.now (keys ++ middle) (cells_continued c.args.others.now)
    ∙ ap (λ text. c.args.text.now ++ text) (sym (joined_three c.args.keys.now own c.args.others.now (codes "mark") c.is_empty.result c.is_empty.ensures))
