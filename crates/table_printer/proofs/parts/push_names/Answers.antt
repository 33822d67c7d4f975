use Rattle.std.proofs.{Common.{ap, ◌∙◌, ◌++◌, ◌∷◌, []}, lemmas.List.{drop_more, drop_all}}
use Rattle.table_printer.{specs.Parts.parts_from, proofs.Joined.{written, all_written}}
use Rattle.table_printer.proofs.parts.push_names.Goals as goal

pub names-preserved : goal.names-preserved
names-preserved c =
    let item = c.as_slice.ensures ∙ c.name-item.is in
    let wrote = c.in_ok-push_part.ensures ∙ ap (λ part. c.names.text ++ parts_from c.names.is_first (part ∷ [])) item in
    written _ c.names.text _ c.names.is_first _ _ _ (drop_more c.args.names.now c.names.name-index c.name-item.result c.names-test.true)
    c.names.invariant wrote

pub returns : goal.returns
returns c = all_written _ c.names.text c.names.is_first _ (drop_all c.names.name-index c.args.names.now c.names-test.false)
    c.names.invariant
