use Rattle.std.proofs.Common.{◌++◌, ap₂, ◌∙◌}
use Rattle.switch_core.proofs.tables.group_columns.Goals as goal

pub returns : goal.returns
returns c =
    c.in_ok-push_texts-2.ensures
    ∙ ap₂ (λ a b. a ++ b) (c.in_ok-push_texts.ensures ∙ ap₂ (λ a b. a ++ b) c.new-columns.ensures c.as_slice.ensures) c.as_slice-2.ensures
