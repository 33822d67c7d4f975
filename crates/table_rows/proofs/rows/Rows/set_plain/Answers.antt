use Rattle.std.proofs.Common.{refl}
use Rattle.epoch_model.specs.declared.tables.Mark.TheVariants.{Plain}
use Rattle.table_rows.proofs.SpanFacts.{row_changed}
use Rattle.table_rows.proofs.rows.Rows.set_plain.Goals as goal

pub returns : goal.returns
returns c row here = row_changed _ _ _ _ _ _ row (λ r. record r { mark = Plain; epoch = 0; epochs = 0 })
    c.self.view_is c.requires c.index-span.ensures here refl
