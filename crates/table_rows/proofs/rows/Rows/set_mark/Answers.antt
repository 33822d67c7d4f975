use Rattle.std.proofs.Common.{refl}
use Rattle.table_rows.proofs.SpanFacts.{row_changed}
use Rattle.table_rows.proofs.rows.Rows.set_mark.Goals as goal

pub returns : goal.returns
returns c row here = row_changed _ _ _ _ _ _ row (λ r. record r { mark = c.args.mark; epoch = c.args.epoch })
    c.self.view_is c.requires c.index-span.ensures here refl
