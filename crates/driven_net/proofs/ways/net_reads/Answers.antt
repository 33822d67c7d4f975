use Rattle.std.proofs.{Common.{[], ◌∷◌, sym, ap, ◌∙◌}, lemmas.List.Sums.fold-append}
use Rattle.marple_base.specs.{declared.field.Field.TheVariants.Switch, Field.{no_fields, with_field}}
use Rattle.stage_plan.specs.Fields.{read_fields}
use Rattle.driven_net.proofs.ways.net_reads.Goals as goal

pub returns : goal.returns
returns c q p =
    c.with.ensures.bits ∙ ap (λ r. with_field r Switch) (c.reads.ensures ∙ p.reads)
    ∙ sym (fold-append with_field no_fields (read_fields q) (Switch ∷ []))
