-- One merge, as the front makes it.
use Rattle.std.proofs.Common.{refl}
use Rattle.switch_core.{specs.FrontEvents.with_store, proofs.Carrying.keeps_same}
use Rattle.switch_core.proofs.upkeep.merge_once.Goals as goal

pub returns-clause-carries : goal.returns-clause-carries
returns-clause-carries g c = (with_store c.merge_into.new.self c.merge_into.new.store, c.in_ok-_merged.ensures.carries, refl)

pub returns-clause-sizes : goal.returns-clause-sizes
returns-clause-sizes g c = c.in_ok-_merged.ensures.carries.sizes

pub returns-in_err-_merged-clause-sizes : goal.returns-in_err-_merged-clause-sizes
returns-in_err-_merged-clause-sizes g c =
    keeps_same _ c.merge_into.new.self _ c.merge_into.new.store c.in_err-_merged.ensures.err
