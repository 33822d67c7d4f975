use Rattle.query_laws.proofs.{ItemsMeet.item_meets, QueryFaults.all_met}
use Rattle.query_laws.proofs.faults.demands_are_rules.Goals as goal

pub returns : goal.returns
returns c = λ given names items i. (λ h demand asked. item_meets given h.0 h.1 asked, λ met. all_met given met)
