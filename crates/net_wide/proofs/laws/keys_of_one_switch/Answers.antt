use Rattle.net_wide.proofs.OneSwitch.{one_switch}
use Rattle.net_wide.proofs.laws.keys_of_one_switch.Goals as goal

pub returns : goal.returns
returns c = one_switch
