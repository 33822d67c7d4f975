use Rattle.net_wide.proofs.SameTexts.{same_text}
use Rattle.net_wide.proofs.laws.switches_do_not_wait.Goals as goal

pub returns : goal.returns
returns c = same_text
