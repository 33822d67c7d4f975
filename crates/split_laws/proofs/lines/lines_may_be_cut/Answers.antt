use Rattle.split_laws.proofs.LineFacts.{lines_may_be_cut_lem}
use Rattle.split_laws.proofs.lines.lines_may_be_cut.Goals as goal

pub returns : goal.returns
returns c = lines_may_be_cut_lem
