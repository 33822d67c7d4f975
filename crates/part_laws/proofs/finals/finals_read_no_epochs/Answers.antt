use Rattle.part_laws.proofs.NoEpochs.{filters_bare, maps_bare, groupbys_bare, joins_bare, tops_bare}
use Rattle.part_laws.proofs.finals.finals_read_no_epochs.Goals as goal

pub returns : goal.returns
returns c = record { filters = filters_bare; maps = maps_bare; groupbys = groupbys_bare; joins = joins_bare; tops = tops_bare }
