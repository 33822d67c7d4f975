use Rattle.part_laws.proofs.Composing.{filters_stay, maps_stay, joins_stay}
use Rattle.part_laws.proofs.finals.finals_stay_of_parts.Goals as goal

pub returns : goal.returns
returns c = record { filters = filters_stay; maps = maps_stay; joins = joins_stay }
