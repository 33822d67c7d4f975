use Rattle.split_fields.proofs.PieceFacts.{splits_are_of_packets_lem}
use Rattle.split_fields.proofs.laws.splits_are_of_packets.Goals as goal

pub returns : goal.returns
returns c = splits_are_of_packets_lem
