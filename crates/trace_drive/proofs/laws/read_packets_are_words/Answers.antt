use Rattle.trace_drive.proofs.ReadWords.{read_words}
use Rattle.trace_drive.proofs.laws.read_packets_are_words.Goals as goal

pub returns : goal.returns
returns c = read_words
