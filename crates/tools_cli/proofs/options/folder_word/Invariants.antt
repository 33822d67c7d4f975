use Rattle.std.proofs.Common.{length}
use Rattle.tools_cli.proofs.options.folder_word.Given as goal

abbrev pub decreases-words : goal.decreases-words
decreases-words l = length l.left
