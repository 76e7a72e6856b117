use Rattle.std.proofs.Common.{length}
use Rattle.office_advice.proofs.lists.+command_words.Given as goal

abbrev pub decreases-command_words : goal.decreases-command_words
decreases-command_words l = length l.kinds.now
