use Rattle.dbc_advice.proofs.Common.{length}
use Rattle.dbc_advice.proofs.sentences.+listed.Given as goal

abbrev pub decreases-listed : goal.decreases-listed
decreases-listed l = length l.wanted.now
