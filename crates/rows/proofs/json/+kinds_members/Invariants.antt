use Rattle.rows.proofs.Common.{length}
use Rattle.rows.proofs.json.+kinds_members.Given as goal

abbrev pub decreases-kinds_members : goal.decreases-kinds_members
decreases-kinds_members l = length l.kinds.now
