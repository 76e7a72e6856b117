use Rattle.rows.proofs.Common.{length}
use Rattle.rows.proofs.lines.+push_upright.Given as goal

abbrev pub decreases-push_upright : goal.decreases-push_upright
decreases-push_upright l = length l.cells.now
